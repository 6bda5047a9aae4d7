use Rattle.mapped.specs.Numbers.{numbers_at, end_of, numbers_left, end_left}
use Rattle.annotation.proofs.RisingLaws.{Rising}
use Rattle.annotation.proofs.rises.Given as goal

abbrev pub invariant-loop-u : goal.invariant-loop-u
invariant-loop-u l = Rising (numbers_at l.line l.at) (end_of l.line l.at) l.last (numbers_left l.u-iterator) (end_left l.u-iterator)
