use Rattle.prefix.specs.Prefix.{entry}
use Rattle.mapped.specs.Numbers.{numbers_at, end_of, numbers_left, end_left}
use Rattle.mapped.proofs.NumberLaws.{Testing}
use Rattle.annotation.specs.Annotation.{under_one}
use Rattle.annotation.proofs.all_under.Given as goal

abbrev pub invariant-loop-u : goal.invariant-loop-u
invariant-loop-u l = Testing (under_one (entry l.prefix) l.e) (numbers_at l.line l.at) (end_of l.line l.at) (numbers_left l.u-iterator) (end_left l.u-iterator)
