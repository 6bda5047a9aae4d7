use Rattle.prefix.specs.Prefix.{entry}
use Rattle.mapped.specs.Numbers.{numbers_at, end_of, numbers_left, end_left}
use Rattle.annotation.proofs.AnnotationLaws.{Walking}
use Rattle.annotation.proofs.existentials.Given as goal

abbrev pub invariant-loop-e : goal.invariant-loop-e
invariant-loop-e l = Walking (entry l.prefix) (numbers_at l.line l.at) (end_of l.line l.at) (numbers_left l.e-iterator) (end_left l.e-iterator) l.narrowest
