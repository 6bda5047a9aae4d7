use Rattle.mapped.specs.Numbers.{numbers_at, end_of, numbers_left, end_left}
use Rattle.mapped.proofs.MarkLaws.{Noting}
use Rattle.mapped.proofs.note.Given as goal

abbrev pub invariant-loop-copy : goal.invariant-loop-copy
invariant-loop-copy l = Noting (numbers_at l.line l.at) l.initial.noted (end_of l.line l.at) (numbers_left l.copy-iterator) l.noted (end_left l.copy-iterator)
