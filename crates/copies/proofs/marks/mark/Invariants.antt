use mathlib.Core.Path.{◌≡◌}
use Rattle.cells.specs.Codes.{codes_left}
use Rattle.copies.specs.Marks.{marks}
use Rattle.copies.proofs.marks.mark.Given as goal

abbrev pub invariant-loop-y : goal.invariant-loop-y
invariant-loop-y l = marks (codes_left l.y-iterator) l.seen ≡ marks (codes_left l.codes) l.initial.seen
