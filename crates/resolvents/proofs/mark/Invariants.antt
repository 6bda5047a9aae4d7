use mathlib.Core.Path.{◌≡◌}
use Rattle.cells.specs.Codes.{codes_left}
use Rattle.resolvents.specs.Marks.{each, to}
use Rattle.resolvents.proofs.mark.Given as goal

abbrev pub invariant-loop-y : goal.invariant-loop-y
invariant-loop-y l = each (to 1) (codes_left l.y-iterator) l.seen ≡ each (to 1) (codes_left l.fn.clause) l.initial.seen
