use mathlib.Core.Path.{◌≡◌}
use Rattle.cells.specs.Codes.{codes_left}
use mathlib.Core.Bool.{◌&&◌}
use Rattle.resolvents.specs.Marks.{each, to, covered}
use Rattle.resolvents.proofs.unmark.Given as goal

abbrev pub invariant-loop-y : goal.invariant-loop-y
invariant-loop-y l = ((l.all && covered l.seen (codes_left l.y-iterator)) ≡ covered l.initial.seen (codes_left l.fn.clause))
    × (each (to 0) (codes_left l.y-iterator) l.seen ≡ each (to 0) (codes_left l.fn.clause) l.initial.seen)
