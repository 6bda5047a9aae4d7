use mathlib.Core.Path.{◌≡◌}
use Rattle.cells.specs.Codes.{codes_left}
use Rattle.resolvents.specs.declared.Strays.TheVariants.{None}
use Rattle.resolvents.specs.Marks.{each, raise, lacks, stray}
use Rattle.resolvents.proofs.stray.Given as goal

abbrev pub invariant-loop-y : goal.invariant-loop-y
invariant-loop-y l = (stray (lacks l.seen) (codes_left l.y-iterator) l.p ≡ stray (lacks l.initial.seen) (codes_left l.fn.clause) None)
    × (each (raise l.sign) (codes_left l.y-iterator) l.seen ≡ each (raise l.sign) (codes_left l.fn.clause) l.initial.seen)
