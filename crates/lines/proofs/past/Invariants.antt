-- The loop: from the place on, the run ends where the run from the start does. Assumes nothing.
use mathlib.Core.Path.{◌≡◌}
use Prim.Native.Nat.{◌+◌}
use lib.ListN.{drop}
use Rattle.lines.specs.Scan.{passes, run}
use Rattle.lines.proofs.past.Given as goal

abbrev pub invariant-loop-i : goal.invariant-loop-i
invariant-loop-i l = l.at + run (passes l.k) (drop l.at l.s) ≡ l.i + run (passes l.k) (drop l.i l.s)
