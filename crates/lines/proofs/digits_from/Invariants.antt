-- The loop: the digits that are left, after the value so far, say what all of them say. Assumes nothing.
use mathlib.Core.Path.{◌≡◌}
use Prim.Native.Nat.{◌≤◌}
use lib.ListN.{drop}
use Rattle.lines.specs.Scan.{cap, digits_in}
use Rattle.lines.proofs.Numbers.{on}
use Rattle.lines.proofs.digits_from.Given as goal

abbrev pub invariant-loop-i : goal.invariant-loop-i
invariant-loop-i l = (l.v ≤ cap) × (on l.v (drop l.i l.word) ≡ digits_in (drop l.from l.word))
