-- The loop: what the entries before the place tell. Assumes nothing.
use mathlib.Core.Path.{◌≡◌}
use Prim.Native.Nat.{◌≤◌}
use Rattle.lines.specs.Bytes.{among_entries}
use Rattle.lines.proofs.among.Given as goal

abbrev pub invariant-loop-i : goal.invariant-loop-i
invariant-loop-i l = (l.low ≤ l.i) × (l.i ≤ l.high) × (l.found ≡ among_entries l.class l.low l.i l.b)
