-- The loop: so many bytes 10 are left to pass from the place on. Assumes nothing.
use Prim.Native.Nat.{◌-◌}
use Rattle.lines.proofs.Parts.{Left}
use Rattle.lines.proofs.line_start.Given as goal

abbrev pub invariant-loop : goal.invariant-loop
invariant-loop l = Left l.s l.line l.at (l.line - l.counter)
