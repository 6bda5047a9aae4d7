use Prim.Native.Nat.{◌≤◌, ◌+◌, ◌*◌}
use lib.ListN.{take}
use Rattle.report.specs.Written.{Adds, after_commas}
use Rattle.report.proofs.Line.fields.Given as goal

abbrev pub invariant-loop-n : goal.invariant-loop-n
invariant-loop-n l = (l.self.end ≤ l.fn.self.end + 11 * l.n-index) × Adds l.fn.self (after_commas (take l.n-index l.fields)) l.self
