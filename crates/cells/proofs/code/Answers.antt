use native.Mathlib.Omega.{arith}
use mathlib.Core.Path.{ap}
use Prim.Native.Nat.{◌%◌}
use Rattle.cells.specs.Cells.{code_at}
use Rattle.cells.proofs.code.Goals as goal

pub returns : goal.returns
unfolding code_at
returns c = (ap (λ n. n % 65536) c.cell.ensures, omega arith)
