use native.Mathlib.Omega.{arith}
use Rattle.lines.specs.declared.Class.TheVariants.{Minus}
use Rattle.lines.proofs.Tables.{among_all}
use Rattle.lines.proofs.is_minus.Goals as goal

pub returns : goal.returns
returns c = among_all Minus 45 46 _ (λ h. (omega (arith, h), omega (arith, h))) c.among.ensures
