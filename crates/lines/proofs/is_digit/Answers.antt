use native.Mathlib.Omega.{arith}
use Rattle.lines.specs.declared.Class.TheVariants.{Digit}
use Rattle.lines.proofs.Tables.{among_all}
use Rattle.lines.proofs.is_digit.Goals as goal

pub returns : goal.returns
returns c = among_all Digit 48 58 _ (λ h. (omega (arith, h), omega (arith, h))) c.among.ensures
