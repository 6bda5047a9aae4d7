use native.Mathlib.Omega.{arith}
use Rattle.lines.specs.declared.Class.TheVariants.{LineEnd}
use Rattle.lines.proofs.Tables.{among_all}
use Rattle.lines.proofs.is_line_end.Goals as goal

pub returns : goal.returns
returns c = among_all LineEnd 10 11 _ (λ h. (omega (arith, h), omega (arith, h))) c.among.ensures
