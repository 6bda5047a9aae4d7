use Rattle.formula.proofs.FileLaws.{overlong, read_whole}
use Rattle.formula.proofs.read_formula.Goals as goal

pub returns-then-formula-gt-BYTES : goal.returns-then-formula-gt-BYTES
returns-then-formula-gt-BYTES c = overlong _ _ _ c.if-formula-gt-BYTES.true c.into.ensures

pub returns : goal.returns
returns c = read_whole _ _ _ c.if-formula-gt-BYTES.false c.read_lines.ensures
