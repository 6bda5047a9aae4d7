use Rattle.formula.proofs.OneLine.{read_in}
use Rattle.formula.proofs.read_line.Goals as goal

pub returns-in_default : goal.returns-in_default
returns-in_default c = read_in c.in_default.is (c.line_first.ensures c.args.matrix.now)
