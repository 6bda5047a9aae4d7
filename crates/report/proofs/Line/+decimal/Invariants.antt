-- The number falls to a tenth of it. Assumes nothing.
use Rattle.report.proofs.Line.+decimal.Given as goal

abbrev pub decreases-decimal : goal.decreases-decimal
decreases-decimal l = l.n
