use Rattle.literals.proofs.MarkLaws.{walks_fit}
use Rattle.literals.proofs.literals_fit.Goals as goal

pub returns : goal.returns
returns c = walks_fit _ _ _ _ _ c.mark.ensures c.stamp_line-a.ensures c.take_back-b.ensures
