use Rattle.deletion.proofs.DeletionLaws.{listed_more, more_by}
use Rattle.deletion.proofs.list_literal.Goals as goal

pub returns : goal.returns
returns c = λ l h. let a = c.assume.ensures l.trailed.shape h in (listed_more _ _ _ _ l h _ _ _ a, more_by _ _ _ _ l h _ _ _ a)
