use Rattle.deletion.proofs.DeletionLaws.{one_deleted}
use Rattle.deletion.proofs.take_earliest.Goals as goal

pub returns : goal.returns
returns c = λ l. rw c.remove.ensures (one_deleted _ _ _ _ _ (c.in-Some.ensures l))
