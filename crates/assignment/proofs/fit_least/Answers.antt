use Rattle.assignment.proofs.HeldLaws.{noted_none}
use Rattle.assignment.proofs.fit_least.Goals as goal

pub copies_fit-requires : goal.copies_fit-requires
copies_fit-requires c = noted_none _ 0

pub copies_fit-requires-2 : goal.copies_fit-requires-2
copies_fit-requires-2 c = noted_none _ 4097
