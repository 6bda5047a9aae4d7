use Rattle.assignment.proofs.HeldLaws.{left_all}
use Rattle.assignment.proofs.least.Least.take_back.Goals as goal

pub loop-y-init : goal.loop-y-init
loop-y-init c = left_all _ _ _ c.args.self.now.room.1
