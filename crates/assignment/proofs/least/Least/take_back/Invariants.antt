use Rattle.assignment.specs.Least.{HeldIn}
use Rattle.assignment.proofs.HeldLaws.{Left}
use Rattle.assignment.proofs.least.Least.take_back.Given as goal
use Rattle.std.proofs.Common.{drop}

abbrev pub invariant-loop-y : goal.invariant-loop-y
invariant-loop-y l = HeldIn l.fn.self → Left l.seen (drop l.y-index l.y-items)
