-- The loop: how many of the bytes so far stand before the line's end, and whether none ends it. Assumes nothing.
use lib.ListN.{take}
use Rattle.lines.proofs.Runs.{Counted}
use Rattle.lines.proofs.before_end.Given as goal

abbrev pub invariant-loop-b : goal.invariant-loop-b
invariant-loop-b l = Counted (take 7 l.block) 0 l.n l.more l.b-index
