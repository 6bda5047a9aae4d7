-- The loop: the digits before the place say the value so far, and the word from there on ends where the number does. Assumes nothing.
use Rattle.lines.proofs.Walks.{Walked}
use Rattle.lines.proofs.unsigned_at.Given as goal

abbrev pub invariant-loop-i : goal.invariant-loop-i
invariant-loop-i l = Walked l.line l.from l.v l.i
