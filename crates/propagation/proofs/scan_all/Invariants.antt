use Rattle.propagation.proofs.AnswerLaws.{Scanning}
use Rattle.propagation.proofs.scan_all.Given as goal

abbrev pub invariant-loop-place : goal.invariant-loop-place
invariant-loop-place l = Scanning l.standing.proof.now l.standing.marks.now l.trail.falses l.standing.count l.place
