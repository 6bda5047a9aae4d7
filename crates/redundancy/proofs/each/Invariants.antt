use Rattle.clauses.specs.Standing.{standing_of}
use Rattle.cells.specs.Codes.{codes_left}
use Rattle.trail.specs.Trail.{ReadyIn}
use Rattle.redundancy.specs.Additions.{FollowsIn}
use Rattle.redundancy.proofs.AdditionLaws.{Walking}
use Rattle.redundancy.proofs.each.Given as goal

abbrev pub invariant-loop-k : goal.invariant-loop-k
invariant-loop-k l = ReadyIn l.initial.propagation.trail → FollowsIn (standing_of l.standing) (codes_left l.c) l.initial.propagation.trail
    → Walking l.standing.proof.now l.standing.marks.now l.standing.count l.l (codes_left l.c) l.initial.propagation.trail.literals l.initial.propagation.trail.length l.propagation.trail.falses l.propagation.trail.literals l.propagation.trail.length l.k
