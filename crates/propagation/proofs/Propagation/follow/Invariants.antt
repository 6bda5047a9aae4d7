use Rattle.clauses.specs.Standing.{standing_of}
use Rattle.trail.specs.Trail.{ReadyIn}
use Rattle.propagation.specs.Answers.{Good, MovedIn}
use Rattle.propagation.proofs.Propagation.follow.Given as goal

abbrev pub invariant-loop-i : goal.invariant-loop-i
invariant-loop-i l = ReadyIn l.initial.self.trail → MovedIn (Good (standing_of l.standing)) l.initial.self.trail l.self.trail
