use Rattle.clauses.specs.Standing.{standing_of}
use Rattle.propagation.specs.Answers.{Good, MovedIn}
use Rattle.propagation.proofs.MoveLaws.{moved_refl}
use Rattle.propagation.proofs.AnswerLaws.{visited_moved, visited_on, moved_as, told_stable}
use Rattle.propagation.proofs.Propagation.ground.Goals as goal
use Rattle.propagation.proofs.Propagation.ground.Goals.{else-q-eq0-via-then-q-eq0+else-eq, else-q-eq0-via-else-q-eq0}

pub returns : goal.returns
returns c = λ r.
    let m : MovedIn (Good (standing_of c.args.standing)) c.args.self.now.trail c.else-q-eq0.self.trail = elim c.else-q-eq0.branch [
      | else-q-eq0-via-then-q-eq0+else-eq w ↦ moved_as w.self-is (visited_moved (told_stable _ w.eq.ensures w.if-eq.false) (w.walk.ensures r))
      | else-q-eq0-via-else-q-eq0 w ↦ moved_as w.self-is (moved_refl _ _ _ _ r)
    ] in
    visited_on _ _ _ m _ (c.follow.ensures m.ready)
