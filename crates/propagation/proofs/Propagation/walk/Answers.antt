use native.Mathlib.Omega.{arith}
use Rattle.propagation.proofs.AnswerLaws.{turned_moved, moved_on, moved_as}
use Rattle.propagation.proofs.Propagation.walk.Goals as goal
use Rattle.propagation.proofs.Propagation.walk.Goals.{then-seems_true, else-seems_true+in-Some}

pub loop-preserved : goal.loop-preserved
loop-preserved c = λ r. elim c.if-seems_true.branch [
  | then-seems_true w ↦ moved_as w.self-is (c.loop.invariant r)
  | else-seems_true+in-Some w ↦ let m = c.loop.invariant r in
      moved_as w.self-is (moved_on m (turned_moved w.in-Some.is (w.judge.ensures m.ready (omega arith))))
]
