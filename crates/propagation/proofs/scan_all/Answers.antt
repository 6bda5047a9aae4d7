use native.Mathlib.Omega.{arith}
use mathlib.Core.Path.{◌∙◌, sym}
use Rattle.propagation.proofs.AnswerLaws.{scanning_off}
use Rattle.propagation.proofs.ClauseLaws.{scan_open, scan_true}
use Rattle.propagation.proofs.scan_all.Goals as goal
use Rattle.propagation.proofs.scan_all.Goals.{then-stands+in-Unit+else-not-is_true, then-stands+in-Open, else-stands}

pub loop-place-preserved : goal.loop-place-preserved
loop-place-preserved c = elim c.if-stands.branch [
  | then-stands+in-Unit+else-not-is_true w ↦ scan_true _ _ _ _ (omega arith) c.stands.ensures w.if-stands.true _ w.clause.ensures _ w.read_clause.ensures c.loop-place.invariant w.in-Unit.is w.is_true.ensures w.if-not-is_true.false
  | then-stands+in-Open w ↦ scan_open _ _ _ _ (omega arith) c.stands.ensures w.if-stands.true _ w.clause.ensures _ w.read_clause.ensures c.loop-place.invariant w.in-Open.is
  | else-stands w ↦ scanning_off _ _ _ _ _ c.loop-place.invariant (omega arith) (sym c.stands.ensures ∙ w.if-stands.false)
]
