use Rattle.std.proofs.lemmas.Result.{err_from_is_err_and}
use Rattle.rules.proofs.RuleLaws.{asked_some, asked_none}
use Rattle.formula.proofs.BindingLaws.{binding_bad, binding_signed, binding_empty, binding_late, binding_high, binding_refused, binding_done}
use Rattle.formula.proofs.TableLaws.{number_low, number_small}
use Rattle.formula.proofs.binding_line.Goals as goal
use Rattle.formula.proofs.binding_line.Goals.{then-list-via-then-list, then-list-via-else-list+then-list-eq0, then-list-via-else-list+else-list-eq0+then-r-ne0}

pub returns-in_err-list : goal.returns-in_err-list
returns-in_err-list c =
    let p = err_from_is_err_and c.from_residual.result c.from_residual.ensures.1 in
    let h = asked_none _ _ c.clause_at.ensures c.ok_or.ensures.value c.in_err-list.was in
    λ m. rw (p.1, p.2, h.0) (binding_bad _ _ _ _ _ m h.1)

pub returns-then-list : goal.returns-then-list
returns-then-list c = λ m. let list = asked_some _ _ c.clause_at.ensures c.ok_or.ensures.value c.in_ok-list.was in elim c.then-list.branch [
  | then-list-via-then-list w ↦ binding_signed _ _ _ _ _ m list w.if-list.true
  | then-list-via-else-list+then-list-eq0 w ↦ binding_empty _ _ _ _ _ m list w.if-list.false w.if-list-eq0.true
  | then-list-via-else-list+else-list-eq0+then-r-ne0 w ↦ binding_late _ _ _ _ _ m list w.if-list.false w.if-list-eq0.false w.if-r-ne0.true
]

pub returns-then-r-list : goal.returns-then-r-list
returns-then-r-list c = λ m. binding_high _ _ _ _ _ m (asked_some _ _ c.clause_at.ensures c.ok_or.ensures.value c.in_ok-list.was) c.if-list.false c.if-list-eq0.false c.if-r-ne0.false c.if-r-list.true

pub returns-in_err-bound : goal.returns-in_err-bound
returns-in_err-bound c = let p = err_from_is_err_and c.from_residual-in_err-bound.result c.from_residual-in_err-bound.ensures.1 in
    λ m. rw (p.1, p.2) (binding_refused _ _ _ _ _ m (asked_some _ _ c.clause_at.ensures c.ok_or.ensures.value c.in_ok-list.was) c.if-list.false c.if-list-eq0.false c.if-r-ne0.false c.if-r-list.false (number_low _) (number_small _) c.put_binding.ensures _ c.in_err-bound.was)

pub returns : goal.returns
returns c = λ m. binding_done _ _ _ _ _ m (asked_some _ _ c.clause_at.ensures c.ok_or.ensures.value c.in_ok-list.was) c.if-list.false c.if-list-eq0.false c.if-r-ne0.false c.if-r-list.false (number_low _) (number_small _) c.put_binding.ensures c.in_ok-bound.was
