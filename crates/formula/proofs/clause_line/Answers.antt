use borrow.Author.Tests.{not-true, not-false}
use Rattle.std.proofs.lemmas.Result.{err_from_is_err_and}
use Rattle.rules.proofs.RuleLaws.{asked_some, asked_none}
use Rattle.formula.proofs.ClauseLaws.{clause_bad, clause_never, clause_high, clause_full, clause_unbound, clause_many, clause_done}
use Rattle.formula.proofs.clause_line.Goals as goal

pub returns-in_err-list : goal.returns-in_err-list
returns-in_err-list c =
    let p = err_from_is_err_and c.from_residual.result c.from_residual.ensures.1 in
    let h = asked_none _ _ c.clause_at.ensures c.ok_or.ensures.value c.in_err-list.was in
    rw (p.1, p.2, h.0) (clause_bad _ _ _ _ h.1)

pub returns-then-r-list : goal.returns-then-r-list
returns-then-r-list c = clause_high _ _ _ _ (asked_some _ _ c.clause_at.ensures c.ok_or.ensures.value c.in_ok-list.was) c.if-r-list.true

pub returns-then-matrix-r : goal.returns-then-matrix-r
returns-then-matrix-r c = clause_full _ _ _ _ (asked_some _ _ c.clause_at.ensures c.ok_or.ensures.value c.in_ok-list.was) c.if-r-list.false c.requires c.if-matrix-r.true

pub returns-in_err-store_list : goal.returns-in_err-store_list
returns-in_err-store_list c = let p = err_from_is_err_and c.from_residual-in_err-store_list.result c.from_residual-in_err-store_list.ensures.1 in
    rw (p.1, p.2) (clause_never _ _ _ _ (asked_some _ _ c.clause_at.ensures c.ok_or.ensures.value c.in_ok-list.was) c.store_list.ensures.1 c.in_err-store_list.was)

pub returns-then-not-all_bound : goal.returns-then-not-all_bound
returns-then-not-all_bound c = clause_unbound _ _ _ _ (asked_some _ _ c.clause_at.ensures c.ok_or.ensures.value c.in_ok-list.was) c.if-r-list.false c.requires c.if-matrix-r.false c.store_list.ensures.0 c.all_bound.ensures (not-true _ c.if-not-all_bound.true-raw)

pub returns-then-r : goal.returns-then-r
returns-then-r c = clause_many _ _ _ _ (asked_some _ _ c.clause_at.ensures c.ok_or.ensures.value c.in_ok-list.was) c.if-r-list.false c.requires c.if-matrix-r.false c.store_list.ensures.0 c.all_bound.ensures (not-false _ c.if-not-all_bound.false-raw) c.if-r.true

pub returns : goal.returns
returns c = clause_done _ _ _ _ (asked_some _ _ c.clause_at.ensures c.ok_or.ensures.value c.in_ok-list.was) c.if-r-list.false c.requires c.if-matrix-r.false c.store_list.ensures.0 c.all_bound.ensures (not-false _ c.if-not-all_bound.false-raw) c.if-r.false
