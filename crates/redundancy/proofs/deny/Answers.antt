use mathlib.Core.Path.{sym, ◌∙◌}
use Rattle.cells.proofs.Laws.{first_code}
use Rattle.redundancy.proofs.DenyLaws.{denying_done, denying_skip, denying_stop, denying_lit, less_end, less_lit, less_skip}
use Rattle.redundancy.proofs.deny.Goals as goal

pub returns-then-is_true : goal.returns-then-is_true
returns-then-is_true c = λ r. let s = first_code _ _ _ _ c.in-Some.ensures.steps in
    denying_stop _ _ _ _ _ _ _ _ (c.loop-l.invariant r) _ _ (less_lit _ c.args.skip _ _ c.in-Some.ensures.steps c.ne.ensures c.if-ne.true) (sym (c.is_true.ensures s.2) ∙ c.if-is_true.true)

pub loop-l-preserved-then-ne : goal.loop-l-preserved-then-ne
loop-l-preserved-then-ne c = λ r.
    let s = first_code _ _ _ _ c.in-Some.ensures.steps in
    let k = c.loop-l.invariant r in
    denying_lit _ _ _ _ _ _ _ _ k _ _ (less_lit _ c.args.skip _ _ c.in-Some.ensures.steps c.ne.ensures c.if-ne.true) (sym (c.is_true.ensures s.2) ∙ c.if-is_true.false) s.2 _ _ _
    (c.assume.ensures k.moved.ready.trailed.shape s.2)

pub loop-l-preserved : goal.loop-l-preserved
loop-l-preserved c = λ r. denying_skip _ _ _ _ _ _ _ _ (c.loop-l.invariant r) _ (less_skip _ c.args.skip _ _ c.in-Some.ensures.steps c.ne.ensures c.if-ne.false)

pub returns : goal.returns
returns c = λ r. denying_done _ _ _ _ _ _ _ _ (c.loop-l.invariant r) (less_end c.args.skip _ c.in-None.ensures.steps.0)
