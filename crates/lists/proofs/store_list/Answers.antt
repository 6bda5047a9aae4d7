use native.Mathlib.Omega.{arith}
use mathlib.Core.Path.{ap, sym, ◌∙◌}
use Rattle.lines.specs.Scan.{literal_at}
use Rattle.lines.specs.Literals.{literals_at}
use Rattle.lists.proofs.StoreLaws.{storing_lost, storing_end, storing_more}
use Rattle.lists.proofs.store_list.Goals as goal

pub returns-then-x-eq0 : goal.returns-then-x-eq0
returns-then-x-eq0 c = let l = c.loop-x in
    storing_end l.invariant.1 (ap (λ t. literal_at t (literals_at l.x-iterator)) (sym l.invariant.0) ∙ c.in-Some.ensures.steps.0) c.put.ensures c.if-x-eq0.true

pub loop-x-preserved : goal.loop-x-preserved
loop-x-preserved c = let l = c.loop-x in
    let s = c.in-Some.ensures.steps in
    let p = ap (λ t. literal_at t (literals_at l.x-iterator)) (sym l.invariant.0) ∙ s.0 in
    (s.1 ∙ l.invariant.0, storing_more l.invariant.1 p c.put.ensures c.if-x-eq0.false s.2 (omega (arith, c.well_formed)) c.saturating_add-k.ensures)

pub returns : goal.returns
returns c = let l = c.loop-x in
    storing_lost l.invariant.1 (ap (λ t. literal_at t (literals_at l.x-iterator)) (sym l.invariant.0) ∙ c.in-None.ensures.steps.0)
