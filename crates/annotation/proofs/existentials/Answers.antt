use Rattle.std.proofs.Common.{◌≡◌, sym, ◌∙◌, Err, rules}
use Rattle.annotation.proofs.AnnotationLaws.{walk_start, walk_end, walk_lost, walk_more, walk_fails}
use Rattle.annotation.proofs.existentials.Goals as goal

pub loop-e-init : goal.loop-e-init
loop-e-init c = rw (c.into_iter-e-iterator.ensures.into_iter_gives, c.new-e-items.ensures.0, c.new-e-items.ensures.1) (walk_start _ _ _)

pub returns-in_err-e : goal.returns-in_err-e
returns-in_err-e c =
    let g = rw c.in_err-e.was at c.in-Some.ensures.steps in
    let r : c.from_residual.result ≡ Err c.in_err-e.field-0.0 = search rules in
    rw r (walk_lost c.loop-e.invariant g.0 _ g.1)

pub returns-then-not-existential : goal.returns-then-not-existential
returns-then-not-existential c =
    let g = rw c.in_ok-e.was at c.in-Some.ensures.steps in
    walk_fails c.loop-e.invariant g.0 (sym c.existential.ensures ∙ search rules)

pub loop-e-preserved : goal.loop-e-preserved
loop-e-preserved c =
    let g = rw c.in_ok-e.was at c.in-Some.ensures.steps in
    walk_more c.loop-e.invariant g.0 (sym c.existential.ensures ∙ search rules) g.1 c.narrower.ensures

pub returns : goal.returns
returns c = let g = c.in-None.ensures.steps in walk_end c.loop-e.invariant g.0 g.1
