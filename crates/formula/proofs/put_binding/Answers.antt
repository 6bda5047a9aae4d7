use native.Mathlib.Omega.{arith}
use mathlib.Core.Path.{refl, ap, sym, ◌∙◌}
use Rattle.lines.specs.Scan.{literal_at}
use Rattle.lines.specs.Literals.{literals_at}
use Rattle.lists.proofs.ListLaws.{on_the_way}
use Rattle.formula.proofs.TableLaws.{marking_lost, marking_end, marking_twice, marking_more, variable_1, number_small, marks_by}
use Rattle.formula.proofs.put_binding.Goals as goal

pub returns : goal.returns
returns c =
    let l = c.loop-x in
    let p = ap (λ t. literal_at t (literals_at l.x-iterator)) (sym l.invariant.0) ∙ c.in-None.ensures.steps.0 in
    marks_by c.from-q.ensures (marking_lost l.invariant.1 p)

pub returns-then-x-eq0 : goal.returns-then-x-eq0
returns-then-x-eq0 c =
    let l = c.loop-x in
    let p = ap (λ t. literal_at t (literals_at l.x-iterator)) (sym l.invariant.0) ∙ c.in-Some.ensures.steps.0 in
    marks_by c.from-q.ensures (marking_end l.invariant.1 p c.if-x-eq0.true)

pub returns-then-word-ne0 : goal.returns-then-word-ne0
returns-then-word-ne0 c =
    let l = c.loop-x in
    let p = ap (λ t. literal_at t (literals_at l.x-iterator)) (sym l.invariant.0) ∙ c.in-Some.ensures.steps.0 in
    marks_by c.from-q.ensures (marking_twice l.invariant.1 p c.if-x-eq0.false c.word.ensures c.if-word-ne0.true)

pub overflow_sub-x : goal.overflow_sub-x
overflow_sub-x c =
    let l = c.loop-x in
    let p = ap (λ t. literal_at t (literals_at l.x-iterator)) (sym l.invariant.0) ∙ c.in-Some.ensures.steps.0 in
    variable_1 l.invariant.1 p c.if-x-eq0.false

pub loop-x-preserved : goal.loop-x-preserved
loop-x-preserved c =
    let l = c.loop-x in
    let p = ap (λ t. literal_at t (literals_at l.x-iterator)) (sym l.invariant.0) ∙ c.in-Some.ensures.steps.0 in
    let w = on_the_way _ _ p in (
      c.in-Some.ensures.steps.1 ∙ l.invariant.0,
      rw c.in-Some.ensures.steps.2 (marking_more l.invariant.1 p c.if-x-eq0.false c.word.ensures c.if-word-ne0.false (omega (arith, l.invariant.1.steps, c.requires)) (omega (arith, c.from-q.ensures, number_small c.args.quantifier)) refl c.put.ensures),
    )
