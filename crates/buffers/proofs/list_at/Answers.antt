use Prim.Native.Nat.{◌+◌}
use native.Mathlib.Omega.{arith}
use mathlib.Core.Path.{refl, ap, sym, ◌∙◌, subst}
use Rattle.lines.specs.Scan.{literal_at}
use Rattle.lines.specs.Literals.{literals_at}
use Rattle.lists.specs.Lists.{listed_at}
use Rattle.lists.proofs.ListLaws.{merged, turn_lost, turn_end, turn_on, on_the_way}
use Rattle.buffers.proofs.BufferLaws.{Keeping, keeping_lost, keeping_end, keeping_more}
use Rattle.buffers.proofs.list_at.Goals as goal

pub returns-then-x-eq0 : goal.returns-then-x-eq0
returns-then-x-eq0 c = let l = c.loop-x in
    let p = ap (λ t. literal_at t (literals_at l.x-iterator)) (sym l.invariant.0) ∙ c.in-Some.ensures.steps.0 in (
      turn_end _ _ _ l.measure.negative l.measure.count l.measure.largest l.invariant.2 p c.if-x-eq0.true,
      keeping_end l.invariant.3 p c.set_at.ensures c.if-x-eq0.true,
    )

pub loop-x-preserved : goal.loop-x-preserved
loop-x-preserved c = let l = c.loop-x in
    let s = c.in-Some.ensures.steps in
    let p = ap (λ t. literal_at t (literals_at l.x-iterator)) (sym l.invariant.0) ∙ s.0 in
    let w = on_the_way _ _ p in
    let q = c.with-measure.ensures (omega (arith, l.invariant.1, c.well_formed)) in (
      s.1 ∙ l.invariant.0,
      omega (arith, l.invariant.1, s.2, ap (λ q. q.count) q),
      ap (λ q. merged q.negative q.count q.largest (listed_at c.args.line.now (literals_at c.next.new.self))) q
          ∙ turn_on _ _ _ l.measure.negative l.measure.count l.measure.largest l.invariant.2 p s.2 c.if-x-eq0.false refl refl,
      subst (λ n. Keeping c.args.line.now c.args.at c.args.buffer.now (literals_at c.next.new.self) n c.set_at.new.s) (sym (ap (λ q. q.count) q))
          (subst (λ i. Keeping c.args.line.now c.args.at c.args.buffer.now i (l.measure.count + 1) c.set_at.new.s) (sym s.2)
          (keeping_more l.invariant.3 p c.set_at.ensures c.if-x-eq0.false)),
    )

pub returns : goal.returns
returns c = let l = c.loop-x in
    let p = ap (λ t. literal_at t (literals_at l.x-iterator)) (sym l.invariant.0) ∙ c.in-None.ensures.steps.0 in
    (turn_lost _ _ _ l.measure.negative l.measure.count l.measure.largest l.invariant.2 p, keeping_lost l.invariant.3 p)
