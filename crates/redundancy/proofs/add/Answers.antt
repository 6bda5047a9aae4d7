use native.Mathlib.Omega.{arith}
use mathlib.Core.Path.{◌≡◌, ap, subst}
use Prim.Native.Nat.{ℕ, ◌≤◌}
use Rattle.trail.specs.declared.Trail.{Trail}
use Rattle.trail.specs.Trail.{TrailedIn, UndoneIn}
use Rattle.propagation.proofs.AnswerLaws.{visited_moved}
use Rattle.redundancy.proofs.AdditionLaws.{added_rup, added_moved, rat_asked, added_rat, added_no, told_stable, told_conflict}
use Rattle.redundancy.proofs.add.Goals as goal
use Rattle.redundancy.proofs.add.Goals.{else-eq-via-then-eq+else-not-is_rat, else-eq-via-else-eq}

-- the trail that is cut back, by another name
undone_as : {a a' : Trail} {n : ℕ} {b : Trail} → a ≡ a' → (TrailedIn a → (n ≤ a.length) → UndoneIn a n b) → TrailedIn a' → (n ≤ a'.length) → UndoneIn a' n b
undone_as {a} {a'} {n} {b} e u = subst (λ (x : Trail). TrailedIn x → (n ≤ x.length) → UndoneIn x n b) e u

pub returns-then-not-is_rat : goal.returns-then-not-is_rat
returns-then-not-is_rat c = λ h.
    let g = c.ground.ensures h.ready in
    let f = c.refute.ensures (visited_moved c.in-Stable.is g).ready in
    let z = told_stable _ c.eq.ensures c.if-eq.true in
    let asked = rat_asked _ _ h _ _ _ c.in-Stable.is g _ _ _ _ f z in
    added_no _ _ h _ _ _ c.in-Stable.is g _ _ _ _ f z (c.is_rat.ensures asked.0 asked.1) c.if-not-is_rat.true

pub returns : goal.returns
returns c = λ h.
    let g = c.ground.ensures h.ready in
    let f = c.refute.ensures (visited_moved c.in-Stable.is g).ready in
    elim c.else-eq.branch [
      | else-eq-via-then-eq+else-not-is_rat w ↦
          let z = told_stable _ c.eq.ensures w.if-eq.true in
          let asked = rat_asked _ _ h _ _ _ c.in-Stable.is g _ _ _ _ f z in
          let t = w.is_rat.ensures asked.0 asked.1 in
          added_rat _ _ h _ _ _ c.in-Stable.is g _ _ _ _ f z t _ (undone_as (ap (λ p. p.trail) w.propagation-is) c.undo.ensures.undone t.0.ready.trailed (omega (arith, t.0.same, asked.2))) w.if-not-is_rat.false
      | else-eq-via-else-eq w ↦
          let z = told_conflict _ c.eq.ensures w.if-eq.false in
          let m = added_moved _ _ h _ _ _ c.in-Stable.is g _ _ _ _ f z in
          added_rup _ _ h _ _ _ c.in-Stable.is g _ _ _ _ f _ z (undone_as (ap (λ p. p.trail) w.propagation-is) c.undo.ensures.undone m.ready.trailed m.up)
    ]
