use native.Mathlib.Omega.{arith}
use mathlib.Core.Path.{◌≡◌, sym, subst, ◌∙◌}
use mathlib.Core.List.{List}
use Prim.Native.Nat.{ℕ}
use lib.IntN.{ℤ}
use Rattle.propagation.specs.declared.Propagation.{Propagation}
use Rattle.redundancy.proofs.AdditionLaws.{Walking, walking_end, walking_off, walking_out, walking_yes, walking_no, follows_kept}
use Rattle.redundancy.proofs.each.Goals as goal
use Rattle.redundancy.proofs.each.Goals.{then-stands+else-holds, else-holds-via-then-holds+else-not-candidate, else-holds-via-else-holds, else-stands}

-- the trail by another name
at : {t ms : List ℤ} {count l : ℕ} {c t₀ : List ℕ} {n₀ k : ℕ} {a b : Propagation} → b ≡ a
    → Walking t ms count l c t₀ n₀ a.trail.falses a.trail.literals a.trail.length k
    → Walking t ms count l c t₀ n₀ b.trail.falses b.trail.literals b.trail.length k
at {t} {ms} {count} {l} {c} {t₀} {n₀} {k} e w =
    subst (λ (x : Propagation). Walking t ms count l c t₀ n₀ x.trail.falses x.trail.literals x.trail.length k) (sym e) w

pub returns-then-not-candidate : goal.returns-then-not-candidate
returns-then-not-candidate c = λ r h.
    let w = c.loop-k.invariant r h in
    walking_no _ _ _ _ _ _ _ _ _ _ _ w (omega arith) (sym c.stands.ensures ∙ c.if-stands.true) _ _ c.clause-d.ensures c.flip-skip.ensures _ c.holds.ensures c.if-holds.true _ _ _ _
    (c.candidate.ensures w.tried.ready (follows_kept _ _ w.tried h)) c.if-not-candidate.true

pub loop-k-preserved : goal.loop-k-preserved
loop-k-preserved c = λ r h. let w = c.loop-k.invariant r h in elim c.if-stands.branch [
  | then-stands+else-holds b ↦ at b.propagation-is (elim b.else-holds.branch [
    | else-holds-via-then-holds+else-not-candidate d ↦ at d.propagation-is
        (walking_yes _ _ _ _ _ _ _ _ _ _ _ w (omega arith) (sym c.stands.ensures ∙ b.if-stands.true) _ _ b.clause-d.ensures c.flip-skip.ensures _ b.holds.ensures d.if-holds.true _ _ _ _
        (d.candidate.ensures w.tried.ready (follows_kept _ _ w.tried h)) d.if-not-candidate.false)
    | else-holds-via-else-holds d ↦ at d.propagation-is
        (walking_out _ _ _ _ _ _ _ _ _ _ _ w (omega arith) (sym c.stands.ensures ∙ b.if-stands.true) _ _ b.clause-d.ensures c.flip-skip.ensures _ b.holds.ensures d.if-holds.false)
  ])
  | else-stands b ↦ at b.propagation-is (walking_off _ _ _ _ _ _ _ _ _ _ _ w (omega arith) (sym c.stands.ensures ∙ b.if-stands.false))
]

pub returns : goal.returns
returns c = λ r h. walking_end _ _ _ _ _ _ _ _ _ _ _ (c.loop-k.invariant r h) (omega arith)
