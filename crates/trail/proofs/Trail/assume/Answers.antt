use Prim.Native.Nat.{ℕ, ◌<◌}
use native.Mathlib.Omega.{arith}
use mathlib.Core.Path.{◌≡◌, refl, sym, ap, ◌∙◌}
use mathlib.Core.Logic.{inl, inr}
use mathlib.Core.List.{List}
use lib.ListN.{get_or, set}
use Rattle.trail.specs.Trail.{Shape}
use Rattle.trail.proofs.TrailLaws.{off_yes, off_no, small_mod, zeros_set}
use Rattle.trail.proofs.Trail.assume.Goals as goal
use Rattle.trail.proofs.Trail.assume.Goals.{else-self-i-eq0-via-then-self-i-eq0+else-self-lt65536, else-self-i-eq0-via-else-self-i-eq0}

free : (fs : List ℕ) {i l : ℕ} → i ≡ l → get_or fs i 0 ≡ 0 → get_or fs l 0 ≡ 0
free fs e z = ap (λ (j : ℕ). get_or fs j 0) (sym e) ∙ z

low : (fs : List ℕ) {n l : ℕ} → Shape fs n → l < 65536 → get_or fs l 0 ≡ 0 → n < 65536
low fs {n} {l} s h z = omega (arith, s.room, s.long, zeros_set fs l 1 (omega (arith, s.long, h)) z (λ q. omega arith))

pub returns-then-self-lt65536 : goal.returns-then-self-lt65536
returns-then-self-lt65536 c = let a = c.args in
    λ s h. inr (off_no _ _ (free a.self.now.falses (small_mod _ h) c.if-self-i-eq0.true), c.if-self-lt65536.true, ap (λ (i : ℕ). set a.self.now.falses i 1) (small_mod _ h), ap (λ (i : ℕ). set a.self.now.literals a.self.now.length i) (small_mod _ h), refl)

pub returns-else-self-i-eq0 : goal.returns-else-self-i-eq0
returns-else-self-i-eq0 c = let fs = c.args.self.now.falses in
    λ s h. elim c.else-self-i-eq0.branch [
      | else-self-i-eq0-via-then-self-i-eq0+else-self-lt65536 w ↦ absurd (omega (arith, low fs s h (free fs (small_mod _ h) w.if-self-i-eq0.true), w.if-self-lt65536.false))
      | else-self-i-eq0-via-else-self-i-eq0 w ↦ inl (off_yes _ _ (λ e. w.if-self-i-eq0.false (ap (λ (i : ℕ). get_or fs i 0) (small_mod _ h) ∙ e)), refl, refl, refl)
    ]
