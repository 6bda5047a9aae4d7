-- Variables that rise: none comes twice. Assumes nothing.
use mathlib.Core.Path.{◌≡◌, refl, ap, ap₂, sym, ◌∙◌}
use mathlib.Core.Bool.{Bool, true, not, ◌&&◌}
use mathlib.Core.List.{List, [], ◌∷◌}
use Prim.Native.Nat.{ℕ, ◌<◌, ◌≤◌}
use native.Mathlib.Omega.{arith}
use lib.Dec.{eqb, leb, ltb}
use borrow.Author.Tests.{eqb-true, lt-ltb, le-leb, ltb-true}
use Rattle.std.specs.List.{list_all as all}
use Rattle.rules.specs.Basics.{is_in, distinct}
use Rattle.rules.proofs.Kit.{and_l, and_r, or_cases, either, by_yes}
use Rattle.mapped.specs.Numbers.{ruled}
use Rattle.annotation.specs.Annotation.{once, follows, rising}

pub follows_yes : (l u : ℕ) → l < u → leb u 16384 ≡ follows l u
unfolding follows
follows_yes l u h = sym (ap (λ b. b && leb u 16384) (lt-ltb l u h))

module _ (l u : ℕ) (us : List ℕ) (e : rising l (u ∷ us) ≡ true) where
  first : follows l u ≡ true
  unfolding rising
  first = and_l (follows l u) (rising u us) e

  rest : rising u us ≡ true
  unfolding rising
  rest = and_r (follows l u) (rising u us) e

  above : l < u
  unfolding follows
  above = ltb-true l u (and_l (ltb l u) (leb u 16384) first)

  low : leb u 16384 ≡ true
  unfolding follows
  low = and_r (ltb l u) (leb u 16384) first

later : (l : ℕ) (us : List ℕ) → rising l us ≡ true → (x : ℕ) → is_in us x ≡ true → l < x
later l [] e x i = absurd (let z : ◌≡◌ {A = ℕ} 0 1 = cc in omega arith)
later l (u ∷ us) e x i =
    either (λ q. let a = above l u us e in let b = eqb-true x u q in omega arith)
    (λ q. let a = above l u us e in let b = later u us (rest l u us e) x q in omega arith) (or_cases (eqb x u) (is_in us x) i)

rising_low : (l : ℕ) (us : List ℕ) → rising l us ≡ true → all (λ u. leb u 16384) us ≡ true
rising_low l [] e = refl
rising_low l (u ∷ us) e = ap₂ (λ a b. a && b) (low l u us e) (rising_low u us (rest l u us e))

rising_distinct : (l : ℕ) (us : List ℕ) → rising l us ≡ true → distinct us ≡ true
rising_distinct l [] e = refl
rising_distinct l (u ∷ us) e =
    let r = rest l u us e in
    ap₂ (λ a b. not a && b) (by_yes (is_in us u) (λ i. let z = later u us r u i in omega arith)) (rising_distinct u us r)

rising_once : (l : ℕ) (us : List ℕ) → rising l us ≡ true → once us ≡ true
unfolding once
rising_once l us e = ap₂ (λ a b. a && b) (rising_low l us e) (rising_distinct l us e)

pub once_kept : {b : Bool} {e : ℕ} → (b ≡ true) × (e ≡ 0) → 0 ≡ ruled 8 b e
unfolding ruled
once_kept h = sym (ap₂ (ruled 8) h.0 h.1)

-- A WALK over the list, with the last variable l; us up to the end d are left
pub record Rising (us₀ : List ℕ) (d₀ l : ℕ) (us : List ℕ) (d : ℕ) : Type 0 where
  pub rises : rising l us ≡ rising 0 us₀
  pub ends : d ≡ d₀

module _ {us₀ : List ℕ} {d₀ l : ℕ} {us : List ℕ} {d : ℕ} (h : Rising us₀ d₀ l us d) where
  pub rising_end : us ≡ [] → d ≡ 0 → (once us₀ ≡ true) × (d₀ ≡ 0)
  unfolding rising
  rising_end o z = (rising_once 0 us₀ (sym h.rises ∙ ap (rising l) o), sym h.ends ∙ z)

  pub rising_more : {u : ℕ} {rest : List ℕ} → us ≡ u ∷ rest → {c : ℕ} → d ≡ c → l < u → u ≤ 16384 → Rising us₀ d₀ u rest c
  unfolding rising
  rising_more {u} {rest} o i a b = record {
    rises = ap (λ b. b && rising u rest) (sym (le-leb u 16384 b) ∙ follows_yes l u a) ∙ sym (ap (rising l) o) ∙ h.rises;
    ends = sym i ∙ h.ends;
  }
