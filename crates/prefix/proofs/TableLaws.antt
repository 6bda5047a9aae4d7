-- Laws of the passes over the prefix table: zeros in front, and whether all variables are bound. Assumes nothing.
use mathlib.Core.Path.{◌≡◌, refl, ap, sym, ◌∙◌}
use mathlib.Core.Bool.{Bool, ◌&&◌}
use mathlib.Core.List.{List, [], ◌∷◌}
use Prim.Native.Nat.{ℕ, suc, ◌+◌, ◌-◌, ◌<◌, ◌≤◌}
use native.Mathlib.Omega.{arith}
use lib.ListN.{set, replicate}
use lib.IntN.{ℤ, pos}
use Rattle.std.specs.List.{list_all as all}
use Rattle.std.specs.List.{list_all}
use Rattle.lists.specs.Stores.{puts}
use Rattle.lists.proofs.StoreLaws.{puts_more}

-- ZEROS STORED IN FRONT: those that are left to store, stored in the table as it is, give the table as it will be
pub record Zeroing (t₀ : List ℤ) (n : ℕ) (t : List ℤ) (i : ℕ) : Type 0 where
  pub text : puts t i (replicate (n - i) 0) ≡ puts t₀ 0 (replicate n 0)

module _ {t₀ : List ℤ} {n : ℕ} {t : List ℤ} {i : ℕ} (s : Zeroing t₀ n t i) where
  pub zeroing_more : {u : List ℤ} → i < n → u ≡ set t i (pos 0) → Zeroing t₀ n u (i + 1)
  zeroing_more h f =
      let e : n - i ≡ suc (n - (i + 1)) = omega arith in
      record {
        text =
            ap (λ w. puts w (i + 1) (replicate (n - (i + 1)) 0)) f ∙ sym (puts_more t i 0 (replicate (n - (i + 1)) 0))
            ∙ ap (λ k. puts t i (replicate k 0)) (sym e) ∙ s.text;
      }

  pub zeroing_end : n ≤ i → t ≡ puts t₀ 0 (replicate n 0)
  unfolding puts
  zeroing_end h = let e : n - i ≡ 0 = omega arith in ap (λ k. puts t i (replicate k 0)) (sym e) ∙ s.text
