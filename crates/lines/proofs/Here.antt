-- What stands from a place on: nothing, or a byte and what stands after it.
use mathlib.Core.Path.{◌≡◌, ap, ◌∙◌}
use mathlib.Core.List.{List, [], ◌∷◌}
use Prim.Native.Nat.{ℕ, ◌+◌, ◌<◌, ◌≤◌}
use native.Mathlib.Omega.{arith}
use native.Mathlib.Numerals.{add-one}
use lib.ListN.{length, drop, get_or, drop_of_length-le}
use lib.Seq.{drop-cons}
use mathlib.Core.Bool.{Bool}
use mathlib.Core.Logic.{◌⊎◌, inl, inr}
use Rattle.std.specs.Borrow.{Bor}
use Rattle.std.specs.Slice.{IsItemAt}
use Rattle.std.specs.Option.{MatchOption}
use Rattle.std.specs.Prelude.{Option, None, Some}

pub here : (bs : List ℕ) (i : ℕ) → i < length bs → drop i bs ≡ get_or bs i 0 ∷ drop (i + 1) bs
here bs i h = rw (add-one, drop-cons bs i 0)

pub past : (bs : List ℕ) (i : ℕ) → length bs ≤ i → drop i bs ≡ []
past bs i h = drop_of_length-le bs h

-- two results that are one have the same number and the same place
pub pair_of : {A B : Type 0} {a c : A} {b d : B} → ◌≡◌ {A = Option (A × B)} (Some (a, b)) (Some (c, d)) → (a ≡ c) × (b ≡ d)
pair_of {A} {B} {a} {c} {b} {d} p = let q : ◌≡◌ {A = A × B} (a, b) (c, d) = cc in (ap (λ x. x.0) q, ap (λ x. x.1) q)

-- a test of the byte at a place, which `get` lends; past the end the answer is z
module _ (p : ℕ → Bool) (bs : List ℕ) (i : ℕ) {z t : Bool} {Q : Bor ℕ → Type 0} where
  pub test_at : (o : Option (Bor ℕ)) → IsItemAt bs i o → MatchOption o (t ≡ z) Q → ((x : Bor ℕ) → Q x → t ≡ p x.now) → ((i < length bs) × (t ≡ p (get_or bs i 0))) ⊎ ((length bs ≤ i) × (t ≡ z))
  test_at None g m q = inr (g.3, m)
  test_at (Some x) g m q = inl (g.3.0, q x m ∙ ap p (g.4 (omega arith) 0))
