-- Laws of a number without a sign. Assumes nothing.
use mathlib.Core.Path.{◌≡◌, refl, ap, sym, ◌∙◌, subst}
use mathlib.Core.Bool.{Bool, true, false, cond}
use mathlib.Core.List.{List, [], ◌∷◌}
use mathlib.Core.Logic.{◌⊎◌, inl, inr}
use mathlib.Core.Option.{none, some}
use Prim.Native.Nat.{ℕ, ◌/◌, ◌%◌, ◌<◌, ◌≤◌, min}
use native.Mathlib.Omega.{arith}
use lib.Dec.{eqb}
use lib.ListN.{length}
use borrow.Author.Tests.{eq-eqb, ne_eqb}
use Rattle.lines.specs.Lines.{Token, number, minus, word}
use Rattle.std.specs.Prelude.{Option as Answer, None, Some}
use Rattle.std.specs.Bool.{then_some}
use Rattle.lines.specs.Scan.{cap, tokens_from, end_at, literal_at}
use Rattle.lines.proofs.Words.{Told, Coded, literal_told, literal_lost}
use Rattle.rules.specs.Forms.{numeral, one, up_to_zero, ahead}
use Rattle.lists.specs.Lists.{natural_of, natural_at}
use Rattle.lists.proofs.ListLaws.{place_read, upto_zero, upto_more}

-- WHAT THE CODE TESTS
module _ (bs : List ℕ) (at : ℕ) where
  pub natural_none : literal_at bs at ≡ None → None ≡ natural_at bs at
  unfolding natural_at
  natural_none p = sym (ap natural_of p)

  pub natural_even : {x e : ℕ} → literal_at bs at ≡ Some (x, e) → then_some {T = ℕ × ℕ} (eqb (x % 2) 0) (x / 2, e) ≡ natural_at bs at
  unfolding natural_at
  natural_even {x} {e} p = go (eqb (x % 2) 0) ∙ sym (ap natural_of p)
    where
      go : (t : Bool) → then_some {T = ℕ × ℕ} t (x / 2, e) ≡ cond t (Some (x / 2, e)) None
      go true = refl
      go false = refl

-- WHAT THE TOKENS ARE: the number as written
pub record Numeral (bs : List ℕ) (at n e : ℕ) : Type 0 where
  pub value : ℕ
  pub first : tokens_from bs at ≡ number value ∷ tokens_from bs e
  pub capped : n ≡ min cap value
  pub place : end_at bs at ≡ e
  pub further : at < e
  pub within : e ≤ length bs

abbrev pub NaturalTold : List ℕ → ℕ → Answer (ℕ × ℕ) → Type 0
NaturalTold bs at (Some r) = Numeral bs at r.0 r.1
NaturalTold bs at None = (one numeral (tokens_from bs at) ≡ none) × (up_to_zero numeral (tokens_from bs at) ≡ none)

module _ (bs : List ℕ) (at : ℕ) where
  no_number : literal_at bs at ≡ None → NaturalTold bs at None
  no_number p = go (literal_lost bs at p)
    where
      go : (tokens_from bs at ≡ []) ⊎ ((w : List ℕ) × (ts : List Token) × (tokens_from bs at ≡ word w ∷ ts)) → NaturalTold bs at None
      go (inl e) = (ap (one numeral) e, ap (up_to_zero numeral) e)
      go (inr w) = (ap (one numeral) w.2, ap (up_to_zero numeral) w.2)

  number_read : {x e : ℕ} → literal_at bs at ≡ Some (x, e) → NaturalTold bs at (natural_of (Some (x, e)))
  number_read {x} {e} p = go t.token t.code t.first
    where
      t : Told bs at x e
      t = literal_told bs at p

      by : {b : Bool} → eqb (x % 2) 0 ≡ b → NaturalTold bs at (cond b (Some (x / 2, e)) None) → NaturalTold bs at (natural_of (Some (x, e)))
      by q h = subst (λ b. NaturalTold bs at (cond b (Some (x / 2, e)) None)) (sym q) h

      go : (t : Token) → Coded t x → tokens_from bs at ≡ t ∷ tokens_from bs e → NaturalTold bs at (natural_of (Some (x, e)))
      go (number n) c f =
          by (eq-eqb (x % 2) 0 (omega (arith, c)))
          (record { value = n; first = f; capped = omega (arith, c); place = place_read bs at p; further = t.further; within = t.within })
      go (minus n) c f = by (ne_eqb (x % 2) 0 (λ h. omega (arith, c.0, h))) (ap (one numeral) f, ap (up_to_zero numeral) f)
      go (word w) c f = absurd c

  pub natural_told : {r : Answer (ℕ × ℕ)} → natural_at bs at ≡ r → NaturalTold bs at r
  unfolding natural_at
  natural_told e = subst (NaturalTold bs at) e (go (literal_at bs at) refl)
    where
      go : (r : Answer (ℕ × ℕ)) → literal_at bs at ≡ r → NaturalTold bs at (natural_of r)
      go None p = no_number p
      go (Some r) p = number_read p

  -- as one number, and as the first of a list up to a zero
  module _ {n e : ℕ} (t : Numeral bs at n e) where
    pub one_number : one numeral (tokens_from bs at) ≡ some (t.value, tokens_from bs e)
    one_number = ap (one numeral) t.first

    pub zero_number : n ≡ 0 → (t.value ≡ 0) × (up_to_zero numeral (tokens_from bs at) ≡ some ([], tokens_from bs e))
    zero_number z =
        let k : t.value ≡ 0 = omega (arith, z, t.capped) in
        (k, ap (up_to_zero numeral) t.first ∙ upto_zero numeral (number t.value) (tokens_from bs e) (eq-eqb t.value 0 k))

    pub more_numbers : (n ≡ 0 → ⊥)
        → (0 < t.value) × (up_to_zero numeral (tokens_from bs at) ≡ ahead (some t.value) (up_to_zero numeral (tokens_from bs e)))
    more_numbers z =
        let k : t.value ≡ 0 → ⊥ = λ h. z (omega (arith, h, t.capped)) in
        (omega (arith, k), ap (up_to_zero numeral) t.first ∙ upto_more numeral (number t.value) (tokens_from bs e) (ne_eqb t.value 0 k))
