-- Laws of the numbers that say what a clause follows from. Assumes nothing.
use mathlib.Core.Path.{◌≡◌, refl, ap, sym, ◌∙◌}
use mathlib.Core.Bool.{Bool, true, false, cond}
use mathlib.Core.List.{List, [], ◌∷◌}
use mathlib.Core.Option.{Option, none, some}
use Rattle.std.specs.Prelude.{Option as Answer, None, Some}
use Prim.Native.Nat.{ℕ, min}
use native.Mathlib.Omega.{arith}
use Rattle.lines.specs.Lines.{Token, nothing_more}
use Rattle.lines.specs.Scan.{cap, tokens_from, ended_at}
use Rattle.rules.specs.Forms.{numeral, up_to_zero, ahead, whole, provided, ◌>>=◌}
use Rattle.lists.specs.Lists.{natural_at, exactly}
use Rattle.lists.proofs.NaturalLaws.{Numeral, natural_told, zero_number, more_numbers}
use Rattle.derivations.specs.declared.Reason.{Reason}
use Rattle.derivations.specs.declared.Reason.TheVariants.{Clause, Parents}
use Rattle.ferp_forms.specs.Forms.{reason_in, reason_from, capped_reason, given, reason_at, closed_at}

-- the numbers up to a zero, which ends the line
abbrev by : Option (List ℕ × List Token) → Option Reason
by o = (o >>= λ r. whole r.0 r.1) >>= reason_in

no_numbers : (b : Bool) → (provided b [] >>= reason_in) ≡ none
no_numbers true = refl
no_numbers false = refl

many : (a b n : ℕ) (o : Option (List ℕ × List Token)) → by (ahead (some a) (ahead (some b) (ahead (some n) o))) ≡ none
many a b n none = refl
many a b n (some r) = go (nothing_more r.1)
  where
    go : (c : Bool) → (provided c (a ∷ b ∷ n ∷ r.0) >>= reason_in) ≡ none
    go true = refl
    go false = refl

closed_by : (bs : List ℕ) (at : ℕ) (ns : List ℕ) (r : Reason) → reason_in ns ≡ some r → closed_at bs at (capped_reason r) ≡ given (whole ns (tokens_from bs at) >>= reason_in)
unfolding closed_at ended_at
closed_by bs at ns r e = go (nothing_more (tokens_from bs at))
  where
    go : (b : Bool) → cond b (Some (capped_reason r)) None ≡ given (provided b ns >>= reason_in)
    go true = sym (ap given e)
    go false = refl

module _ (bs : List ℕ) (at : ℕ) where
  reason_is : {o : Option (List ℕ × List Token)} → up_to_zero numeral (tokens_from bs at) ≡ o → reason_at bs at ≡ given (by o)
  unfolding reason_at reason_from exactly
  reason_is e = ap (λ o. given (by o)) e

  pub first_lost : natural_at bs at ≡ None → None ≡ reason_at bs at
  first_lost t = sym (reason_is (natural_told bs at t).1)

  module _ {a e : ℕ} (p : natural_at bs at ≡ Some (a, e)) where
    first : Numeral bs at a e
    first = natural_told bs at p

    pub first_zero : a ≡ 0 → None ≡ reason_at bs at
    first_zero z = sym (reason_is (zero_number bs at first z).1 ∙ ap given (no_numbers (nothing_more (tokens_from bs e))))

    module _ (y : a ≡ 0 → ⊥) where
      after : {o : Option (List ℕ × List Token)} → up_to_zero numeral (tokens_from bs e) ≡ o → reason_at bs at ≡ given (by (ahead (some first.value) o))
      after q = reason_is ((more_numbers bs at first y).1 ∙ ap (ahead (some first.value)) q)

      pub second_lost : natural_at bs e ≡ None → None ≡ reason_at bs at
      second_lost t = sym (after (natural_told bs e t).1)

      module _ {b h : ℕ} (q : natural_at bs e ≡ Some (b, h)) where
        second : Numeral bs e b h
        second = natural_told bs e q

        pub one_given : b ≡ 0 → {r : Answer Reason} → r ≡ closed_at bs h (Clause a) → r ≡ reason_at bs at
        one_given z i =
            i ∙ ap (λ n. closed_at bs h (Clause n)) first.capped ∙ closed_by bs h (first.value ∷ []) (Clause first.value) refl
            ∙ sym (after (zero_number bs e second z).1)

        module _ (x : b ≡ 0 → ⊥) where
          later : {o : Option (List ℕ × List Token)} → up_to_zero numeral (tokens_from bs h) ≡ o
              → reason_at bs at ≡ given (by (ahead (some first.value) (ahead (some second.value) o)))
          later i = after ((more_numbers bs e second x).1 ∙ ap (ahead (some second.value)) i)

          pub third_lost : natural_at bs h ≡ None → None ≡ reason_at bs at
          third_lost t = sym (later (natural_told bs h t).1)

          module _ {n g : ℕ} (t : natural_at bs h ≡ Some (n, g)) where
            third : Numeral bs h n g
            third = natural_told bs h t

            pub third_more : (n ≡ 0 → ⊥) → None ≡ reason_at bs at
            third_more z =
                sym (later (more_numbers bs h third z).1 ∙ ap given (many first.value second.value third.value (up_to_zero numeral (tokens_from bs g))))

            pub two_given : n ≡ 0 → {r : Answer Reason} → r ≡ closed_at bs g (Parents a b) → r ≡ reason_at bs at
            two_given z i =
                i ∙ ap (λ n. closed_at bs g (Parents n b)) first.capped ∙ ap (λ n. closed_at bs g (Parents (min cap first.value) n)) second.capped
                ∙ closed_by bs g (first.value ∷ second.value ∷ []) (Parents first.value second.value) refl
                ∙ sym (later (zero_number bs h third z).1)

-- WHAT THE ANSWER TELLS
given_none : (o : Option Reason) → given o ≡ None → o ≡ none
given_none none e = refl
given_none (some r) e = absurd (let z : ◌≡◌ {A = ℕ} 0 1 = cc in omega arith)

given_some : (o : Option Reason) (r : Reason) → given o ≡ Some r → (why : Reason) × (o ≡ some why) × (r ≡ capped_reason why)
given_some none r e = absurd (let z : ◌≡◌ {A = ℕ} 0 1 = cc in omega arith)
given_some (some why) r e = (why, refl, cc)

module _ (bs : List ℕ) (at : ℕ) where
  pub no_reason : reason_at bs at ≡ None → reason_from (tokens_from bs at) ≡ none
  unfolding reason_at
  no_reason e = given_none (reason_from (tokens_from bs at)) e

  pub reason_told : {r : Reason} → reason_at bs at ≡ Some r → (why : Reason) × (reason_from (tokens_from bs at) ≡ some why) × (r ≡ capped_reason why)
  unfolding reason_at
  reason_told {r} e = given_some (reason_from (tokens_from bs at)) r e
