-- Laws of a clause line's text: its form is the rules'. Assumes nothing.
use mathlib.Core.Path.{◌≡◌, refl, ap, sym, ◌∙◌, subst}
use mathlib.Core.Bool.{Bool, true, false, not}
use mathlib.Core.List.{List, [], ◌∷◌}
use mathlib.Core.Option.{Option, none, some}
use Rattle.std.specs.Prelude.{Option as Answer, None, Some}
use Prim.Native.Nat.{ℕ, min}
use native.Mathlib.Omega.{arith}
use lib.Dec.{eqb}
use borrow.Author.Tests.{ne_eqb, eqb-true, eqb-false}
use Rattle.lines.specs.Lines.{Token, nothing_more}
use Rattle.lines.specs.Scan.{cap, tokens_from, end_at}
use Rattle.rules.specs.Basics.{maybe}
use Rattle.rules.specs.Literals.{Lits}
use Rattle.rules.specs.Forms.{numeral, literal, one, up_to_zero, whole, provided, ◌>>=◌}
use Rattle.lists.specs.declared.Measure.{Measure}
use Rattle.lists.specs.Lists.{natural_at, listed_at, lits_at, exactly}
use Rattle.lists.proofs.NaturalLaws.{Numeral, natural_told, one_number, zero_number, more_numbers}
use Rattle.lists.proofs.ListLaws.{Listing, listed_lost, listed_told}
use Rattle.ferp_rules.specs.Forms.{FerpLine, derivation, derivation_form}
use Rattle.derivations.specs.declared.Derivation.{Derivation}
use Rattle.derivations.specs.declared.Reason.{Reason}
use Rattle.derivations.specs.declared.Reason.TheVariants.{Clause, Parents}
use Rattle.derivations.specs.Judges.{line_of}
use Rattle.ferp_forms.specs.Forms.{reason_in, reason_from, capped_reason, reason_at, measured, derivation_at}
use Rattle.ferp_forms.proofs.ReasonLaws.{no_reason, reason_told}

-- THE FORM, with the numbers after the clause as a reason
abbrev form_of : ℕ → Option (Lits × List Token) → Option FerpLine
form_of i o = o >>= λ r. reason_from r.1 >>= λ why. provided (not (eqb i 0)) (line_of i why r.0)

numbers_form : (i : ℕ) (c : Lits) (ns : List ℕ) (b d : Bool)
    → (derivation i c ns >>= λ line. provided b line >>= λ l. provided d l) ≡ (provided b ns >>= reason_in >>= λ why. provided d (line_of i why c))
numbers_form i c [] true d = refl
numbers_form i c [] false d = refl
numbers_form i c (n ∷ []) true d = refl
numbers_form i c (n ∷ []) false d = refl
numbers_form i c (a ∷ b ∷ []) true d = refl
numbers_form i c (a ∷ b ∷ []) false d = refl
numbers_form i c (a ∷ b ∷ n ∷ ns) true d = refl
numbers_form i c (a ∷ b ∷ n ∷ ns) false d = refl

form_is : (ts : List Token) → derivation_form ts ≡ (one numeral ts >>= λ r. form_of r.0 (up_to_zero literal r.1))
unfolding reason_from exactly
form_is ts = first (one numeral ts)
  where
    third : (i : ℕ) (c : Lits) (o : Option (List ℕ × List Token))
        → (o >>= λ r. derivation i c r.0 >>= λ line. whole line r.1 >>= λ l. provided (not (eqb i 0)) l)
        ≡ ((o >>= λ r. whole r.0 r.1) >>= reason_in >>= λ why. provided (not (eqb i 0)) (line_of i why c))
    third i c none = refl
    third i c (some r) = numbers_form i c r.0 (nothing_more r.1) (not (eqb i 0))

    second : (i : ℕ) (o : Option (Lits × List Token))
        → (o >>= λ r. up_to_zero numeral r.1 >>= λ s. derivation i r.0 s.0 >>= λ line. whole line s.1 >>= λ l. provided (not (eqb i 0)) l) ≡ form_of i o
    second i none = refl
    second i (some r) = third i r.0 (up_to_zero numeral r.1)

    first : (o : Option (ℕ × List Token))
        → (o >>= λ r. up_to_zero literal r.1 >>= λ s. up_to_zero numeral s.1 >>= λ u. derivation r.0 s.0 u.0 >>= λ line. whole line u.1 >>= λ l. provided (not (eqb r.0 0)) l)
        ≡ (o >>= λ r. form_of r.0 (up_to_zero literal r.1))
    first none = refl
    first (some r) = second r.0 (up_to_zero literal r.1)

zero_index : (o : Option (Lits × List Token)) → form_of 0 o ≡ none
zero_index none = refl
zero_index (some r) = go (reason_from r.1)
  where
    go : (o : Option Reason) → (o >>= λ why. provided false (line_of 0 why r.0)) ≡ none
    go none = refl
    go (some why) = refl

-- A CLAUSE LINE, MEASURED: its index and its reason as written, and as read; its literals start at `from`
pub record Measured (bs : List ℕ) (at : ℕ) (d : Derivation) (from : ℕ) : Type 0 where
  pub index : ℕ
  pub why : Reason
  pub form : derivation_form (tokens_from bs at) ≡ some (line_of index why (lits_at bs from))
  pub number : d.index ≡ min cap index
  pub numbers : d.reason ≡ capped_reason why
  pub place : end_at bs at ≡ from
  pub sign : Bool
  pub after : ℕ
  pub listing : Listing bs from sign d.size d.largest after

abbrev line : ℕ → Reason → ℕ → ℕ → ℕ → Answer (Derivation × ℕ)
line i r n m from = Some (record { index = i; reason = r; size = n; largest = m }, from)

same_line : {i j n k m l f g : ℕ} {r s : Reason} → i ≡ j → r ≡ s → n ≡ k → m ≡ l → f ≡ g → line i r n m f ≡ line j s k l g
same_line a b c d e = cc

module _ (bs : List ℕ) (at : ℕ) where
  abbrev formed : Option (ℕ × List Token) → Option FerpLine
  formed o = o >>= λ r. form_of r.0 (up_to_zero literal r.1)

  form_by : {o : Option (ℕ × List Token)} → one numeral (tokens_from bs at) ≡ o → derivation_form (tokens_from bs at) ≡ formed o
  form_by e = form_is (tokens_from bs at) ∙ ap formed e

  pub index_lost : natural_at bs at ≡ None → derivation_form (tokens_from bs at) ≡ none
  index_lost t = form_by (natural_told bs at t).0

  module _ {i from : ℕ} (p : natural_at bs at ≡ Some (i, from)) where
    number : Numeral bs at i from
    number = natural_told bs at p

    pub index_zero : i ≡ 0 → derivation_form (tokens_from bs at) ≡ none
    index_zero z =
        form_by (one_number bs at number) ∙ ap (λ n. form_of n (up_to_zero literal (tokens_from bs from))) (zero_number bs at number z).0
        ∙ zero_index (up_to_zero literal (tokens_from bs from))

    then : derivation_form (tokens_from bs at) ≡ form_of number.value (up_to_zero literal (tokens_from bs from))
    then = form_by (one_number bs at number)

    pub no_clause_lem : listed_at bs from ≡ None → derivation_form (tokens_from bs at) ≡ none
    no_clause_lem h = then ∙ ap (form_of number.value) (listed_lost bs from h)

    module _ (y : i ≡ 0 → ⊥) {q : Measure} {e : ℕ} (l : listed_at bs from ≡ Some (q, e)) where
      abbrev by : Option Reason → Option FerpLine
      by o = o >>= λ why. provided (not (eqb number.value 0)) (line_of number.value why (lits_at bs from))

      listed : derivation_form (tokens_from bs at) ≡ by (reason_from (tokens_from bs e))
      listed = then ∙ ap (form_of number.value) (listed_told bs from l).list

      pub without_reason : reason_at bs e ≡ None → derivation_form (tokens_from bs at) ≡ none
      without_reason g = listed ∙ ap by (no_reason bs e g)

      pub with_reason : {reason : Reason} → reason_at bs e ≡ Some reason
          → Measured bs at (record { index = i; reason = reason; size = q.count; largest = q.largest }) from
      with_reason g =
          let r = reason_told bs e g in
          let z : number.value ≡ 0 → ⊥ = λ h. omega (arith, h, (more_numbers bs at number y).0) in record {
            index = number.value;
            why = r.0;
            form =
                listed ∙ ap by r.1
                ∙ ap (λ b. provided (not b) (line_of number.value r.0 (lits_at bs from))) (ne_eqb number.value 0 z);
            number = number.capped;
            numbers = r.2;
            place = number.place;
            sign = q.negative;
            after = e;
            listing = listed_told bs from l;
          }

  -- the answers
  pub unmeasured : derivation_form (tokens_from bs at) ≡ none → None ≡ derivation_at bs at
  unfolding derivation_at
  unmeasured e = sym (ap (λ o. maybe o None (measured bs at)) e)

  pub measured_as : {d : Derivation} {from : ℕ} → Measured bs at d from → Some (d, from) ≡ derivation_at bs at
  unfolding derivation_at
  measured_as {d} {from} o = go o.why o.numbers ∙ sym (ap (λ x. maybe x None (measured bs at)) o.form)
    where
      go : (why : Reason) → d.reason ≡ capped_reason why → Some (d, from) ≡ measured bs at (line_of o.index why (lits_at bs from))
      go (Clause k) e = same_line o.number e o.listing.count o.listing.most (sym o.place)
      go (Parents a b) e = same_line o.number e o.listing.count o.listing.most (sym o.place)

-- WHAT THE FIRST PASS TELLS OF A CLAUSE LINE
abbrev pub MeasuredAs : List ℕ → ℕ → Answer (Derivation × ℕ) → Type 0
MeasuredAs bs at None = derivation_form (tokens_from bs at) ≡ none
MeasuredAs bs at (Some r) = Measured bs at r.0 r.1

pub measures : (bs : List ℕ) (at : ℕ) → MeasuredAs bs at (derivation_at bs at)
measures bs at = first (natural_at bs at) refl
  where
    bad : derivation_form (tokens_from bs at) ≡ none → MeasuredAs bs at (derivation_at bs at)
    bad q = subst (MeasuredAs bs at) (unmeasured bs at q) q

    first : (r : Answer (ℕ × ℕ)) → natural_at bs at ≡ r → MeasuredAs bs at (derivation_at bs at)
    first None p = bad (index_lost bs at p)
    first (Some (i, from)) p = test (eqb i 0) refl
      where
        second : (i ≡ 0 → ⊥) → (r : Answer (Measure × ℕ)) → listed_at bs from ≡ r → MeasuredAs bs at (derivation_at bs at)
        second y None l = bad (no_clause_lem bs at p l)
        second y (Some (q, e)) l = third (reason_at bs e) refl
          where
            third : (r : Answer Reason) → reason_at bs e ≡ r → MeasuredAs bs at (derivation_at bs at)
            third None g = bad (without_reason bs at p y l g)
            third (Some reason) g = let o = with_reason bs at p y l g in subst (MeasuredAs bs at) (measured_as bs at o) o

        test : (b : Bool) → eqb i 0 ≡ b → MeasuredAs bs at (derivation_at bs at)
        test true z = bad (index_zero bs at p (eqb-true i 0 z))
        test false z = second (eqb-false i 0 z) (listed_at bs from) refl
