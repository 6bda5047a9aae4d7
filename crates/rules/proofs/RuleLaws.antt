-- The numbers of the rules are 1 to 17 and distinct, and an answer's number says whether it is one.
use Rattle.std.proofs.Common.{◌≡◌, refl, ap, sym, ◌∙◌, subst, ℕ, ◌≤◌, lit≤, cond, eqb, arith}
use Rattle.std.specs.Prelude.{Option, Some, None, Result, Ok, Err}
use Rattle.std.specs.Option.{ok_or}
use Rattle.std.specs.Result.{MatchResult, IsErrAnd}
use Rattle.rules.specs.declared.Rule.{Rule}
use Rattle.rules.specs.declared.Rule.TheVariants.{Overlong, Malformed, OutOfRange, BoundTwice, Unbound, WrongClauseCount, MappedTwice, BadAnnotation, Unmapped, HintCount, NoExpansion, NotImplied, NothingToDelete, NotClosed, TableFull, BadParent, IndexUsed}
use Rattle.rules.specs.declared.Refusal.{Refusal}
use Rattle.rules.specs.Rule.{number, broken, broken_in}
use Rattle.rules.specs.Verdict.{IsNumber}

-- the rule with this number
rule_of : ℕ → Rule
rule_of n =
    cond (eqb n 1) Overlong (cond (eqb n 2) Malformed (cond (eqb n 3) OutOfRange (cond (eqb n 4) BoundTwice (cond (eqb n 5) Unbound
    (cond (eqb n 6) WrongClauseCount (cond (eqb n 7) MappedTwice (cond (eqb n 8) BadAnnotation (cond (eqb n 9) Unmapped
    (cond (eqb n 10) HintCount (cond (eqb n 11) NoExpansion (cond (eqb n 12) NotImplied (cond (eqb n 13) NothingToDelete
    (cond (eqb n 14) NotClosed (cond (eqb n 15) TableFull (cond (eqb n 16) BadParent IndexUsed)))))))))))))))

rule_of_number : (r : Rule) → rule_of (number r) ≡ r
unfolding rule_of
rule_of_number Overlong = refl
rule_of_number Malformed = refl
rule_of_number OutOfRange = refl
rule_of_number BoundTwice = refl
rule_of_number Unbound = refl
rule_of_number WrongClauseCount = refl
rule_of_number MappedTwice = refl
rule_of_number BadAnnotation = refl
rule_of_number Unmapped = refl
rule_of_number HintCount = refl
rule_of_number NoExpansion = refl
rule_of_number NotImplied = refl
rule_of_number NothingToDelete = refl
rule_of_number NotClosed = refl
rule_of_number TableFull = refl
rule_of_number BadParent = refl
rule_of_number IndexUsed = refl

-- two rules have two numbers
pub number_injective : (r s : Rule) → number r ≡ number s → r ≡ s
number_injective r s same = sym (rule_of_number r) ∙ ap rule_of same ∙ rule_of_number s

-- a rule's number is one of the table
pub number-IsNumber : (r : Rule) → IsNumber (number r)
number-IsNumber Overlong = (lit≤ tt, lit≤ tt)
number-IsNumber Malformed = (lit≤ tt, lit≤ tt)
number-IsNumber OutOfRange = (lit≤ tt, lit≤ tt)
number-IsNumber BoundTwice = (lit≤ tt, lit≤ tt)
number-IsNumber Unbound = (lit≤ tt, lit≤ tt)
number-IsNumber WrongClauseCount = (lit≤ tt, lit≤ tt)
number-IsNumber MappedTwice = (lit≤ tt, lit≤ tt)
number-IsNumber BadAnnotation = (lit≤ tt, lit≤ tt)
number-IsNumber Unmapped = (lit≤ tt, lit≤ tt)
number-IsNumber HintCount = (lit≤ tt, lit≤ tt)
number-IsNumber NoExpansion = (lit≤ tt, lit≤ tt)
number-IsNumber NotImplied = (lit≤ tt, lit≤ tt)
number-IsNumber NothingToDelete = (lit≤ tt, lit≤ tt)
number-IsNumber NotClosed = (lit≤ tt, lit≤ tt)
number-IsNumber TableFull = (lit≤ tt, lit≤ tt)
number-IsNumber BadParent = (lit≤ tt, lit≤ tt)
number-IsNumber IndexUsed = (lit≤ tt, lit≤ tt)

-- it is at least 1
pub number_positive : (r : Rule) → 1 ≤ number r
number_positive r = (number-IsNumber r).0

pub number_not_zero : (r : Rule) → number r ≡ 0 → ⊥
number_not_zero r is_zero = omega (arith, number_positive r)

module _ {A : Type 0} where
  -- an answer with the number 0 is no refusal
  pub broken_zero : (x : Result A Rule) → broken x ≡ 0 → (a : A) × (x ≡ Ok a)
  broken_zero (Ok a) is_zero = (a, refl)
  broken_zero (Err r) is_zero = absurd (number_not_zero r is_zero)

  -- an answer with another number is the refusal by that rule
  pub broken_number : (x : Result A Rule) (r : Rule) → broken x ≡ number r → x ≡ Err r
  broken_number (Ok a) r same = absurd (number_not_zero r (sym same))
  broken_number (Err s) r same = ap Err (number_injective s r same)

  pub broken_positive : (x : Result A Rule) → 1 ≤ broken x → (r : Rule) × (x ≡ Err r)
  broken_positive (Ok a) above = absurd (omega (arith, above))
  broken_positive (Err r) above = (r, refl)

  -- the same of an answer that has the line too
  pub broken_in_zero : (x : Result A Refusal) → broken_in x ≡ 0 → (a : A) × (x ≡ Ok a)
  broken_in_zero (Ok a) is_zero = (a, refl)
  broken_in_zero (Err r) is_zero = absurd (number_not_zero r.rule is_zero)

  pub broken_in_positive : (x : Result A Refusal) → 1 ≤ broken_in x → (r : Refusal) × (x ≡ Err r)
  broken_in_positive (Ok a) above = absurd (omega (arith, above))
  broken_in_positive (Err r) above = (r, refl)

  -- `ok_or` by a rule: what was there, or that there was nothing
  pub asked_some : (o : Option A) (r : Rule) {p : Option A} {x : Result A Rule} {a : A} → o ≡ p → x ≡ ok_or o r → x ≡ Ok a → p ≡ Some a
  asked_some o r {p} {x} {a} same asked given = sym same ∙ go o (sym asked ∙ given)
    where
      go : (o : Option A) → ok_or o r ≡ Ok a → o ≡ Some a
      go None e = cc
      go (Some b) e = let z : b ≡ a = cc in ap Some z

  pub asked_none : (o : Option A) (r : Rule) {p : Option A} {x : Result A Rule} {s : Rule} → o ≡ p → x ≡ ok_or o r → x ≡ Err s
      → (s ≡ r) × (p ≡ None)
  asked_none o r {p} {x} {s} same asked given = let h = go o (sym asked ∙ given) in (h.0, sym same ∙ h.1)
    where
      go : (o : Option A) → ok_or o r ≡ Err s → (s ≡ r) × (o ≡ None)
      go None e = (let z : r ≡ s = cc in sym z, refl)
      go (Some b) e = cc

  -- `map_err`: the rule that was broken, and what the closure makes of it
  pub mapped_err : (x : Result A Rule) {y : Result A Refusal} (Q : Rule → Refusal → Type 0) {d : Refusal}
      → MatchResult x (λ a. y ≡ Ok a) (λ r. IsErrAnd y (Q r)) → y ≡ Err d → (r : Rule) × (x ≡ Err r) × Q r d
  mapped_err (Ok a) Q {d} same is_err = let z : Ok a ≡ Err d = sym same ∙ is_err in cc
  mapped_err (Err r) Q told is_err = (r, refl, subst (λ y. IsErrAnd y (Q r)) is_err told)
