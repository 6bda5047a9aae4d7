-- Laws of the limits of a clause line. Assumes nothing.
use mathlib.Core.Path.{◌≡◌, ap, ap₂, sym, ◌∙◌}
use mathlib.Core.Bool.{Bool, true, false, ◌&&◌}
use Prim.Native.Nat.{ℕ, ◌+◌, ◌-◌, max}
use native.Mathlib.Omega.{arith}
use lib.Dec.{leb}
use borrow.Author.Tests.{leb-true, le-leb}
use Rattle.rules.proofs.Kit.{same_test}
use Rattle.clauses.specs.Standing.{proof_need, places_of, grown, room_for}
use Rattle.clauses.proofs.StoreLaws.{proof_grown, marks_grown}
use Rattle.derivations.specs.declared.Progress.{Progress}
use Rattle.derivations.specs.declared.Derivation.{Derivation}
use Rattle.derivations.specs.Limits.{has_places}

-- of two tests the first decides
pub first_true : (a : Bool) {b r : Bool} → a ≡ true → r ≡ b → r ≡ a && b
first_true a {b} e i = i ∙ sym (ap (λ x. x && b) e)

pub first_false : (a b : Bool) → a ≡ false → false ≡ a && b
first_false a b e = sym (ap (λ x. x && b) e)

-- WHAT THE CODE TESTS
module _ (p : Progress) (d : Derivation) (proof marks values : ℕ) where
  abbrev need : ℕ
  need = proof_need p.store + places_of p.store + d.size + 2

  abbrev rest : Bool
  rest = leb (max p.mapped.largest d.largest) values

  module _ {free : ℕ} (i : free ≡ proof - places_of p.store - 1) {b : Bool} (e : b ≡ room_for p.store d.size free marks) where
    same : room_for p.store d.size free marks && rest ≡ has_places p d proof marks values
    unfolding has_places
    same =
        ap₂ (λ a b. a && b && rest)
        (same_test (leb (proof_need (grown p.store d.size)) free) (leb need proof)
        (λ h. le-leb need proof (omega (arith, i, proof_grown p.store d.size, leb-true (proof_need (grown p.store d.size)) free h)))
        (λ h. le-leb (proof_need (grown p.store d.size)) free (omega (arith, i, proof_grown p.store d.size, leb-true need proof h))))
        (ap (λ z. leb z marks) (marks_grown p.store d.size))

    pub places_room : b ≡ false → false ≡ has_places p d proof marks values
    places_room z = first_false (room_for p.store d.size free marks) rest (sym e ∙ z) ∙ same

    pub places_values : b ≡ true → {x : ℕ} → x ≡ max p.mapped.largest d.largest → leb x values ≡ has_places p d proof marks values
    places_values y j = first_true (room_for p.store d.size free marks) (sym e ∙ y) (ap (λ z. leb z values) j) ∙ same
