-- Propagation read from the text as it stands, with no order of units: what is made true, and what is a conflict. The executable rules agree
-- with it: "Propagation answers conflict or stable, whatever the order of units."
use mathlib.Core.Path.{◌≡◌, refl, sym, subst}
use mathlib.Core.Logic.{inl, inr, ◌↔◌}
use mathlib.Core.Bool.{Bool, true, false, cond}
use mathlib.Core.List.{List, ◌∷◌, map}
use Prim.Native.Nat.{ℕ, zero, suc}
use lib.ListN.{length}
use Rattle.rules.specs.Basics.{sum}
use Rattle.rules.specs.Literals.{Lit, pos, neg, Lits, negate, same, holds, both_signs}
use Rattle.rules.specs.declared.Outcome.{Outcome}
use Rattle.rules.specs.declared.Outcome.TheVariants.{Conflict, Stable}
use Rattle.rules.specs.Propagation.{Look, falsified, unit, nothing, seek, after, turns, propagate}
use Rattle.rules.proofs.Kit.{clear, decide, same_eq, same_self, either, In, holds_in}
use Rattle.rules.proofs.Good.{Good, Above, Finds, seek_finds, apart, in_cons, signs_in, is_conflict_lem, stable_good}

-- "Propagation from a set of true literals: .. one with exactly one distinct literal not false makes that literal true"
pub data Derived (S : List Lits) (A : Lits) : Lit → Type 0 where
  given : {l : Lit} → In l A → Derived S A l
  made : {l : Lit} (c : Lits) → In c S → In l c → ((m : Lit) → In m c → (m ≡ l → ⊥) → Derived S A (negate m)) → Derived S A l

-- "a standing clause with every literal false is a conflict"; "Both signs true is a conflict too."
pub data Conflicts (S : List Lits) (A : Lits) : Type 0 where
  all_false : (c : Lits) → In c S → ((m : Lit) → In m c → Derived S A (negate m)) → Conflicts S A
  both : (l : Lit) → Derived S A l → Derived S A (negate l) → Conflicts S A

module _ (S : List Lits) (A : Lits) where
  module _ (Q : Lit → Bool) (g : Good S Q) (a : Above A Q) where
    -- a good test above the start holds all that is derived
    pub derived_in : {l : Lit} → Derived S A l → Q l ≡ true
    derived_in (given {l} i) = a l i
    derived_in (made {l} c i j others) =
        g.closed c i l λ m k.
        either (λ e. inr (same_eq m l e)) (λ e. inl (derived_in (others m k λ q. clear (subst (λ x. same m x ≡ true) q (same_self m)) e)))
        (decide (same m l))

    no_conflict : Conflicts S A → ⊥
    no_conflict (all_false c i f) =
        g.consistent (pos 0) (g.closed c i (pos 0) λ m k. inl (derived_in (f m k)))
        (g.closed c i (neg 0) λ m k. inl (derived_in (f m k)))
    no_conflict (both l d e) = g.consistent l (derived_in d) (derived_in e)

  -- every literal of B is derived
  abbrev All : Lits → Type 0
  All B = (l : Lit) → holds B l ≡ true → Derived S A l

  after_derives : (B : Lits) (r : Look) (k : Lit → Outcome) → Finds B S r → All B
      → ((l : Lit) → All (l ∷ B) → k l ≡ Conflict → Conflicts S A) → after r k ≡ Conflict → Conflicts S A
  after_derives B falsified k f d more e = all_false f.0 f.1 λ m i. d (negate m) (f.2 m i)
  after_derives B (unit l) k f d more e =
      more l (λ m h. either (λ q. subst (Derived S A) (sym q) new) (d m) (in_cons m l B h)) e
    where
      new : Derived S A l
      new = made f.0 f.1 f.2.0 λ m i n. either (d (negate m)) (λ q. absurd (n q)) (f.2.3 m i)
  after_derives B nothing k f d more e = absurd (apart e)

  turns_derive : (n : ℕ) (B : Lits) → All B → turns n S B ≡ Conflict → Conflicts S A
  unfolding turns
  turns_derive zero B d e = absurd (apart e)
  turns_derive (suc n) B d e =
      after_derives B (seek B S) (λ l. turns n S (l ∷ B)) (seek_finds B S) d (λ l d'. turns_derive n (l ∷ B) d') e

  conflict_derived : propagate S A ≡ Conflict → Conflicts S A
  unfolding propagate
  conflict_derived = go (both_signs A) refl
    where
      go : (b : Bool) → both_signs A ≡ b → cond b Conflict (turns (suc (sum (map length S))) S A) ≡ Conflict → Conflicts S A
      go true q e = let s = signs_in A q in both s.0 (given s.1) (given s.2)
      go false q e = turns_derive (suc (sum (map length S))) A (λ l h. given (holds_in A l h)) e

  pub agrees : (propagate S A ≡ Conflict) ↔ Conflicts S A
  agrees = (conflict_derived, λ h. is_conflict_lem S A λ Q g a. no_conflict Q g a h)

  -- stable: nothing derived conflicts
  pub agrees_stable : (propagate S A ≡ Stable) ↔ (Conflicts S A → ⊥)
  agrees_stable =
      (λ e h. let r = stable_good S A e in no_conflict r.0 r.1 r.2 h, λ n. go n (propagate S A) refl)
    where
      go : (Conflicts S A → ⊥) → (o : Outcome) → propagate S A ≡ o → propagate S A ≡ Stable
      go n Conflict e = absurd (n (conflict_derived e))
      go n Stable e = e
