-- The assignments t of an expansion hold literals of universals, and never both signs of one variable.
use mathlib.Core.Path.{◌≡◌, refl, sym, ap, subst, ◌∙◌}
use mathlib.Core.Logic.{◌⊎◌, inl, inr}
use mathlib.Core.Bool.{true, false}
use mathlib.Core.List.Memᴰ
use mathlib.Core.List.{List, [], ◌∷◌, ◌++◌, map}
use Prim.Native.Nat.{ℕ}
use Rattle.std.specs.List.{filter as keep}
use Rattle.rules.specs.Basics.{distinct}
use Rattle.rules.specs.Literals.{Lit, pos, neg, Lits, var, negate, holds, both_signs}
use Rattle.rules.specs.Formula.{Formula, bound, universal}
use Rattle.rules.specs.Expansion.{assignments_over, assignments}
use Rattle.rules.proofs.Kit.{clear, by_yes, either, In, any_in, in_keep, holds_in, var_negate, negate_other}
use Rattle.rules.proofs.Distinct.{in_is_in, distinct_head, distinct_tail, distinct_keep}

-- no literal with its negation
abbrev pub Apart : Lits → Type 0
Apart t = (l : Lit) → In l t → In (negate l) t → ⊥

pub apart_signs : (t : Lits) → Apart t → both_signs t ≡ false
apart_signs t a = by_yes (both_signs t) λ h.
    let s = any_in (λ l. holds t (negate l)) t h in
    a s.0 s.1 (holds_in t (negate s.0) s.2)

-- one literal more, of a variable that has none
pub apart_cons : (m : Lit) (t : Lits) → ((l : Lit) → In l t → var l ≡ var m → ⊥) → Apart t → Apart (m ∷ t)
apart_cons m t new a l i j = both (Memᴰ.cases_cons i) (Memᴰ.cases_cons j)
  where
    both : (l ≡ m) ⊎ In l t → (negate l ≡ m) ⊎ In (negate l) t → ⊥
    both (inl e) (inl q) = negate_other l (q ∙ sym e)
    both (inl e) (inr q) = new (negate l) q (var_negate l ∙ ap var e)
    both (inr e) (inl q) = new l e (sym (var_negate l) ∙ ap var q)
    both (inr e) (inr q) = a l e q

module _ (f : Formula) where
  -- an assignment that gives v a value
  abbrev Gives : ℕ → List ℕ → Lits → Type 0
  Gives v vs t = (l : Lit) × (s : Lits) × In s (assignments_over vs) × (l ∷ s ≡ t) × (var l ≡ v)

  -- an assignment over v and further variables leaves v out or gives it a value
  assignment_cases : (v : ℕ) (vs : List ℕ) (t : Lits) → In t (assignments_over (v ∷ vs)) → In t (assignments_over vs) ⊎ Gives v vs t
  assignment_cases v vs t i =
      either
      (λ k. either inl (λ q. inr (given (pos v) refl q)) (Memᴰ.append_cases (assignments_over vs) k))
      (λ k. inr (given (neg v) refl k))
      (Memᴰ.append_cases (assignments_over vs ++ map (λ s. pos v ∷ s) (assignments_over vs)) i)
    where
      given : (l : Lit) → var l ≡ v → In t (map (λ s. l ∷ s) (assignments_over vs)) → Gives v vs t
      given l e k = let s = Memᴰ.of_map (λ s. l ∷ s) (assignments_over vs) k in (l, s.0, s.1, s.2, e)

  assignment_over : (vs : List ℕ) (t : Lits) → In t (assignments_over vs) → (l : Lit) → In l t → In (var l) vs
  assignment_over [] t i l j = absurd (Memᴰ.not-nil (subst (In l) (Memᴰ.eq_of_singleton i) j))
  assignment_over (v ∷ vs) t i l j =
      either
      (λ k. Memᴰ.tail (assignment_over vs t k l j))
      (λ g. either
      (λ e. Memᴰ.head (ap var e ∙ g.4))
      (λ k. Memᴰ.tail (assignment_over vs g.1 g.2 l k))
      (Memᴰ.cases_cons (subst (In l) (sym g.3) j)))
      (assignment_cases v vs t i)

  assignment_apart : (vs : List ℕ) → distinct vs ≡ true → (t : Lits) → In t (assignments_over vs) → Apart t
  assignment_apart [] d t i = λ l j k. Memᴰ.not-nil (subst (In l) (Memᴰ.eq_of_singleton i) j)
  assignment_apart (v ∷ vs) d t i =
      either
      (assignment_apart vs (distinct_tail v vs d) t)
      (λ g. subst Apart g.3
      (apart_cons g.0 g.1
      (λ l j e. clear
      (in_is_in vs v (Memᴰ.cast (sym (e ∙ g.4)) (assignment_over vs g.1 g.2 l j)))
      (distinct_head v vs d))
      (assignment_apart vs (distinct_tail v vs d) g.1 g.2)))
      (assignment_cases v vs t i)

  -- "a set of universal literals, never both signs of one variable"
  pub assignments_universal : (t : Lits) → In t (assignments f) → (l : Lit) → In l t → universal f (var l) ≡ true
  assignments_universal t i l j =
      (in_keep (universal f) (var l) (bound f) (assignment_over (keep (universal f) (bound f)) t i l j)).1

  pub assignments_apart : distinct (bound f) ≡ true → (t : Lits) → In t (assignments f) → Apart t
  assignments_apart d = assignment_apart (keep (universal f) (bound f)) (distinct_keep (universal f) (bound f) d)
