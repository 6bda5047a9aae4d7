-- The test of falsity decides it.
use mathlib.Core.Path.{◌≡◌}
use mathlib.Core.Logic.{inl, inr, ◌↔◌}
use mathlib.Core.Bool.{true, not}
use mathlib.Core.List.{List, [], ◌∷◌}
use Rattle.std.specs.List.{list_any as any}
use Rattle.rules.specs.Literals.{Lits, pos, neg, holds}
use Rattle.rules.specs.Formula.{Formula, Bound, for_all, exists}
use Rattle.rules.specs.Falsity.{FalseUnder, False, false_under, is_false}
use Rattle.rules.proofs.Kit.{clear, and_l, and_r, and_i, or_l, or_r, or_cases, not_t, not_of_f, by_yes, either, in_any, any_in}

module _ (matrix : List Lits) where
  told : (bs : List Bound) (t : Lits) → false_under matrix bs t ≡ true → FalseUnder matrix bs t
  told [] t h =
      let s = any_in (λ c. not (any (holds t) c)) matrix h in
      (s.0, s.1, λ l i. by_yes (holds t l) λ e. clear (in_any (holds t) i e) (not_t (any (holds t) s.0) s.2))
  told (exists v ∷ bs) t h = (
    told bs (pos v ∷ t) (and_l (false_under matrix bs (pos v ∷ t)) (false_under matrix bs (neg v ∷ t)) h),
    told bs (neg v ∷ t) (and_r (false_under matrix bs (pos v ∷ t)) (false_under matrix bs (neg v ∷ t)) h),
  )
  told (for_all v ∷ bs) t h =
      either
      (λ k. inl (told bs (pos v ∷ t) k))
      (λ k. inr (told bs (neg v ∷ t) k))
      (or_cases (false_under matrix bs (pos v ∷ t)) (false_under matrix bs (neg v ∷ t)) h)

  tested : (bs : List Bound) (t : Lits) → FalseUnder matrix bs t → false_under matrix bs t ≡ true
  tested [] t s =
      in_any (λ c. not (any (holds t) c)) s.1 (not_of_f (by_yes (any (holds t) s.0) λ h.
      let q = any_in (holds t) s.0 h in clear q.2 (s.2 q.0 q.1)))
  tested (exists v ∷ bs) t s =
      and_i (false_under matrix bs (pos v ∷ t)) (false_under matrix bs (neg v ∷ t))
      (tested bs (pos v ∷ t) s.0) (tested bs (neg v ∷ t) s.1)
  tested (for_all v ∷ bs) t s =
      either
      (λ k. or_l (false_under matrix bs (pos v ∷ t)) (false_under matrix bs (neg v ∷ t)) (tested bs (pos v ∷ t) k))
      (λ k. or_r (false_under matrix bs (pos v ∷ t)) (false_under matrix bs (neg v ∷ t)) (tested bs (neg v ∷ t) k))
      s

pub decides : (f : Formula) → (is_false f ≡ true) ↔ False f
decides f = (told f.matrix f.prefix [], tested f.matrix f.prefix [])
