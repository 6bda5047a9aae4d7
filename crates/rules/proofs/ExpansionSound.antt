-- An accepted expansion is true where each copy has the value of its existential.
use mathlib.Core.Path.{◌≡◌, refl, sym, ap, ◌∙◌}
use mathlib.Core.Bool.{Bool, true, not, ◌&&◌, ◌||◌}
use mathlib.Core.List.Memᴰ
use mathlib.Core.List.{List, map}
use Prim.Native.Nat.{ℕ}
use Rattle.std.specs.List.{list_all as all}
use Rattle.rules.specs.Basics.{distinct}
use Rattle.rules.specs.Literals.{Lit, pos, neg, Lits, var, vars, negate, over, holds, within, same_set}
use Rattle.rules.specs.Formula.{Formula, bound, universal, existential, depends_on}
use Rattle.rules.specs.Expansion.{Copy, stands_for, annotation, existentials, part, assignments, falsifies, same_literals, annotated_by, expands_by, expands}
use Rattle.rules.proofs.Kit.{clear, and_l, and_r, or_cases, either, In, all_in, in_any, Some, any_in, keep_in, in_keep, holds_in, in_holds, same_test}
use Rattle.rules.proofs.Assignments.{Apart, assignments_apart}
use Rattle.rules.proofs.Valuation.{Valuation, value, satisfied, value_negate, value_at, value_over, completed, completed_true}
use Rattle.rules.proofs.Strategy.{Strategy}

-- sets with the same literals
same_within : (c d : Lits) → same_set c d ≡ true → (l : Lit) → In l c → In l d
same_within c d h l i = holds_in d l (all_in (holds d) (and_l (within c d) (within d c) h) i)

same_without : (c d : Lits) → same_set c d ≡ true → (l : Lit) → In l d → In l c
same_without c d h l i = holds_in c l (all_in (holds c) (and_r (within c d) (within d c) h) i)

var_over : (g : ℕ → ℕ) (l : Lit) → var (over g l) ≡ g (var l)
var_over g (pos n) = refl
var_over g (neg n) = refl

module _ (f : Formula) (S : Strategy f) (m : List Copy) where
  -- the value of a copy: that of its existential where the universals have the values of its annotation, completed by false
  pub copy_value : Valuation
  copy_value p = S.play (completed (annotation m p)) (stands_for m p)

  module _ (line clause t : Lits) (apart : Apart t) (h : expands_by f m line clause t ≡ true) where
    falsified : falsifies f t clause ≡ true
    unfolding expands_by
    falsified =
        and_l (falsifies f t clause) (same_literals f m line clause)
        (and_l (falsifies f t clause && same_literals f m line clause) (all (annotated_by f m t) (vars line)) h)

    literals : same_literals f m line clause ≡ true
    unfolding expands_by
    literals =
        and_r (falsifies f t clause) (same_literals f m line clause)
        (and_l (falsifies f t clause && same_literals f m line clause) (all (annotated_by f m t) (vars line)) h)

    annotated : (q : Lit) → In q line → annotated_by f m t (var q) ≡ true
    unfolding expands_by
    annotated q i =
        all_in (annotated_by f m t)
        (and_r (falsifies f t clause && same_literals f m line clause) (all (annotated_by f m t) (vars line)) h)
        (Memᴰ.map var i)

    -- a universal literal of the clause is false where the universals have the values of t
    universal_false : (l : Lit) → In l clause → universal f (var l) ≡ true → value (S.play (completed t)) l ≡ true → ⊥
    universal_false l i u e =
        clear
        (completed_true t apart (negate l) (all_in (λ l. holds t (negate l)) falsified (keep_in (λ l. universal f (var l)) i u)))
        (value_negate (completed t) l
        ∙ ap not (sym (value_at (S.play (completed t)) (completed t) l (S.given (completed t) (var l) u)) ∙ e))

    -- a copy of the line has the value that its existential has there
    copy_agrees : (q : Lit) → In q line → existential f (stands_for m (var q)) ≡ true
        → copy_value (var q) ≡ S.play (completed t) (stands_for m (var q))
    unfolding copy_value
    copy_agrees q i x = S.depends (completed note) (completed t) e x λ u d.
        same_test (holds note (pos u)) (holds t (pos u))
        (λ k. in_holds t (pos u) (in_keep (λ l. depends_on f e (var l)) (pos u) t
        (same_within note (part f e t) (annotated q i) (pos u) (holds_in note (pos u) k))).0)
        (λ k. in_holds note (pos u) (same_without note (part f e t) (annotated q i) (pos u)
        (keep_in (λ l. depends_on f e (var l)) (holds_in t (pos u) k) d)))
      where
        e : ℕ
        e = stands_for m (var q)

        note : Lits
        note = annotation m (var q)

    -- a true existential literal of the clause is true in the line
    existential_true : (l : Lit) → In l clause → existential f (var l) ≡ true → value (S.play (completed t)) l ≡ true
        → satisfied copy_value line ≡ true
    existential_true l i x e =
        let s = Memᴰ.of_map (over (stands_for m)) line (same_without (map (over (stands_for m)) line) (existentials f clause) literals l
        (keep_in (λ l. existential f (var l)) i x)) in
        let w : existential f (stands_for m (var s.0)) ≡ true
        = ap (existential f) (sym (var_over (stands_for m) s.0) ∙ ap var s.2) ∙ x in
        in_any (value copy_value) s.1
        (value_over copy_value (S.play (completed t)) (stands_for m) s.0 (copy_agrees s.0 s.1 w)
        ∙ ap (value (S.play (completed t))) s.2 ∙ e)

    line_true : In clause f.matrix → satisfied copy_value line ≡ true
    line_true i =
        either
        (λ u. absurd (universal_false s.0 s.1 u e))
        (λ x. existential_true s.0 s.1 x e)
        (or_cases (universal f (var s.0)) (existential f (var s.0)) (and_r (value β s.0) b s.2))
      where
        β : Valuation
        β = S.play (completed t)

        s : Some (λ l. value β l && (universal f (var l) || existential f (var l))) clause
        s = S.wins (completed t) clause i

        b : Bool
        b = universal f (var s.0) || existential f (var s.0)

        e : value β s.0 ≡ true
        e = and_l (value β s.0) b s.2

  pub expands_true : distinct (bound f) ≡ true → (line clause : Lits) → In clause f.matrix → expands f m line clause ≡ true
      → satisfied copy_value line ≡ true
  unfolding expands
  expands_true d line clause i h =
      let s = any_in (expands_by f m line clause) (assignments f) h in
      line_true line clause s.0 (assignments_apart f d s.0 s.1) s.2 i
