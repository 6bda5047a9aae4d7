-- Total valuations of the variables: the truth of literals and clauses.
use mathlib.Core.Path.{◌≡◌, refl, ap, ◌∙◌}
use mathlib.Core.Bool.{Bool, true, false, not, cond}
use mathlib.Core.List.{List, [], ◌∷◌, ◌++◌}
use Prim.Native.Nat.{ℕ}
use lib.Dec.{eqb}
use Rattle.std.specs.List.{list_any as any, list_all as all}
use Rattle.rules.specs.Literals.{Lit, pos, neg, Lits, var, negate, same, over, holds}
use Rattle.rules.proofs.Kit.{and_l, and_r, and_i, not_of_f, by_yes, eqb_self, holds_in}
use Rattle.rules.proofs.Assignments.{Apart}

abbrev pub Valuation : Type 0
Valuation = ℕ → Bool

abbrev pub value : Valuation → Lit → Bool
value α (pos v) = α v
value α (neg v) = not (α v)

abbrev pub satisfied : Valuation → Lits → Bool
satisfied α c = any (value α) c

abbrev pub all_satisfied : Valuation → List Lits → Bool
all_satisfied α cs = all (satisfied α) cs

pub value_negate : (α : Valuation) (l : Lit) → value α (negate l) ≡ not (value α l)
value_negate α (pos v) = refl
value_negate α (neg v) = twice (α v)
  where
    twice : (b : Bool) → b ≡ not (not b)
    twice true = refl
    twice false = refl

-- the value of a literal is that of the other, where their variables have the same value
pub value_over : (α β : Valuation) (g : ℕ → ℕ) (l : Lit) → α (var l) ≡ β (g (var l)) → value α l ≡ value β (over g l)
value_over α β g (pos v) e = e
value_over α β g (neg v) e = ap not e

pub value_at : (α β : Valuation) (l : Lit) → α (var l) ≡ β (var l) → value α l ≡ value β l
value_at α β (pos v) e = e
value_at α β (neg v) e = ap not e

-- literals that are true, completed by false
abbrev pub completed : Lits → Valuation
completed t v = holds t (pos v)

pub completed_true : (t : Lits) → Apart t → (l : Lit) → holds t l ≡ true → value (completed t) l ≡ true
completed_true t a (pos v) h = h
completed_true t a (neg v) h = not_of_f (by_yes (holds t (pos v)) λ e. a (neg v) (holds_in t (neg v) h) (holds_in t (pos v) e))

-- the valuation with this literal made true
abbrev pub making : Valuation → Lit → Valuation
making α (pos v) x = cond (eqb x v) true (α x)
making α (neg v) x = cond (eqb x v) false (α x)

pub making_self : (α : Valuation) (l : Lit) → value (making α l) l ≡ true
making_self α (pos v) = ap (λ k. cond k true (α v)) (eqb_self v)
making_self α (neg v) = ap (λ k. not (cond k false (α v))) (eqb_self v)

cond_true : (b c : Bool) → c ≡ true → cond b true c ≡ true
cond_true true c h = refl
cond_true false c h = h

cond_false : (b c : Bool) → not c ≡ true → not (cond b false c) ≡ true
cond_false true c h = refl
cond_false false c h = h

cond_skip : (b c d : Bool) → b ≡ false → cond b c d ≡ d
cond_skip b c d h = ap (λ k. cond k c d) h

-- a true literal stays true, unless it is the negation of the literal made true
pub making_keeps : (α : Valuation) (l m : Lit) → same m (negate l) ≡ false → value α m ≡ true → value (making α l) m ≡ true
making_keeps α (pos v) (pos w) e h = cond_true (eqb w v) (α w) h
making_keeps α (pos v) (neg w) e h = ap not (cond_skip (eqb w v) true (α w) e) ∙ h
making_keeps α (neg v) (pos w) e h = cond_skip (eqb w v) false (α w) e ∙ h
making_keeps α (neg v) (neg w) e h = cond_false (eqb w v) (α w) h

pub satisfied_more : (cs : List Lits) (c : Lits) (α : Valuation) → all_satisfied α cs ≡ true → satisfied α c ≡ true
    → all_satisfied α (cs ++ (c ∷ [])) ≡ true
satisfied_more [] c α h hc = and_i (satisfied α c) true hc refl
satisfied_more (d ∷ cs) c α h hc =
    and_i
    (satisfied α d)
    (all_satisfied α (cs ++ (c ∷ [])))
    (and_l (satisfied α d) (all_satisfied α cs) h)
    (satisfied_more cs c α (and_r (satisfied α d) (all_satisfied α cs) h) hc)
