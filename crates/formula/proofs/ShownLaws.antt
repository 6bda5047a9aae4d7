-- What the tables hold of a formula that was read is what they show of it. Assumes nothing.
use mathlib.Core.Path.{◌≡◌, refl, ap, ◌∙◌}
use mathlib.Core.Bool.{Bool, true, ◌&&◌}
use mathlib.Core.List.{List, [], ◌∷◌}
use lib.ListN.{length}
use lib.IntN.{ℤ}
use Rattle.std.specs.List.{list_all as all}
use Rattle.rules.specs.Basics.{is_in}
use Rattle.rules.specs.Literals.{Lits, vars}
use Rattle.rules.specs.Formula.{Formula, bound}
use Rattle.rules.proofs.Kit.{and_l, and_r, and_i}
use Rattle.lists.specs.Stores.{in_range}
use Rattle.formula.specs.declared.Reading.{Reading}
use Rattle.formula.specs.Holds.{Holds}
use Rattle.formula.specs.Shown.{FormulaShown}

-- both halves of a test over a list
all_left : {A : Type 0} (p q : A → Bool) (xs : List A) → all (λ x. p x && q x) xs ≡ true → all p xs ≡ true
all_left p q [] h = refl
all_left p q (x ∷ xs) h =
    and_i (p x) (all p xs) (and_l (p x) (q x) (and_l (p x && q x) (all (λ x. p x && q x) xs) h)) (all_left p q xs (and_r (p x && q x) (all (λ x. p x && q x) xs) h))

all_right : {A : Type 0} (p q : A → Bool) (xs : List A) → all (λ x. p x && q x) xs ≡ true → all q xs ≡ true
all_right p q [] h = refl
all_right p q (x ∷ xs) h =
    and_i (q x) (all q xs) (and_r (p x) (q x) (and_l (p x && q x) (all (λ x. p x && q x) xs) h)) (all_right p q xs (and_r (p x && q x) (all (λ x. p x && q x) xs) h))

pub formula_shown : (r : Reading) (prefix matrix : List ℤ) (f : Formula) → Holds r prefix matrix f → length f.matrix ≡ r.c
    → FormulaShown r.v r.c r.used prefix matrix f
formula_shown r prefix matrix f h w = record {
  highest = h.highest;
  count = h.count;
  low = h.limit;
  few = h.most;
  shows = h.prefix;
  once = h.once;
  ranged = h.ranged;
  whole = w ∙ h.count;
  clauses = h.matrix;
  variables =
      ap (λ n. all (λ (c : Lits). in_range n (vars c)) f.matrix) h.highest
      ∙ all_left (λ (c : Lits). in_range f.highest (vars c)) (λ (c : Lits). all (is_in (bound f)) (vars c)) f.matrix h.variables;
  closed = all_right (λ (c : Lits). in_range f.highest (vars c)) (λ (c : Lits). all (is_in (bound f)) (vars c)) f.matrix h.variables;
}
