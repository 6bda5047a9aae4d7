-- When a formula is false, by its prefix and matrix alone. Assumes nothing.
use Rattle.std.specs.Prelude.{◌≡◌, Bool, false, not, ◌&&◌, ◌||◌, ◌⊎◌, ℕ}
use mathlib.Core.List.{List, [], ◌∷◌, Memᴰ}
use Rattle.std.proofs.Math.Option.{Option, none, some}
use Rattle.std.specs.List.{list_any as any}
use Rattle.rules.specs.Literals.{Lit, Lits, pos, neg, holds}
use Rattle.rules.specs.Formula.{Formula, Bound, for_all, exists}
use Rattle.rules.specs.Limits.{set_aside}
use Rattle.rules.specs.Step.{Read, ended, refused_at}
use Rattle.rules.specs.FormulaLines.{read_formula}

-- Where the literals of t are true and the variables of the list have no value yet, from left to right:
-- "Once every prefix variable has a value, it is false exactly if some matrix clause has no true literal .. Before that, take the
-- leftmost variable without a value. If it is existential, the formula is false exactly if it is false with both values; if
-- universal, exactly if it is false with at least one."
abbrev pub FalseUnder : List Lits → List Bound → Lits → Type 0
FalseUnder matrix [] t = (c : Lits) × Memᴰ c matrix × ((l : Lit) → Memᴰ l c → holds t l ≡ false)
FalseUnder matrix (exists v ∷ bs) t = FalseUnder matrix bs (pos v ∷ t) × FalseUnder matrix bs (neg v ∷ t)
FalseUnder matrix (for_all v ∷ bs) t = FalseUnder matrix bs (pos v ∷ t) ⊎ FalseUnder matrix bs (neg v ∷ t)

-- "Whether a formula is false follows from its prefix and matrix alone."
abbrev pub False : Formula → Type 0
False f = FalseUnder f.matrix f.prefix []

-- the formula that a file's bytes are, limits and tables set aside; none if a line of it is refused
abbrev pub formula_read : Read (Option Formula) → Option Formula
formula_read (ended f) = f
formula_read (refused_at n line f) = none

unfoldable pub formula_of : List ℕ → Option Formula
formula_of bs = formula_read (read_formula set_aside bs)

-- THE FILE'S FORMULA IS FALSE
unfoldable pub FalseFile : List ℕ → Type 0
FalseFile bs = (f : Formula) × (formula_of bs ≡ some f) × False f

-- falsity as a test
abbrev pub false_under : List Lits → List Bound → Lits → Bool
false_under matrix [] t = any (λ c. not (any (holds t) c)) matrix
false_under matrix (exists v ∷ bs) t = false_under matrix bs (pos v ∷ t) && false_under matrix bs (neg v ∷ t)
false_under matrix (for_all v ∷ bs) t = false_under matrix bs (pos v ∷ t) || false_under matrix bs (neg v ∷ t)

abbrev pub is_false : Formula → Bool
is_false f = false_under f.matrix f.prefix []
