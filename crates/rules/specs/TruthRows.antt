-- Formulas with their truth, free of any certificate. Assumes nothing.
use Rattle.std.specs.Prelude.{◌≡◌, refl, Bool, true, false, not, List, [], ◌∷◌, map, ℕ}
use Rattle.std.proofs.Math.Option.{Option, none, some}
use Prim.Native.String.{String}
use Rattle.lines.specs.Bytes.{bytes, class_of}
use Rattle.rules.specs.Basics.{maybe}
use Rattle.rules.specs.Formula.{Formula}
use Rattle.rules.specs.Falsity.{False, FalseFile, formula_of, is_false}
use Rattle.rules.specs.Verdict.{the_rules}
use Rattle.rules.specs.Twelve.{A, B}

-- a formula, and whether it is true or false
abbrev pub TruthRow : Type 0
TruthRow = String × Bool

abbrev pub truth_rows : List TruthRow
truth_rows =
    -- "an empty clause has none, and without clauses the formula is true"
    (B, true)
    ∷ ("p cnf 2 0\ne 1 0\na 2 0\n", true)
    ∷ ("p cnf 0 1\n0\n", false)
    ∷ ("p cnf 2 1\ne 1 0\na 2 0\n0\n", false)
    -- "If it is existential, the formula is false exactly if it is false with both values"
    ∷ ("p cnf 1 1\ne 1 0\n1 0\n", true)
    ∷ ("p cnf 1 1\ne 1 0\n-1 0\n", true)
    ∷ ("p cnf 1 2\ne 1 0\n1 0\n-1 0\n", false)
    -- "if universal, exactly if it is false with at least one"
    ∷ ("p cnf 1 1\na 1 0\n1 0\n", false)
    ∷ ("p cnf 1 1\na 1 0\n-1 0\n", false)
    ∷ ("p cnf 1 1\na 1 0\n1 -1 0\n", true)
    -- "false exactly if some matrix clause has no true literal"
    ∷ ("p cnf 1 2\na 1 0\n1 -1 0\n1 0\n", false)
    ∷ ("p cnf 1 2\na 1 0\n1 0\n1 -1 0\n", false)
    ∷ ("p cnf 2 2\ne 1 2 0\n1 2 0\n-1 -2 0\n", true)
    ∷ ("p cnf 2 4\ne 1 2 0\n1 2 0\n1 -2 0\n-1 2 0\n-1 -2 0\n", false)
    -- "take the leftmost variable without a value": the prefix's order decides, not the variables'
    ∷ ("p cnf 2 2\na 1 0\ne 2 0\n1 2 0\n-1 -2 0\n", true)
    ∷ ("p cnf 2 2\ne 2 0\na 1 0\n1 2 0\n-1 -2 0\n", false)
    ∷ ("p cnf 2 2\na 2 0\ne 1 0\n1 2 0\n-1 -2 0\n", true)
    ∷ ("p cnf 2 2\ne 1 0\na 2 0\n1 2 0\n-1 -2 0\n", false)
    ∷ (A, false)
    -- three letters; neighbouring prefix lines of one letter; the last may be `a`
    ∷ ("p cnf 3 2\na 1 0\ne 2 0\na 3 0\n2 3 0\n-2 -3 0\n", false)
    ∷ ("p cnf 3 2\na 1 0\na 3 0\ne 2 0\n2 3 0\n-2 -3 0\n", true)
    ∷ ("p cnf 3 2\ne 1 0\na 2 0\ne 3 0\n1 2 3 0\n-1 -2 -3 0\n", true)
    ∷ ("p cnf 2 2\ne 1 0\ne 2 0\n1 2 0\n-1 -2 0\n", true)
    ∷ ("p cnf 2 1\ne 1 0\na 2 0\n1 2 0\n", true)
    ∷ ("p cnf 2 2\ne 1 0\na 2 0\n1 2 0\n-1 2 0\n", false)
    -- a literal written twice; variables up to V that stand nowhere; a formula above the limits
    ∷ ("p cnf 1 1\ne 1 0\n1 1 0\n", true)
    ∷ ("p cnf 5 1\ne 3 0\n3 0\n", true)
    ∷ ("p cnf 4097 1\n0\n", false)
    ∷ []

-- THE TRUTH OF A FILE'S FORMULA, by the recursive reading
abbrev pub Reads : Bool → List ℕ → Type 0
Reads true bs = (f : Formula) × (formula_of bs ≡ some f) × (False f → ⊥)
Reads false bs = FalseFile bs

abbrev pub AllRead : List TruthRow → Type 0
AllRead [] = Unit {0}
AllRead (r ∷ rs) = Reads r.1 (bytes r.0) × AllRead rs

-- the same by the test, which decides it (proofs/Truths)
abbrev pub tested : List ℕ → Option Bool
tested bs = maybe (formula_of bs) none (λ f. some (not (is_false f)))

unfoldable pub AllTested : List TruthRow → Type 0
AllTested rs = map (λ (r : TruthRow). tested (bytes r.0)) rs ≡ map (λ (r : TruthRow). some r.1) rs

pub truth_checks : AllTested truth_rows
unfolding the_rules class_of formula_of AllTested
truth_checks = refl
