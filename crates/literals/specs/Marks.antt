-- The tests over marks: a code of the clause has mark 1, and 2 once a literal of the line stands for it. Assumes nothing.
use Rattle.std.specs.Prelude.{Bool, false, cond, not, ◌&&◌, List, [], ◌∷◌, ℕ, ◌/◌, eqb, ltb, length, get_or, set}
use Rattle.rules.specs.Basics.{is_in}
use Rattle.prefix.specs.Prefix.{is_existential}
use Rattle.copies.specs.Copies.{image_of}
use Rattle.literals.specs.Literals.{in_line}

-- code y gets mark 2, if b holds
unfoldable pub stamped : Bool → ℕ → List ℕ → List ℕ
stamped b y s = cond b (set s y 2) s

-- the marks of a list's codes taken back
unfoldable pub cleared : List ℕ → List ℕ → List ℕ
cleared [] s = s
cleared (y ∷ ys) s = cleared ys (set s y 0)

-- code y has a mark; one without a place is looked for in the clause
unfoldable pub is_marked : List ℕ → List ℕ → ℕ → Bool
is_marked cs s y = cond (ltb y (length s)) (not (eqb (get_or s y 0) 0)) (is_in cs y)

module _ (w st : ℕ → ℕ) where
  module _ (cs : List ℕ) where
    -- the existential literal that x stands for has a mark
    unfoldable pub meets : List ℕ → ℕ → Bool
    meets s x = cond (is_existential w (st (x / 2))) (is_marked cs s (image_of st x)) false

    -- the marks after a line, up to its first literal that meets none
    unfoldable pub stamped_by : List ℕ → List ℕ → List ℕ
    stamped_by [] s = s
    stamped_by (x ∷ ls) s = cond (meets s x) (stamped_by ls (set s (image_of st x) 2)) s

  -- y has no mark 1 still, if it is existential; without a place, it is looked for in the line
  unfoldable pub answered : List ℕ → List ℕ → ℕ → Bool
  answered ls s y = cond (ltb y (length s)) (not (eqb (get_or s y 0) 1 && is_existential w (y / 2))) (in_line w st ls y)
