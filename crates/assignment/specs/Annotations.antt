-- The least t over lists of codes, and the annotations of the line's copies against it. Assumes nothing.
use Rattle.std.specs.Prelude.{Bool, true, false, cond, not, List, [], ◌∷◌, ◌++◌, map, ℕ, ◌/◌, eqb, length}
use Rattle.std.specs.List.{list_all as all, filter as keep}
use Rattle.rules.specs.Basics.{is_in}
use Rattle.rules.specs.Codes.{flip}
use Rattle.prefix.specs.Prefix.{is_universal, dependency}
use Rattle.assignment.specs.Held.{joined}

-- t does not hold the negation of y; it holds no literal together with its negation
unfoldable pub alone : List ℕ → ℕ → Bool
alone t y = not (is_in t (flip y))

unfoldable pub apart : List ℕ → Bool
apart t = all (alone t) t

-- the annotations of the line's copies; nt gives each copy's
unfoldable pub annotations_of : (ℕ → List ℕ) → List ℕ → List ℕ
annotations_of nt [] = []
annotations_of nt (x ∷ ls) = nt (x / 2) ++ annotations_of nt ls

-- w gives each variable's word of the prefix table
module _ (w : ℕ → ℕ) where
  -- the negations of the clause's universal literals
  unfoldable pub negations : List ℕ → List ℕ
  negations cs = map flip (keep (λ y. is_universal w (y / 2)) cs)

  -- the size of the part of t over universals that e depends on
  unfoldable pub part_size : List ℕ → ℕ → ℕ
  part_size t e = length (keep (λ y. dependency w e (y / 2)) t)

  -- k literals within that part are all of it: they are as many, or all of t
  unfoldable pub is_part : List ℕ → ℕ → ℕ → Bool
  is_part t e k = cond (eqb k (length t)) true (eqb (part_size t e) k)

  -- st gives each copy's existential
  module _ (st : ℕ → ℕ) where
    module _ (nt : ℕ → List ℕ) where
      -- what every t holds: the negations of the clause's universal literals and the annotations of the line's copies, each literal once
      unfoldable pub least_of : List ℕ → List ℕ → List ℕ
      least_of ls cs = joined [] (negations cs ++ annotations_of nt ls)

      -- the annotation of x's copy, which lies within its existential's part of t, is all of it
      unfoldable pub copy_fits : List ℕ → ℕ → Bool
      copy_fits t x = is_part t (st (x / 2)) (length (nt (x / 2)))

      unfoldable pub annotations_fit : List ℕ → List ℕ → Bool
      annotations_fit ls cs = cond (apart (least_of ls cs)) (all (copy_fits (least_of ls cs)) ls) false
