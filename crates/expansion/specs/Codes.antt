-- THE EXPANSION TEST OVER LISTS OF CODES, and where the tables have what it reads. Assumes nothing.
use Rattle.std.specs.Prelude.{Bool, false, cond, List, ℕ, ◌-◌, ℤ}
use Rattle.cells.specs.Cells.{list_at}
use Rattle.prefix.specs.Prefix.{entry}
use Rattle.matrix.specs.Index.{place_at, any_from}
use Rattle.copies.specs.Copies.{stands_of, annotation_of, words, stands_in, annotation_in, line_in}
use Rattle.copies.specs.declared.View.{View}
use Rattle.literals.specs.Literals.{literals_fit}
use Rattle.assignment.specs.Annotations.{annotations_fit}

-- w gives each variable's word of the prefix table
module _ (w : ℕ → ℕ) where
  -- st gives each copy's existential
  module _ (st : ℕ → ℕ) where
    module _ (nt : ℕ → List ℕ) where
      -- the line ls is an expansion of the clause cs
      unfoldable pub expands_codes : List ℕ → List ℕ → Bool
      expands_codes ls cs = cond (literals_fit w st ls cs) (annotations_fit w st nt ls cs) false

-- THE ANSWER BY THE TABLES: the line's codes stand in `proof` from place l on, the clause's in `matrix` from place c on
unfoldable pub expands_at : List ℤ → List ℤ → List ℤ → List ℤ → ℕ → List ℤ → ℕ → Bool
expands_at prefix values maps proof l matrix c =
    expands_codes (entry prefix) (stands_of values maps) (annotation_of values maps) (list_at proof l) (list_at matrix c)

-- of clause n, counted from 1; of one of the first c clauses
unfoldable pub expands_named : List ℤ → List ℤ → List ℤ → List ℤ → ℕ → List ℤ → List ℕ → ℕ → Bool
expands_named prefix values maps proof l matrix starts n = expands_at prefix values maps proof l matrix (place_at starts (n - 1))

unfoldable pub expands_any : List ℤ → List ℤ → List ℤ → List ℤ → ℕ → List ℤ → List ℕ → ℕ → Bool
expands_any prefix values maps proof l matrix starts c = any_from (expands_at prefix values maps proof l matrix) starts 0 c

-- THE SAME AS CONTRACTS NAME THEM: of the tables that a view shows
abbrev pub expands_in : View → List ℕ → Bool
expands_in view = expands_codes (words view) (stands_in view) (annotation_in view) (line_in view)

abbrev pub expands_named_in : View → List ℤ → List ℕ → ℕ → Bool
expands_named_in view = expands_named view.prefix.now view.values.now view.map.now view.proof.now view.line

abbrev pub expands_any_in : View → List ℤ → List ℕ → ℕ → Bool
expands_any_in view = expands_any view.prefix.now view.values.now view.map.now view.proof.now view.line
