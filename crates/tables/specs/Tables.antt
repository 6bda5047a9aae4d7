-- The six tables, and what they keep. Assumes nothing.
use Rattle.std.specs.Prelude.{List, length, replicate, ℤ, pos}
use Rattle.cells.specs.Cells.{Kept}
use Rattle.rules.specs.Needs.{Places, places}

pub record Tables : Type 0 where
  pub prefix : List ℤ
  pub matrix : List ℤ
  pub map : List ℤ
  pub proof : List ℤ
  pub marks : List ℤ
  pub values : List ℤ

abbrev pub tables : List ℤ → List ℤ → List ℤ → List ℤ → List ℤ → List ℤ → Tables
tables a b c d e f = record { prefix = a; matrix = b; map = c; proof = d; marks = e; values = f }

abbrev pub lengths_of : Tables → Places
lengths_of t =
    places (length t.prefix) (length t.matrix) (length t.map) (length t.proof) (length t.marks) (length t.values)

-- the six as a call has them
abbrev pub six : List ℤ → List ℤ → List ℤ → List ℤ → List ℤ → List ℤ → Tables
six a b c d e f = tables a b c d e f

-- tables of zeros of these lengths
abbrev pub zeros : Places → Tables
zeros n =
    tables (replicate n.prefix (pos 0)) (replicate n.matrix (pos 0)) (replicate n.map (pos 0)) (replicate n.proof (pos 0))
    (replicate n.marks (pos 0)) (replicate n.values (pos 0))

-- "places beyond the need, up to the line where the check ended, hold what they held", in each table; lengths stay
pub record KeptAll (n : Places) (t u : Tables) : Type 0 where
  pub prefix : Kept n.prefix t.prefix u.prefix
  pub matrix : Kept n.matrix t.matrix u.matrix
  pub map : Kept n.map t.map u.map
  pub proof : Kept n.proof t.proof u.proof
  pub marks : Kept n.marks t.marks u.marks
  pub values : Kept n.values t.values u.values
