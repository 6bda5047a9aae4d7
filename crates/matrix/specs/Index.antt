-- Where the clauses of the matrix start in its table. Assumes nothing.
use Rattle.std.specs.Prelude.{◌≡◌, Bool, true, false, cond, List, ℕ, zero, suc, ◌+◌, ◌<◌, eqb, ltb, length, get_or, set, ℤ}
use Rattle.cells.specs.Cells.{cell_at}
use Rattle.lists.specs.Stores.{place_of}
use Rattle.rules.specs.Formula.{Formula}

-- what the list says of clause i, counted from 0, and the list with that noted
unfoldable pub place_at : List ℕ → ℕ → ℕ
place_at starts i = cond (ltb i 8193) (get_or starts i 0) 0

unfoldable pub noted : List ℕ → ℕ → ℕ → List ℕ
noted starts i k = cond (ltb i 8193) (set starts i k) starts

-- the next n places read from place k on, in clause i: after each 0 a clause starts
unfoldable pub index_from : List ℤ → ℕ → ℕ → ℕ → List ℕ → List ℕ
index_from t zero i k starts = starts
index_from t (suc n) i k starts =
    index_from t n (cond (eqb (cell_at t k) 0) (i + 1) i) (k + 1) (cond (eqb (cell_at t k) 0) (noted starts (i + 1) (k + 1)) starts)

-- THE INDEX of a table whose first `used` places are in use
unfoldable pub index_of : List ℤ → ℕ → List ℕ → List ℕ
index_of t used starts = index_from t used 0 0 (noted starts 0 0)

-- one of the n clauses from clause i on passes the test of its place
unfoldable pub any_from : (ℕ → Bool) → List ℕ → ℕ → ℕ → Bool
any_from test starts i zero = false
any_from test starts i (suc n) = cond (test (place_at starts i)) true (any_from test starts (i + 1) n)

-- each clause of the formula starts where the list says
pub record Indexed (starts : List ℕ) (f : Formula) : Type 0 where
  pub at : (i : ℕ) → i < length f.matrix → get_or starts i 0 ≡ place_of i f.matrix
