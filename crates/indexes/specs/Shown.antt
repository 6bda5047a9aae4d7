-- The indexes of the clauses, in an array. Assumes nothing.
use Rattle.std.specs.Prelude.{◌≡◌, cond, List, [], ◌∷◌, ℕ, zero, suc, ◌+◌, ◌%◌, ◌≤◌, eqb, length, get_or, set, Option, Some, None, option_map}

-- where an index stands in a list, counted from 0
unfoldable pub place_in : List ℕ → ℕ → Option ℕ
place_in [] i = None
place_in (j ∷ js) i = cond (eqb i j) (Some 0) (option_map suc (place_in js i))

-- a place counted from 1, or 0 for none
abbrev pub counted : ℕ → Option ℕ
counted zero = None
counted (suc k) = Some k

-- what the array has for an index, and the array with a place noted for it
unfoldable pub place_at : List ℕ → ℕ → Option ℕ
place_at a i = counted (get_or a i 0)

unfoldable pub noted : List ℕ → ℕ → ℕ → List ℕ
noted a i k = set a i ((k + 1) % 4294967296)

-- THE INDEXES of the clauses, in their order
pub record IndexesShown (a is : List ℕ) : Type 0 where
  pub long : length a ≡ 65537
  pub each : (i : ℕ) → i ≤ 65536 → place_at a i ≡ place_in is i
