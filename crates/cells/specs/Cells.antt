-- A table's places as natural numbers: a negative one reads as 0. Assumes nothing.
use Rattle.std.specs.Prelude.{◌≡◌, List, [], ◌∷◌, map, cond, ℕ, ◌%◌, eqb, get_or, length, drop, ℤ, pos, negsuc}

abbrev pub num : ℤ → ℕ
num (pos n) = n
num (negsuc n) = 0

-- what stands at a place; 0 past the end
unfoldable pub cell_at : List ℤ → ℕ → ℕ
cell_at t i = num (get_or t i (pos 0))

-- the table's numbers
unfoldable pub cells_of : List ℤ → List ℕ
cells_of t = map num t

-- LISTS OF CODES. A code of a literal is below 65536, so a code is read modulo 65536, whatever stands there.
unfoldable pub code_at : List ℤ → ℕ → ℕ
code_at t i = cell_at t i % 65536

unfoldable pub codes_of : List ℤ → List ℕ
codes_of t = map (λ z. num z % 65536) t

-- the numbers in front, up to a 0 or the end
unfoldable pub up_to : List ℕ → List ℕ
up_to [] = []
up_to (x ∷ xs) = cond (eqb x 0) [] (x ∷ up_to xs)

-- the codes from a place on, up to a 0 or the table's end
unfoldable pub list_at : List ℤ → ℕ → List ℕ
list_at t i = up_to (drop i (codes_of t))

-- THE FRAME OF A TABLE: u has the length of t and, from place n on, what t has. "places beyond the need .. hold what they held"
pub record Kept (n : ℕ) (t u : List ℤ) : Type 0 where
  pub long : length u ≡ length t
  pub beyond : drop n u ≡ drop n t
