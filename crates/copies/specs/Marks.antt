-- Codes marked in an array. Those of a formula's literals are below 8194. Assumes nothing.
use Rattle.std.specs.Prelude.{◌≡◌, cond, List, [], ◌∷◌, ℕ, ◌<◌, ◌≤◌, length, get_or, set}
use Rattle.rules.specs.Basics.{is_in}

-- no code is marked, in an array with a place for every code of a formula's literal
pub record Unmarked (s : List ℕ) : Type 0 where
  pub long : 8194 ≤ length s
  pub none : (y : ℕ) → get_or s y 0 ≡ 0

-- a code marked; one beyond the end is not
unfoldable pub stamp : List ℕ → ℕ → List ℕ
stamp s y = set s y 1

unfoldable pub marks : List ℕ → List ℕ → List ℕ
marks [] s = s
marks (y ∷ ys) s = marks ys (stamp s y)

-- the marks are those of the list, as far as they go
unfoldable pub Marking : List ℕ → List ℕ → Type 0
Marking s ys = (y : ℕ) → y < length s → get_or s y 0 ≡ cond (is_in ys y) 1 0
