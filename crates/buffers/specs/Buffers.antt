-- The codes of a list in a buffer. Assumes nothing.
use Rattle.std.specs.Prelude.{◌≡◌, true, List, map, ℕ, ◌+◌, ◌%◌, ◌<◌, length, take, ℤ, Result}
use Rattle.rules.specs.declared.Rule.{Rule}
use Rattle.lists.specs.Lists.{is_list}
use Rattle.lists.specs.Stores.{codes_at, ending_at}
use Rattle.clauses.specs.declared.Store.{Store}
use Rattle.clauses.specs.Standing.{stored}

-- a number as a table takes it
abbrev pub as_stored : ℕ → ℕ
as_stored x = x % 2147483648

-- the first codes of a buffer, as a table takes them
unfoldable pub first_codes : ℕ → List ℕ → List ℕ
first_codes n b = map as_stored (take n b)

-- A LIST of n literals stands in the line, and the buffer has its codes if they are not too many
pub record Buffered (bs : List ℕ) (at n : ℕ) (b : List ℕ) : Type 0 where
  pub list : is_list bs at ≡ true
  pub codes : n < length b → first_codes (n + 1) b ≡ codes_at bs at

-- such a list is stored as from the line itself
abbrev pub StoresLine : List ℕ → ℕ → ℕ → List ℕ → List ℤ → Store → Result (Unit {0}) Rule → List ℤ → Type 0
StoresLine bs at n b t s r u = Buffered bs at n b → (u ≡ stored bs at s t) × (r ≡ ending_at bs at)
