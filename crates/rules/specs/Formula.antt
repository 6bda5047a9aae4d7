-- A formula as read, and what its prefix says of a variable. Assumes nothing.
use Rattle.std.specs.Prelude.{Bool, true, false, ◌&&◌, List, [], ◌∷◌, map, ℕ, eqb}
use Rattle.std.specs.List.{list_any as any}
use Rattle.rules.specs.Basics.{is_in}
use Rattle.rules.specs.Literals.{Lits}

-- a variable of the prefix with its quantifier
pub data Bound : Type 0 where
  for_all exists : ℕ → Bound

-- "V is the highest variable and C the clause count."
pub record Formula : Type 0 where
  pub highest : ℕ
  pub count : ℕ
  pub prefix : List Bound
  pub matrix : List Lits

abbrev pub bound_var : Bound → ℕ
bound_var (for_all v) = v
bound_var (exists v) = v

-- the variables of the prefix, from left to right
abbrev pub bound : Formula → List ℕ
bound f = map bound_var f.prefix

abbrev pub is_for_all : ℕ → Bound → Bool
is_for_all v (for_all w) = eqb v w
is_for_all v (exists w) = false

abbrev pub is_exists : ℕ → Bound → Bool
is_exists v (for_all w) = false
is_exists v (exists w) = eqb v w

-- WHAT THE PREFIX SAYS OF A VARIABLE
abbrev pub universal : Formula → ℕ → Bool
universal f v = any (is_for_all v) f.prefix

abbrev pub existential : Formula → ℕ → Bool
existential f v = any (is_exists v) f.prefix

-- u stands earlier than v in the list
abbrev pub earlier : List ℕ → ℕ → ℕ → Bool
earlier [] u v = false
earlier (w ∷ ws) u v = elim (eqb w v) [ true ↦ false | false ↦ elim (eqb w u) [ true ↦ is_in ws v | false ↦ earlier ws u v ] ]

-- "Variable u is left of v if it stands earlier in the prefix."
abbrev pub left_of : Formula → ℕ → ℕ → Bool
left_of f u v = earlier (bound f) u v

-- WHAT AN EXISTENTIAL e DEPENDS ON: the universals left of it
abbrev pub depends_on : Formula → ℕ → ℕ → Bool
depends_on f e u = universal f u && left_of f u e
