-- Literals, and clauses as lists that count as sets. Assumes nothing.
use Rattle.std.specs.Prelude.{Bool, false, ◌&&◌, List, map, ℕ, eqb}
use Rattle.std.specs.List.{list_all as all, list_any as any}

-- "A literal is a variable or its negative."
pub data Lit : Type 0 where
  pos neg : ℕ → Lit

-- A clause, or a set of literals, as written. "All clauses are sets: a literal written twice counts once."
abbrev pub Lits : Type 0
Lits = List Lit

abbrev pub var : Lit → ℕ
var (pos n) = n
var (neg n) = n

abbrev pub vars : Lits → List ℕ
vars c = map var c

abbrev pub negate : Lit → Lit
negate (pos n) = neg n
negate (neg n) = pos n

-- the literal with its variable replaced and its sign kept
abbrev pub over : (ℕ → ℕ) → Lit → Lit
over f (pos n) = pos (f n)
over f (neg n) = neg (f n)

abbrev pub same : Lit → Lit → Bool
same (pos m) (pos n) = eqb m n
same (pos m) (neg n) = false
same (neg m) (pos n) = false
same (neg m) (neg n) = eqb m n

abbrev pub holds : Lits → Lit → Bool
holds c l = any (same l) c

abbrev pub within : Lits → Lits → Bool
within c d = all (holds d) c

abbrev pub same_set : Lits → Lits → Bool
same_set c d = within c d && within d c

-- both signs of one variable
abbrev pub both_signs : Lits → Bool
both_signs t = any (λ l. holds t (negate l)) t
