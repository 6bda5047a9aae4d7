-- The code of a literal in a table: 2v for v, 2v + 1 for -v. Assumes nothing.
use Rattle.std.specs.Prelude.{cond, ℕ, ◌+◌, ◌*◌, ◌-◌, ◌/◌, ◌%◌, eqb}
use Rattle.rules.specs.Literals.{Lit, pos, neg, var}

abbrev pub sign : Lit → ℕ
sign (pos n) = 0
sign (neg n) = 1

abbrev pub code_of : Lit → ℕ
code_of l = 2 * var l + sign l

-- the literal of a code
unfoldable pub lit_of : ℕ → Lit
lit_of c = cond (eqb (c % 2) 0) (pos (c / 2)) (neg (c / 2))

-- the code of the negation
unfoldable pub flip : ℕ → ℕ
flip c = (c + 1) - 2 * (c % 2)
