-- What is asked of the prefix table, and what a prefix line stores there. Assumes nothing.
use Rattle.std.specs.Prelude.{◌≡◌, true, false, cond, List, [], ◌∷◌, ℕ, ◌+◌, ◌*◌, ◌-◌, ◌/◌, ◌≤◌, eqb, length, set, ℤ, pos, Result, Ok, Err}
use Rattle.lists.specs.Lists.{is_list}
use Rattle.lists.specs.Stores.{codes_at}
use Rattle.prefix.specs.Prefix.{is_bound}
use Rattle.rules.specs.declared.Rule.{Rule}
use Rattle.rules.specs.declared.Rule.TheVariants.{Malformed, BoundTwice}

-- THE SECOND PASS OVER A PREFIX LINE, by the codes of its variables and its zero: its answer, and the table that it leaves.
-- It stops where a variable is bound already, or where no zero ends the codes, for a token there is no literal; q is the quantifier's
-- number and k the next position.
pub record Pass : Type 0 where
  pub answer : Result ℕ Rule
  pub table : List ℤ

unfoldable pub pass : ℕ → ℕ → List ℕ → List ℤ → Pass
pass q k [] p = record { answer = Err Malformed; table = p }
pass q k (x ∷ xs) p =
    cond (eqb x 0) (record { answer = Ok k; table = p })
    (cond (is_bound p x) (record { answer = Err BoundTwice; table = p }) (pass q (k + 1) xs (set p (x / 2 - 1) (pos (2 * k + q)))))

-- what each answer tells of the line: no rule but these two is broken; that no list stands there; or that one does, and binds at most one variable for each byte
abbrev pub Tells : List ℕ → ℕ → ℕ → Result ℕ Rule → Type 0
Tells bs at k (Err Malformed) = is_list bs at ≡ false
Tells bs at k (Err BoundTwice) = Unit {0}
Tells bs at k (Err _) = ⊥
Tells bs at k (Ok j) = (is_list bs at ≡ true) × (j ≤ k + length bs)

-- what the pass over a line, from a place on, answers and leaves
pub record Marks (q k : ℕ) (bs : List ℕ) (at : ℕ) (p : List ℤ) (r : Result ℕ Rule) (u : List ℤ) : Type 0 where
  pub answer : r ≡ (pass q k (codes_at bs at) p).answer
  pub table : u ≡ (pass q k (codes_at bs at) p).table
  pub tells : Tells bs at k r
