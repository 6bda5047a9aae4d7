-- The prefix table: place v - 1 has the word of variable v, 2k + 1 for the k-th variable of the prefix (from 0) if it is universal,
-- 2k + 2 if it is existential, and 0 if it is not bound. Assumes nothing.
use Rattle.std.specs.Prelude.{◌≡◌, Bool, true, false, not, cond, List, [], ◌∷◌, ℕ, ◌+◌, ◌*◌, ◌-◌, ◌/◌, ◌%◌, ◌<◌, ◌≤◌, ℤ, eqb, ltb, Option, Some, None}
use Rattle.cells.specs.Cells.{cell_at}
use Rattle.rules.specs.Basics.{is_in, distinct}
use Rattle.rules.specs.Formula.{Bound, for_all, exists, bound_var, Formula, bound}

-- the word of a variable; 0 for variable 0
unfoldable pub entry : List ℤ → ℕ → ℕ
entry t v = cond (eqb v 0) 0 (cell_at t (v - 1))

-- WHAT A WORD SAYS, w giving each variable's word
module _ (w : ℕ → ℕ) where
  unfoldable pub is_universal : ℕ → Bool
  is_universal v = eqb (w v % 2) 1

  unfoldable pub is_existential : ℕ → Bool
  is_existential v = cond (eqb (w v) 0) false (eqb (w v % 2) 0)

  -- u is a universal left of e
  unfoldable pub dependency : ℕ → ℕ → Bool
  dependency e u = cond (is_universal u) (ltb (w u) (w e)) false

  -- of two existentials the one further left, the second where there is no first
  unfoldable pub narrower : Option ℕ → ℕ → ℕ
  narrower None f = f
  narrower (Some e) f = cond (ltb (w e) (w f)) e f

-- the number of a quantifier
abbrev pub kind_of : Bound → ℕ
kind_of (for_all v) = 1
kind_of (exists v) = 2

-- the word that a prefix gives a variable, its first variable having position k
unfoldable pub mark_from : ℕ → List Bound → ℕ → ℕ
mark_from k [] v = 0
mark_from k (b ∷ bs) v = cond (eqb v (bound_var b)) (2 * k + kind_of b) (mark_from (k + 1) bs v)

-- THE TABLE SHOWS THE PREFIX, for the variables up to n
unfoldable pub Shows : List ℤ → ℕ → List Bound → Type 0
Shows p n bs = (i : ℕ) → i < n → cell_at p i ≡ mark_from 0 bs (i + 1)

-- the table shows f's prefix, whose variables are distinct and lie in 1..n
pub record Told (p : List ℤ) (n : ℕ) (f : Formula) : Type 0 where
  pub shows : Shows p n f.prefix
  pub once : distinct (bound f) ≡ true
  pub ranged : (v : ℕ) → is_in (bound f) v ≡ true → (0 < v) × (v ≤ n)

-- the variable of a code is bound
unfoldable pub is_bound : List ℤ → ℕ → Bool
is_bound p x = not (eqb (entry p (x / 2)) 0)
