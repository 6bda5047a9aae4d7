-- What two tables show of a whole formula. Assumes nothing.
use Rattle.std.specs.Prelude.{◌≡◌, true, List, ℕ, ◌≤◌, length, take, ℤ}
use Rattle.std.specs.List.{list_all as all}
use Rattle.cells.specs.Cells.{cells_of}
use Rattle.prefix.specs.Prefix.{Shows}
use Rattle.lists.specs.Stores.{flat, in_range}
use Rattle.rules.specs.Basics.{is_in, distinct}
use Rattle.rules.specs.Literals.{Lits, vars}
use Rattle.rules.specs.Formula.{Formula, bound}

-- THE FORMULA: the prefix table shows its prefix, and the matrix table its clauses, each ended by a 0.
pub record FormulaShown (v c used : ℕ) (prefix matrix : List ℤ) (f : Formula) : Type 0 where
  pub highest : v ≡ f.highest
  pub count : c ≡ f.count
  pub low : v ≤ 4096
  pub few : c ≤ 8192
  pub shows : Shows prefix v f.prefix
  pub once : distinct (bound f) ≡ true
  pub ranged : in_range v (bound f) ≡ true
  pub whole : length f.matrix ≡ f.count
  pub clauses : take used (cells_of matrix) ≡ flat f.matrix
  pub variables : all (λ c. in_range v (vars c)) f.matrix ≡ true
  pub closed : all (λ (c : Lits). all (is_in (bound f)) (vars c)) f.matrix ≡ true
