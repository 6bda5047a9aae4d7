-- What a reading and its two tables stand for. Assumes nothing.
use Rattle.std.specs.Prelude.{◌≡◌, Bool, true, ◌&&◌, List, ◌≤◌, length, take, ℤ}
use Rattle.std.specs.List.{list_all as all}
use Rattle.cells.specs.Cells.{cells_of}
use Rattle.rules.specs.Basics.{is_in, distinct}
use Rattle.rules.specs.Literals.{Lits, vars}
use Rattle.rules.specs.Formula.{Formula, bound}
use Rattle.rules.specs.Needs.{Places, formula_needs}
use Rattle.lists.specs.Stores.{flat, in_range}
use Rattle.prefix.specs.Prefix.{Shows}
use Rattle.formula.specs.declared.Reading.{Reading}

-- every variable of the clause is between 1 and V, and bound
abbrev pub proper : Formula → Lits → Bool
proper f c = in_range f.highest (vars c) && all (is_in (bound f)) (vars c)

-- THE TABLES SHOW THE FORMULA: its prefix, and its clauses' codes, each clause ended by 0, in the first places of the matrix table
pub record Holds (r : Reading) (p m : List ℤ) (f : Formula) : Type 0 where
  pub highest : r.v ≡ f.highest
  pub count : r.c ≡ f.count
  pub many : r.bound ≡ length f.prefix
  pub clauses : r.clauses ≡ length f.matrix
  pub used : r.used ≡ (formula_needs f).matrix
  pub prefix : Shows p r.v f.prefix
  pub once : distinct (bound f) ≡ true
  pub ranged : in_range r.v (bound f) ≡ true
  pub matrix : take r.used (cells_of m) ≡ flat f.matrix
  pub variables : all (proper f) f.matrix ≡ true
  pub limit : r.v ≤ 4096
  pub most : r.c ≤ 8192
  pub room : r.v ≤ length p
  pub space : r.used ≤ length m

-- the tables' lengths
pub record Sized (l : Places) (p m : List ℤ) : Type 0 where
  pub prefix : l.prefix ≡ length p
  pub matrix : l.matrix ≡ length m
