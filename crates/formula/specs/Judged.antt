-- A line of the formula, as the rules judge it and as the code does. Assumes nothing.
use Rattle.std.specs.Prelude.{◌≡◌, cond, List, ℕ, ◌+◌, ◌≤◌, eqb, length, ℤ, Some, None, Result, Ok, Err}
use Rattle.std.specs.Prelude as std
use Rattle.std.proofs.Math.Option.{Option, none, some}
use Rattle.lines.specs.Scan.{tokens_from}
use Rattle.cells.specs.Cells.{Kept}
use Rattle.rules.specs.Basics.{maybe}
use Rattle.rules.specs.Formula.{Formula, Bound, for_all, exists}
use Rattle.rules.specs.Forms.{FormulaLine, clause, formula_line, problem_form, binding_form, clause_form}
use Rattle.rules.specs.Needs.{Places, formula_needs_so_far}
use Rattle.rules.specs.Limits.{limits}
use Rattle.rules.specs.Step.{Step, next, refuse, judge_bytes}
use Rattle.rules.specs.FormulaLines.{judge_formula}
use Rattle.rules.specs.declared.Rule.{Rule}
use Rattle.rules.specs.Rule.{number}
use Rattle.formula.specs.declared.Reading.{Reading}
use Rattle.formula.specs.Holds.{Holds, Sized}

-- the quantifier with this number
abbrev pub quantifier : ℕ → ℕ → Bound
quantifier q v = cond (eqb q 1) (for_all v) (exists v)

-- WHAT THE RULES SAY OF A LINE, with these table lengths and in this state: of a line's bytes; of a line of this form; of a `p` line or
-- a prefix line from the place after its letter on; of a clause line
unfoldable pub line_judge : List ℕ → Places → Option Formula → Step (Option Formula)
line_judge bs l f = judge_bytes formula_line (judge_formula (limits l)) f bs

abbrev pub by_form : Option FormulaLine → Places → Option Formula → Step (Option Formula)
by_form x l f = maybe x (refuse 2 f) (judge_formula (limits l) f)

unfoldable pub problem_judge : List ℕ → ℕ → Places → Option Formula → Step (Option Formula)
problem_judge bs at = by_form (problem_form (tokens_from bs at))

unfoldable pub binding_judge : List ℕ → ℕ → ℕ → Places → Option Formula → Step (Option Formula)
binding_judge bs at q = by_form (binding_form (quantifier q) (tokens_from bs at))

unfoldable pub clause_judge : List ℕ → Places → Option Formula → Step (Option Formula)
clause_judge bs = by_form (clause_form clause (tokens_from bs 0))

-- WHAT THE CODE CARRIES from line to line, nothing before the `p` line; and what it answers of a line
abbrev pub State : Type 0
State = std.Option Reading

abbrev pub Outcome : Type 0
Outcome = Result State Rule

-- the answer of a line after which something is read
abbrev pub going_on : Result Reading Rule → Outcome
going_on (Ok r) = Ok (Some r)
going_on (Err rule) = Err rule

-- the code's state stands for the rules' state
abbrev pub Holding : State → List ℤ → List ℤ → Option Formula → Type 0
Holding None p m none = Unit {0}
Holding None p m (some f) = ⊥
Holding (Some r) p m none = ⊥
Holding (Some r) p m (some f) = Holds r p m f

-- the rules' step and the code's
abbrev pub Stepped : Step (Option Formula) → Outcome → List ℤ → List ℤ → Type 0
Stepped (next f) (Ok s) p m = Holding s p m f
Stepped (next f) (Err rule) p m = ⊥
Stepped (refuse n f) (Ok s) p m = ⊥
Stepped (refuse n f) (Err rule) p m = number rule ≡ n

-- the state that a step gives, or in which it refuses
abbrev pub state_in : {S : Type 0} → Step S → S
state_in (next s) = s
state_in (refuse n s) = s

-- the places beyond the needs hold what they held
pub record Judged (x : Step (Option Formula)) (p m : List ℤ) (t : Outcome) (u w : List ℤ) : Type 0 where
  pub stepped : Stepped x t u w
  pub prefix : Kept (formula_needs_so_far (state_in x)).prefix p u
  pub matrix : Kept (formula_needs_so_far (state_in x)).matrix m w

abbrev pub bound_of : State → ℕ
bound_of None = 0
bound_of (Some r) = r.bound

abbrev pub used_of : State → ℕ
used_of None = 0
used_of (Some r) = r.used

abbrev pub Grows : ℕ → Outcome → Type 0
Grows n (Ok s) = bound_of s ≤ n
Grows n (Err rule) = Unit {0}

-- ONE LINE, of n bytes: the tables p and m become u and w, and the code answers t as the rules do
pub record LineRead (judge : Places → Option Formula → Step (Option Formula)) (s : State) (n : ℕ) (p m : List ℤ) (t : Outcome) (u w : List ℤ) : Type 0 where
  pub judged : (l : Places) (f : Option Formula) → Sized l p m → Holding s p m f → Judged (judge l f) p m t u w
  pub grows : Grows (bound_of s + n) t

-- the same in the tables as a call has them; where the prefix table alone is lent, whatever the matrix table holds
abbrev pub ReadInBoth : (Places → Option Formula → Step (Option Formula)) → State → List ℕ → List ℤ → List ℤ → Outcome → List ℤ → List ℤ → Type 0
ReadInBoth judge s line p m t u w = LineRead judge s (length line) p m t u w

abbrev pub ReadInPrefix : (Places → Option Formula → Step (Option Formula)) → State → List ℕ → List ℤ → Outcome → List ℤ → Type 0
ReadInPrefix judge s line p t u = (m : List ℤ) → LineRead judge s (length line) p m t u m

-- what reading a line of n bytes asks for
pub record Able (n : ℕ) (s : State) (m : List ℤ) : Type 0 where
  pub space : used_of s ≤ length m
  pub short : bound_of s + n ≤ 1048576
