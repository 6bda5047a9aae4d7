-- The whole formula. Assumes nothing.
use Rattle.std.specs.Prelude.{◌≡◌, cond, List, ℕ, eqb, leb, length, ℤ, Some, None, Result, Ok, Err}
use Rattle.std.proofs.Math.Option.{Option, none, some}
use Rattle.cells.specs.Cells.{Kept}
use Rattle.rules.specs.Formula.{Formula}
use Rattle.rules.specs.Needs.{Places, formula_needs_so_far}
use Rattle.rules.specs.Limits.{limits}
use Rattle.rules.specs.Step.{Read, ended, refused_at}
use Rattle.rules.specs.FormulaLines.{read_formula}
use Rattle.rules.specs.Rule.{number, of_file}
use Rattle.rules.specs.declared.Rule.TheVariants.{Malformed, WrongClauseCount}
use Rattle.rules.specs.declared.Refusal.{Refusal}
use Rattle.formula.specs.declared.Reading.{Reading}
use Rattle.formula.specs.Holds.{Holds, Sized}
use Rattle.formula.specs.Judged.{State}

-- what the code answers: what it read, or the rule that is broken and the line
abbrev pub Answer : Type 0
Answer = Result Reading Refusal

-- "fewer than C", "no `p` line": what is said at the end of the file
abbrev pub close_of : State → Answer
close_of None = Err (of_file Malformed)
close_of (Some r) = cond (eqb r.clauses r.c) (Ok r) (Err (of_file WrongClauseCount))

-- WHAT AN ANSWER SAYS, by what the rules read: the refusal's number and line, or the formula that the tables u and w show
abbrev pub AnswerIs : Read (Option Formula) → Answer → List ℤ → List ℤ → Type 0
AnswerIs (ended none) (Ok r) u w = ⊥
AnswerIs (ended none) (Err refusal) u w = (number refusal.rule ≡ 2) × (refusal.line ≡ 0)
AnswerIs (ended (some f)) (Ok r) u w = Holds r u w f × (length f.matrix ≡ r.c)
AnswerIs (ended (some f)) (Err refusal) u w = ⊥
AnswerIs (refused_at n i s) (Ok r) u w = ⊥
AnswerIs (refused_at n i s) (Err refusal) u w = (number refusal.rule ≡ n) × (refusal.line ≡ i)

-- the state in which the reading ended
abbrev pub read_state : {S : Type 0} → Read S → S
read_state (ended s) = s
read_state (refused_at n line s) = s

-- An answer for what the rules read, and the frame: "places beyond the need, up to the line where the check ended, hold what they held".
pub record Answers (x : Read (Option Formula)) (p m : List ℤ) (a : Answer) (u w : List ℤ) : Type 0 where
  pub answer : AnswerIs x a u w
  pub prefix : Kept (formula_needs_so_far (read_state x)).prefix p u
  pub matrix : Kept (formula_needs_so_far (read_state x)).matrix m w

-- the lines of a formula that is not overlong
pub record Whole (bs : List ℕ) (p m : List ℤ) (a : Answer) (u w : List ℤ) : Type 0 where
  pub answers : (l : Places) → Sized l p m → Answers (read_formula (limits l) bs) p m a u w

-- WHAT THE RULES READ. "1 overlong: file above its limit"; the line is 0.
unfoldable pub reading : Places → List ℕ → Read (Option Formula)
reading l bs = cond (leb (length bs) 1048576) (read_formula (limits l) bs) (refused_at 1 0 none)

-- THE PROMISE of the call: for the lengths of the two tables, whatever the other tables' lengths
pub record Answered (bs : List ℕ) (p m : List ℤ) (a : Answer) (u w : List ℤ) : Type 0 where
  pub answers : (l : Places) → Sized l p m → Answers (reading l bs) p m a u w
