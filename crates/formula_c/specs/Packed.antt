-- An answer as one number. Assumes nothing.
use Rattle.std.specs.Prelude.{◌≡◌, List, ℕ, ◌+◌, ◌*◌, ℤ, Ok, Err}
use Rattle.rules.specs.Rule.{number}
use Rattle.formula.specs.Answers.{Answer, Answered}

-- number and line of a refusal in one number; 0 for a formula that was read
abbrev pub packed : Answer → ℕ
packed (Ok r) = 0
packed (Err refusal) = number refusal.rule * 4294967296 + refusal.line

-- the answer of `formula::read_formula`, packed
pub record Read (bs : List ℕ) (p m : List ℤ) (r : ℕ) (u w : List ℤ) : Type 0 where
  pub answer : Answer
  pub number : r ≡ packed answer
  pub answered : Answered bs p m answer u w
