-- What judging a line gives, and a file judged line by line. Assumes nothing.
use Rattle.std.specs.Prelude.{Bool, true, false, List, [], ◌∷◌, ℕ, ◌+◌}
use Rattle.std.proofs.Math.Option.{Option, none, some}
use Rattle.lines.specs.Lines.{Token, lines_of, read_line}
use Rattle.rules.specs.Basics.{maybe}

-- A rule of a line: its number unless the test passes.
infix 20 ◌unless◌
abbrev pub ◌unless◌ : ℕ → Bool → Option ℕ
n unless true = none
n unless false = some n

-- "Within a line: 2, 3, 15, then by rising number": the first rule that is broken decides
infixr 10 ◌then◌
abbrev pub ◌then◌ : Option ℕ → Option ℕ → Option ℕ
none then r = r
some n then r = some n

-- the state after an accepted line; or the number of the refusal, and the state in which it came: with what the refused line needs of
-- the tables, but for 2 and 3 as before the line
pub data Step (S : Type 0) : Type 0 where
  next : S → Step S
  refuse : ℕ → S → Step S

-- the state at the end of a file; or the number and the line of the first refusal, and the state in which it came
pub data Read (S : Type 0) : Type 0 where
  ended : S → Read S
  refused_at : ℕ → ℕ → S → Read S

module _ {S : Type 0} where
  -- a rule broken in a state, or what comes after
  abbrev pub refuse_in : S → Option ℕ → Step S → Step S
  refuse_in s none step = step
  refuse_in s (some n) step = refuse n s

  abbrev pub go_on : Step S → (S → Read S) → ℕ → Read S
  go_on (next s) k line = k s
  go_on (refuse n s) k line = refused_at n line s

  -- The lines one after the other, the first having this number; then the rules at the end of the file, whose refusals have line 0.
  unfoldable pub judge_lines : (S → List ℕ → Step S) → (S → Option ℕ) → ℕ → List (List ℕ) → S → Read S
  judge_lines judge at_end line [] s = go_on (refuse_in s (at_end s) (next s)) ended 0
  judge_lines judge at_end line (l ∷ ls) s = go_on (judge s l) (judge_lines judge at_end (line + 1) ls) line

  unfoldable pub judge_file : (S → List ℕ → Step S) → (S → Option ℕ) → List ℕ → S → Read S
  judge_file judge at_end bs s = judge_lines judge at_end 1 (lines_of bs) s

module _ {S L : Type 0} where
  -- A line's bytes: skipped; "line of no allowed form"; or judged by the rules of its form.
  unfoldable pub judge_bytes : (List Token → Option L) → (S → L → Step S) → S → List ℕ → Step S
  judge_bytes form judge s bs = maybe (read_line bs) (next s) (λ ts. maybe (form ts) (refuse 2 s) (judge s))  -- malformed
