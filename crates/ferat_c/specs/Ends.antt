-- A line of a file as a start and an end. Assumes nothing.
use Rattle.std.specs.Prelude.{◌≡◌, List, [], ◌∷◌, ℕ, ◌+◌, ◌-◌, length, take, drop}
use Rattle.lines.specs.Lines.{line_at}
use Rattle.lines.specs.Parts.{line_start}

-- the two numbers are the line's start and its end, and what stands between them is "that line's bytes without byte 10"; "If the line
-- is below 1 or above the count of bytes 10 plus 1, it is the empty part at the end"
pub record LineEnds (s : List ℕ) (line : ℕ) (ends : List ℕ) : Type 0 where
  pub start : ℕ
  pub end : ℕ
  pub written : ends ≡ start ∷ end ∷ []
  pub from : start ≡ line_start line s
  pub to : end ≡ start + length (line_at line s)
  pub bytes : take (end - start) (drop start s) ≡ line_at line s
