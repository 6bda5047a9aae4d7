-- A report as seven numbers, and as bytes. Assumes nothing.
use Rattle.std.specs.Prelude.{◌≡◌, List, [], ◌∷◌, ◌++◌, ℕ, ◌≤◌, length, take, drop}
use Rattle.rules.specs.Verdict.{number_of, file_of, line_of}
use Rattle.rules.specs.Render.{render}
use Rattle.rules.specs.declared.Verdict.{Verdict}
use Rattle.rules.specs.declared.Verdict.TheVariants.{Accepted, Refused}
use Rattle.rules.specs.declared.Report.{Report}

-- "Where an answer is an enum, a definition gives this paper's number and values for each of its cases": the word as a number. It is never
-- 0, so that places which a caller cleared, and no check wrote to, do not read as accepted.
abbrev pub word_number : Verdict → ℕ
word_number Accepted = 1
word_number (Refused number file line) = 2

-- "A verdict is word, number, file (0 none, 1 formula, 2 certificate), line, and the `e`, addition and deletion lines accepted."
unfoldable pub seven_of : Report → List ℕ
seven_of r =
    word_number r.verdict ∷ number_of r.verdict ∷ file_of r.verdict ∷ line_of r.verdict ∷ r.expansions ∷ r.additions ∷ r.deletions ∷ []

-- "prints the seven fields parted by commas, then byte 10": k bytes from the start, and after them what stood there; a word of at
-- most 8, six commas, six numbers of at most ten digits and byte 10 are at most 75
pub record Rendered (r : Report) (entry exit : List ℕ) (k : ℕ) : Type 0 where
  pub room : k ≤ 75
  pub within : k ≤ length exit
  pub count : k ≡ length (render r ++ (10 ∷ []))
  pub bytes : take k exit ≡ render r ++ (10 ∷ [])
  pub rest : drop k exit ≡ drop k entry
