-- The iterator over the literals of a line. Assumes nothing.
use Rattle.std.specs.Prelude.{◌≡◌, List, ℕ, ◌-◌, length, Option, None, Some}
use Rattle.std.specs.Iterator.{Count, at_most}
use Rattle.lines.specs.declared.Literals.{Literals}
use Rattle.lines.specs.Scan.{literal_at}

-- the line that is read, and the place where the next token is looked for
abbrev pub literals_line : Literals → List ℕ
literals_line s = s.line.now

abbrev pub literals_at : Literals → ℕ
literals_at s = s.at

-- a call reads the next token: as a literal, with the place after it, from which the iterator goes on; or it is none, and the iterator stays there
abbrev pub GivesLiteral : Literals → Option (ℕ × ℕ) → Literals → Type 0
GivesLiteral old None new = (literal_at (literals_line old) (literals_at old) ≡ None) × (new ≡ old)
GivesLiteral old (Some p) new =
    (literal_at (literals_line old) (literals_at old) ≡ Some p)
    × (literals_line new ≡ literals_line old) × (literals_at new ≡ p.1)

-- a literal takes at least a byte
abbrev pub bytes_left : Literals → Count
bytes_left s = at_most (length (literals_line s) - literals_at s)
