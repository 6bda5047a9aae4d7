-- What the functions inside write. Assumes nothing.
use Rattle.std.specs.Prelude.{◌≡◌, List, [], ◌∷◌, ◌++◌, ℕ, ◌+◌, length, take}
use Rattle.rules.specs.Render.{decimal}
use Rattle.report.specs.declared.Line.{Line}

-- what is written of a line
abbrev pub text_of : Line → List ℕ
text_of l = take l.end l.bytes

-- the line m is the line l with `bytes` behind
pub record Adds (l : Line) (bytes : List ℕ) (m : Line) : Type 0 where
  pub next : m.end ≡ l.end + length bytes
  pub text : text_of m ≡ text_of l ++ bytes

-- the number in base ten, as a name that stays shut
unfoldable pub numeral : ℕ → List ℕ
numeral n = decimal n

-- the numbers, each after a comma
unfoldable pub after_commas : List ℕ → List ℕ
after_commas [] = []
after_commas (n ∷ ns) = 44 ∷ (numeral n ++ after_commas ns)
