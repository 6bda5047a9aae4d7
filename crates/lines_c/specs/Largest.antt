-- The largest literal of a file, as a code: 2v for v, 2v + 1 for -v. Assumes nothing.
use Rattle.std.specs.Prelude.{List, [], ◌∷◌, ℕ, ◌+◌, ◌*◌, min, max}
use Rattle.std.proofs.Math.Option.{Option, none, some}
use Rattle.lines.specs.Lines.{read_line, Token, number, minus, word}
use Rattle.lines.specs.Scan.{cap}

-- of the literals in front
unfoldable pub largest : List Token → ℕ
largest [] = 0
largest (number n ∷ ts) = max (2 * min cap n) (largest ts)
largest (minus n ∷ ts) = max (2 * min cap n + 1) (largest ts)
largest (word w ∷ ts) = 0

-- of a line that was read; a skipped one has none
abbrev pub in_line : Option (List Token) → ℕ
in_line none = 0
in_line (some ts) = largest ts

unfoldable pub in_lines : List (List ℕ) → ℕ
in_lines [] = 0
in_lines (l ∷ ls) = max (in_line (read_line l)) (in_lines ls)
