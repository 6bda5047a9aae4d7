-- An iterator over the lines of a file. Assumes nothing.
use Rattle.std.specs.Prelude.{cond, List, [], ◌∷◌, ℕ, ◌+◌, ltb, length, drop}
use Rattle.lines.specs.Lines.{lines_of}
use Rattle.lines.specs.declared.each.Lines.{Lines}

-- the lines that are still to come
abbrev pub lines_from : List ℕ → ℕ → List (List ℕ)
lines_from bs at = cond (ltb (length bs) at) [] (lines_of (drop at bs))

abbrev pub lines_left : Lines → List (List ℕ)
lines_left s = lines_from s.bytes.now s.place

-- the bytes of lines, each with one byte after it
abbrev pub bytes_in : List (List ℕ) → ℕ
bytes_in [] = 0
bytes_in (line ∷ ls) = length line + 1 + bytes_in ls
