-- What a line of the certificate is, by its first word. Assumes nothing.
use Rattle.std.specs.Prelude.{Bool, cond, ℕ, eqb}
use Rattle.lines.specs.declared.Head.{Head}

-- skipped; a mapping, hints, expansion or deletion line, with the place after its letter; an addition line, or one of no form
pub data Kind : Type 0 where
  Skip Addition : Kind
  Mapping Hints Expansion Deletion : ℕ → Kind

-- the letters `x`, `o`, `e`, `d`
abbrev pub picked : ℕ → Bool → Bool → Bool → Bool → Kind
picked e x o v d =
    cond x (Mapping e) (cond o (Hints e) (cond v (Expansion e) (cond d (Deletion e) Addition)))

unfoldable pub letter_kind : ℕ → ℕ → Kind
letter_kind b e = picked e (eqb b 120) (eqb b 111) (eqb b 101) (eqb b 100)

abbrev pub kind_of : Head → Kind
kind_of Head.Skipped = Skip
kind_of (Head.Letter b e) = letter_kind b e
kind_of Head.Other = Addition
