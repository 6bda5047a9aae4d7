-- What a line of the certificate is, by its first word. Assumes nothing.
use Rattle.std.specs.Prelude.{cond, ℕ, eqb}
use Rattle.lines.specs.declared.Head.{Head}

-- skipped; a mapping line, with the place after its letter; a clause line, or one of no form
pub data Kind : Type 0 where
  Skip Clause : Kind
  Mapping : ℕ → Kind

-- the letter `x`
unfoldable pub letter_kind : ℕ → ℕ → Kind
letter_kind b e = cond (eqb b 120) (Mapping e) Clause

abbrev pub kind_of : Head → Kind
kind_of Head.Skipped = Skip
kind_of (Head.Letter b e) = letter_kind b e
kind_of Head.Other = Clause
