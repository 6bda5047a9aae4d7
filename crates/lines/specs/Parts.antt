-- The call for a line's bytes. Assumes nothing.
use Rattle.std.specs.Prelude.{◌≡◌, true, false, cond, List, [], ◌∷◌, ℕ, zero, suc, ◌+◌, eqb, length}
use Rattle.std.specs.Borrow.{Bor}
use Rattle.lines.specs.Bytes.{is_line_end}
use Rattle.lines.specs.Lines.{line_at}

-- the place after the n-th byte 10; the end if there are fewer
unfoldable pub after_ends : ℕ → List ℕ → ℕ
after_ends zero bs = 0
after_ends (suc n) [] = 0
after_ends (suc n) (b ∷ bs) = elim (is_line_end b) [ true ↦ suc (after_ends n bs) | false ↦ suc (after_ends (suc n) bs) ]

-- Where the line with this number starts. "If the line is below 1 or above the count of bytes 10 plus 1, it is the empty part at the end"
unfoldable pub line_start : ℕ → List ℕ → ℕ
line_start n bs = elim n [ zero ↦ length bs | suc i ↦ after_ends i bs ]

-- "File 1 means the formula, any other number the certificate."
abbrev pub file_of : ℕ → Bor (List ℕ) → Bor (List ℕ) → Bor (List ℕ)
file_of file formula certificate = cond (eqb file 1) formula certificate

-- r is the part of s that the line is: "that line's bytes without byte 10, as a part of the formula or of the certificate"
pub record LinePart (s : Bor (List ℕ)) (line : ℕ) (r : Bor (List ℕ)) : Type 0 where
  pub bytes : r.now ≡ line_at line s.now
  pub block : r.ref_ptr.0 ≡ s.ref_ptr.0
  pub place : r.ref_ptr.1 ≡ s.ref_ptr.1 + line_start line s.now
