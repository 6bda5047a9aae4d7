-- The forms of a FERP certificate's lines. Assumes nothing.
use Rattle.std.specs.Prelude.{not, List, [], ◌∷◌, ℕ, eqb}
use Rattle.std.proofs.Math.Option.{Option, none, some}
use Rattle.lines.specs.Lines.{Token, number, minus, word}
use Rattle.rules.specs.Literals.{Lits}
use Rattle.rules.specs.Forms as ferat
use Rattle.rules.specs.Forms.{CertificateLine, numeral, literal, one, up_to_zero, whole, provided, by_word, mapping_form, ◌>>=◌}

-- "the same mapping lines, then clause lines of a positive index, literals, `0`, one or two numbers, `0`": an expansion has its index, its
-- literals and the number of a matrix clause, a resolution its index, its literals and its parents' indexes
pub data FerpLine : Type 0 where
  mapping : List ℕ → List ℕ → Lits → FerpLine
  expansion : ℕ → Lits → ℕ → FerpLine
  resolution : ℕ → Lits → ℕ → ℕ → FerpLine

-- "the same mapping lines"
abbrev pub same_mapping : CertificateLine → Option FerpLine
same_mapping (ferat.mapping ps es ls) = some (mapping ps es ls)
same_mapping (ferat.hints ns) = none
same_mapping (ferat.expansion c) = none
same_mapping (ferat.addition c) = none
same_mapping (ferat.deletion c) = none

-- "One number n means an expansion of matrix clause n .. Two name earlier lines by index"
abbrev pub derivation : ℕ → Lits → List ℕ → Option FerpLine
derivation i c [] = none
derivation i c (n ∷ []) = some (expansion i c n)
derivation i c (a ∷ b ∷ []) = some (resolution i c a b)
derivation i c (a ∷ b ∷ n ∷ ns) = none

-- "a positive index, literals, `0`, one or two numbers, `0`"
abbrev pub derivation_form : List Token → Option FerpLine
derivation_form ts = do
  (i, ts₁) ← one numeral ts
  (c, ts₂) ← up_to_zero literal ts₁
  (ns, ts₃) ← up_to_zero numeral ts₂
  line ← derivation i c ns
  line₁ ← whole line ts₃
  provided (not (eqb i 0)) line₁

unfoldable pub ferp_line : List Token → Option FerpLine
ferp_line [] = none
ferp_line (number n ∷ ts) = derivation_form (number n ∷ ts)
ferp_line (minus n ∷ ts) = derivation_form (minus n ∷ ts)
ferp_line (word w ∷ ts) = by_word w (("x", λ us. mapping_form us >>= same_mapping) ∷ []) ts
