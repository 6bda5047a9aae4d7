-- The seven fields as bytes. Assumes nothing.
use Rattle.std.specs.Prelude.{true, false, List, [], ◌∷◌, ◌++◌, ℕ, zero, suc, ◌+◌, ◌/◌, ◌%◌, ltb}
use Rattle.lines.specs.Bytes.{bytes}
use Rattle.rules.specs.declared.Verdict.{Verdict}
use Rattle.rules.specs.declared.Verdict.TheVariants.{Accepted, Refused}
use Rattle.rules.specs.declared.Report.{Report}
use Rattle.rules.specs.Verdict.{number_of, file_of, line_of}

-- the number in base ten; a number below n has at most n digits
abbrev pub digits : ℕ → ℕ → List ℕ
digits zero k = []
digits (suc n) k = elim (ltb k 10) [ true ↦ (48 + k) ∷ [] | false ↦ digits n (k / 10) ++ ((48 + k % 10) ∷ []) ]

abbrev pub decimal : ℕ → List ℕ
decimal k = digits (suc k) k

abbrev pub word_of : Verdict → List ℕ
word_of Accepted = bytes "accepted"
word_of (Refused number file line) = bytes "refused"

infixr 66 ◌comma◌
abbrev pub ◌comma◌ : List ℕ → List ℕ → List ℕ
a comma b = a ++ (44 ∷ b)

-- "A verdict is word, number, file .. line, and the `e`, addition and deletion lines accepted": "the seven fields parted by commas"
unfoldable pub render : Report → List ℕ
render r =
    word_of r.verdict comma decimal (number_of r.verdict) comma decimal (file_of r.verdict) comma decimal (line_of r.verdict)
    comma decimal r.expansions comma decimal r.additions comma decimal r.deletions
