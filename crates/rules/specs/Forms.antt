-- The forms of a line: what its tokens say, or none for a malformed line. Assumes nothing.
use Rattle.std.specs.Prelude.{Bool, true, false, not, cond, List, [], ◌∷◌, map, ℕ, eqb, length}
use Rattle.std.proofs.Math.Option.{Option, none, some}
use Prim.Native.String.{String}
use Rattle.lines.specs.Lists.{is_empty}
use Rattle.lines.specs.Bytes.{bytes, same_bytes}
use Rattle.lines.specs.Lines.{Token, number, minus, word, nothing_more}
use Rattle.rules.specs.Literals.{Lit, pos, neg, Lits}
use Rattle.rules.specs.Formula.{Bound, for_all, exists}

-- "Formula: first `p cnf V C`, then prefix lines .. then C clause lines"
pub data FormulaLine : Type 0 where
  problem : ℕ → ℕ → FormulaLine
  binding : List Bound → FormulaLine
  clause : Lits → FormulaLine

-- "mapping lines, at most one `o` line, `e` lines, then additions and deletions mixed"
pub data CertificateLine : Type 0 where
  mapping : List ℕ → List ℕ → Lits → CertificateLine
  hints : List ℕ → CertificateLine
  expansion addition deletion : Lits → CertificateLine

-- what a token is where a number, a literal or a fixed word is due
abbrev pub numeral : Token → Option ℕ
numeral (number n) = some n
numeral (minus n) = none
numeral (word w) = none

abbrev pub literal : Token → Option Lit
literal (number n) = some (pos n)
literal (minus n) = some (neg n)
literal (word w) = none

abbrev pub the_word : String → Token → Option (List ℕ)
the_word s (number n) = none
the_word s (minus n) = none
the_word s (word w) = cond (same_bytes w (bytes s)) (some w) none

abbrev pub is_zero : Token → Bool
is_zero (number n) = eqb n 0
is_zero (minus n) = false
is_zero (word w) = false

-- Readers of tokens hand back what they read and the tokens after it.
abbrev pub Reader : Type 0 → Type 0
Reader A = List Token → Option (A × List Token)

module _ {A B : Type 0} where
  infixl 10 ◌>>=◌
  abbrev pub ◌>>=◌ : Option A → (A → Option B) → Option B
  none >>= f = none
  some a >>= f = f a

module _ {A : Type 0} where
  abbrev pub provided : Bool → A → Option A
  provided true a = some a
  provided false a = none

  -- the line ends here
  abbrev pub whole : A → List Token → Option A
  whole a ts = provided (nothing_more ts) a

  -- one token
  abbrev pub one : (Token → Option A) → Reader A
  one item [] = none
  one item (t ∷ ts) = item t >>= λ a. some (a, ts)

  abbrev pub ahead : Option A → Option (List A × List Token) → Option (List A × List Token)
  ahead none r = none
  ahead (some a) none = none
  ahead (some a) (some r) = some (a ∷ r.0, r.1)

  -- tokens up to a zero
  abbrev pub up_to_zero : (Token → Option A) → Reader (List A)
  up_to_zero item [] = none
  up_to_zero item (t ∷ ts) = elim (is_zero t) [ true ↦ some ([], ts) | false ↦ ahead (item t) (up_to_zero item ts) ]

  -- the form that the table has for this first word
  abbrev pub by_word : List ℕ → List (String × (List Token → Option A)) → List Token → Option A
  by_word w [] ts = none
  by_word w (row ∷ rows) ts = elim (same_bytes w (bytes row.0)) [ true ↦ row.1 ts | false ↦ by_word w rows ts ]

-- "`p cnf V C`"
abbrev pub problem_form : List Token → Option FormulaLine
problem_form ts = do
  (w, ts₁) ← one (the_word "cnf") ts
  (v, ts₂) ← one numeral ts₁
  (c, ts₃) ← one numeral ts₂
  whole (problem v c) ts₃

-- "`a` universal or `e` existential, one or more variables, `0`"
abbrev pub binding_form : (ℕ → Bound) → List Token → Option FormulaLine
binding_form quantifier ts = do
  (vs, ts₁) ← up_to_zero numeral ts
  line ← whole (binding (map quantifier vs)) ts₁
  provided (not (is_empty vs)) line

-- "literals, perhaps none, `0`"
abbrev pub clause_form : {A : Type 0} → (Lits → A) → List Token → Option A
clause_form kind ts = do
  (c, ts₁) ← up_to_zero literal ts
  whole (kind c) ts₁

-- "`x P1..Pk 0 E1..Ek 0 L1..Lm 0`" "Both lists of k are equally long; k and m may be 0." "Unequal lists of a mapping line are 2."
abbrev pub mapping_form : List Token → Option CertificateLine
mapping_form ts = do
  (ps, ts₁) ← up_to_zero numeral ts
  (es, ts₂) ← up_to_zero numeral ts₁
  (ls, ts₃) ← up_to_zero literal ts₂
  line ← whole (mapping ps es ls) ts₃
  provided (eqb (length ps) (length es)) line

-- "`o n1..nj 0`, j from 0"
abbrev pub hints_form : List Token → Option CertificateLine
hints_form ts = do
  (ns, ts₁) ← up_to_zero numeral ts
  whole (hints ns) ts₁

unfoldable pub formula_line : List Token → Option FormulaLine
formula_line [] = none
formula_line (number n ∷ ts) = clause_form clause (number n ∷ ts)
formula_line (minus n ∷ ts) = clause_form clause (minus n ∷ ts)
formula_line (word w ∷ ts) =
    by_word w (("p", problem_form) ∷ ("a", binding_form for_all) ∷ ("e", binding_form exists) ∷ []) ts

unfoldable pub certificate_line : List Token → Option CertificateLine
certificate_line [] = none
certificate_line (number n ∷ ts) = clause_form addition (number n ∷ ts)
certificate_line (minus n ∷ ts) = clause_form addition (minus n ∷ ts)
certificate_line (word w ∷ ts) =
    by_word w (("x", mapping_form) ∷ ("o", hints_form) ∷ ("e", clause_form expansion) ∷ ("d", clause_form deletion) ∷ []) ts
