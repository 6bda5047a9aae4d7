-- Laws of the kinds of lines. Assumes nothing.
use mathlib.Core.Path.{◌≡◌, refl, ap, sym, ◌∙◌, subst}
use mathlib.Core.Bool.{Bool, true, false, cond}
use mathlib.Core.List.{List, [], ◌∷◌}
use mathlib.Core.Option.{Option, none}
use Prim.Native.Nat.{ℕ}
use lib.Dec.{eqb}
use borrow.Author.Tests.{eqb-true, ne_eqb}
use Rattle.lines.specs.Bytes.{class_of, bytes, same_bytes}
use Rattle.lines.specs.Lines.{Token, number, minus, word, token_of}
use Rattle.lines.specs.declared.Head.{Head}
use Rattle.lines.specs.Scan.{tokens_from, head_of}
use Rattle.reading.proofs.HeadLaws.{head_skips, letter_reads, letter_plain, other_plain}
use Rattle.rules.specs.Formula.{Formula}
use Rattle.rules.specs.Limits.{limits}
use Rattle.rules.specs.Step as rules
use Rattle.rules.specs.Step.{judge_bytes}
use Rattle.formula.proofs.LineKinds.{word_is_lem, one_byte, other_byte}
use Rattle.ferp_rules.specs.Forms.{FerpLine, derivation_form, ferp_line}
use Rattle.ferp_rules.specs.Lines.{Derived, judge}
use Rattle.tables.specs.Tables.{Tables, lengths_of}
use Rattle.derivations.specs.Shown.{ferp_rules}
use Rattle.ferp.specs.Kinds.{Kind, Skip, Mapping, Clause, letter_kind, kind_of}
use Rattle.ferp.specs.Lines.{same_form, judged}

-- a line whose first word is not `x` is read as a clause line
plain_line : (w : List ℕ) (ts : List Token) → same_bytes w (bytes "x") ≡ false → ferp_line (token_of w ∷ ts) ≡ derivation_form (token_of w ∷ ts)
unfolding ferp_line
plain_line w ts x = go (token_of w) refl
  where
    go : (t : Token) → token_of w ≡ t → ferp_line (t ∷ ts) ≡ derivation_form (t ∷ ts)
    go (number n) k = refl
    go (minus n) k = refl
    go (word v) k =
        ap (λ b. elim b as (λ _. Option FerpLine) [ true ↦ same_form ts | false ↦ none ]) (ap (λ y. same_bytes y (bytes "x")) (sym (word_is_lem w v k)) ∙ x)

-- WHAT THE RULES SAY OF A LINE, BY ITS KIND
module _ (bs : List ℕ) (t : Tables) (f : Formula) (s : Derived) where
  abbrev line : rules.Step Derived
  line = ferp_rules.judge (limits (lengths_of t)) f s bs

  abbrev pub Means : Kind → Type 0
  Means Skip = line ≡ rules.next s
  Means (Mapping e) = line ≡ judged same_form bs e t f s
  Means Clause = line ≡ judged derivation_form bs 0 t f s

  abbrev judging : Derived → FerpLine → rules.Step Derived
  judging = judge (limits (lengths_of t)) f

  letter_means : (b e : ℕ) → head_of bs ≡ Head.Letter b e → Means (letter_kind b e)
  unfolding letter_kind judged ferp_line class_of
  letter_means b e h = go (eqb b 120) refl
    where
      go : (x : Bool) → eqb b 120 ≡ x → Means (cond x (Mapping e) Clause)
      go true i = letter_reads ferp_line judging s bs h (eqb-true b 120 i)
      go false i = letter_plain ferp_line judging s bs derivation_form h (plain_line (b ∷ []) (tokens_from bs e) (other_byte b 120 i))

  other_means : head_of bs ≡ Head.Other → Means Clause
  unfolding judged
  other_means h = other_plain ferp_line judging s bs derivation_form h (λ w ts long. plain_line w ts (one_byte w 120 long))

  pub kind_means : Means (kind_of (head_of bs))
  kind_means = go (head_of bs) refl
    where
      go : (h : Head) → head_of bs ≡ h → Means (kind_of h)
      go Head.Skipped e = head_skips ferp_line judging s bs e
      go (Head.Letter b e) q = letter_means b e q
      go Head.Other e = other_means e

  -- by the head that the code matches
  pub head_means : {k : Kind} {h : Head} → head_of bs ≡ h → kind_of h ≡ k → Means k
  head_means e i = subst Means (ap kind_of e ∙ i) kind_means

-- another letter
pub plain_letter : (b e : ℕ) → (b ≡ 120 → ⊥) → letter_kind b e ≡ Clause
unfolding letter_kind
plain_letter b e x = rw (ne_eqb b 120 x) refl
