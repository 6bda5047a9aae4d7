-- Laws of the kinds of lines. Assumes nothing.
use mathlib.Core.Path.{◌≡◌, refl, ap, sym, ◌∙◌, subst}
use mathlib.Core.Bool.{Bool, true, false}
use mathlib.Core.List.{List, [], ◌∷◌}
use mathlib.Core.Option.{Option, none}
use Prim.Native.Nat.{ℕ}
use Prim.Native.String.{String}
use lib.Dec.{eqb}
use borrow.Author.Tests.{eqb-true, ne_eqb}
use Rattle.lines.specs.Bytes.{class_of, bytes, same_bytes}
use Rattle.lines.specs.Lines.{Token, number, minus, word, token_of}
use Rattle.lines.specs.declared.Head.{Head}
use Rattle.lines.specs.Scan.{tokens_from, head_of}
use Rattle.reading.proofs.HeadLaws.{head_skips, letter_reads, letter_plain, other_plain}
use Rattle.rules.specs.Formula.{Formula}
use Rattle.rules.specs.Forms.{CertificateLine, expansion, addition, deletion, certificate_line, by_word, mapping_form, hints_form, clause_form}
use Rattle.rules.specs.Limits.{limits}
use Rattle.rules.specs.Step as rules
use Rattle.rules.specs.Step.{judge_bytes}
use Rattle.rules.specs.CertificateLines.{State, judge}
use Rattle.formula.proofs.LineKinds.{word_is_lem, one_byte, other_byte}
use Rattle.tables.specs.Tables.{Tables, lengths_of}
use Rattle.ferat.specs.Kinds.{Kind, Skip, Mapping, Hints, Expansion, Deletion, Addition, picked, letter_kind, kind_of}
use Rattle.ferat.specs.Lines.{judged}
use Rattle.ferat.specs.Certificate.{judge_line}

-- a line whose first word is none of the four is read as an addition
plain_line : (w : List ℕ) (ts : List Token) → same_bytes w (bytes "x") ≡ false → same_bytes w (bytes "o") ≡ false → same_bytes w (bytes "e") ≡ false
    → same_bytes w (bytes "d") ≡ false → certificate_line (token_of w ∷ ts) ≡ clause_form addition (token_of w ∷ ts)
unfolding certificate_line
plain_line w ts x o e d = go (token_of w) refl
  where
    pass : (v : List ℕ) (name : String) (form : List Token → Option CertificateLine) (rest : Option CertificateLine) → same_bytes v (bytes name) ≡ false
        → elim (same_bytes v (bytes name)) as (λ _. Option CertificateLine) [ true ↦ form ts | false ↦ rest ] ≡ rest
    pass v name form rest h = ap (λ b. elim b as (λ _. Option CertificateLine) [ true ↦ form ts | false ↦ rest ]) h

    go : (t : Token) → token_of w ≡ t → certificate_line (t ∷ ts) ≡ clause_form addition (t ∷ ts)
    go (number n) k = refl
    go (minus n) k = refl
    go (word v) k =
        let s = word_is_lem w v k in
        let at : (name : String) → same_bytes v (bytes name) ≡ same_bytes w (bytes name) = λ name. ap (λ y. same_bytes y (bytes name)) (sym s) in
        pass v "x" mapping_form (by_word v (("o", hints_form) ∷ ("e", clause_form expansion) ∷ ("d", clause_form deletion) ∷ []) ts) (at "x" ∙ x)
        ∙ pass v "o" hints_form (by_word v (("e", clause_form expansion) ∷ ("d", clause_form deletion) ∷ []) ts) (at "o" ∙ o)
        ∙ pass v "e" (clause_form expansion) (by_word v (("d", clause_form deletion) ∷ []) ts) (at "e" ∙ e)
        ∙ pass v "d" (clause_form deletion) none (at "d" ∙ d)

-- WHAT THE RULES SAY OF A LINE, BY ITS KIND
module _ (bs : List ℕ) (t : Tables) (f : Formula) (s : State) where
  abbrev line : rules.Step State
  line = judge_line (limits (lengths_of t)) f s bs

  abbrev pub Means : Kind → Type 0
  Means Skip = line ≡ rules.next s
  Means (Mapping e) = line ≡ judged mapping_form bs e t f s
  Means (Hints e) = line ≡ judged hints_form bs e t f s
  Means (Expansion e) = line ≡ judged (clause_form expansion) bs e t f s
  Means (Deletion e) = line ≡ judged (clause_form deletion) bs e t f s
  Means Addition = line ≡ judged (clause_form addition) bs 0 t f s

  abbrev judging : State → CertificateLine → rules.Step State
  judging = judge (limits (lengths_of t)) f

  letter_means : (b e : ℕ) → head_of bs ≡ Head.Letter b e → Means (letter_kind b e)
  unfolding letter_kind judged certificate_line class_of
  letter_means b e h = go (eqb b 120) refl (eqb b 111) refl (eqb b 101) refl (eqb b 100) refl
    where
      go : (x : Bool) → eqb b 120 ≡ x → (o : Bool) → eqb b 111 ≡ o → (v : Bool) → eqb b 101 ≡ v → (d : Bool) → eqb b 100 ≡ d → Means (picked e x o v d)
      go true i o j v k d l = letter_reads certificate_line judging s bs h (eqb-true b 120 i)
      go false i true j v k d l = letter_reads certificate_line judging s bs h (eqb-true b 111 j)
      go false i false j true k d l = letter_reads certificate_line judging s bs h (eqb-true b 101 k)
      go false i false j false k true l = letter_reads certificate_line judging s bs h (eqb-true b 100 l)
      go false i false j false k false l =
          letter_plain certificate_line judging s bs (clause_form addition) h
          (plain_line (b ∷ []) (tokens_from bs e) (other_byte b 120 i) (other_byte b 111 j) (other_byte b 101 k) (other_byte b 100 l))

  other_means : head_of bs ≡ Head.Other → Means Addition
  unfolding judged
  other_means h =
      other_plain certificate_line judging s bs (clause_form addition) h
      (λ w ts long. plain_line w ts (one_byte w 120 long) (one_byte w 111 long) (one_byte w 101 long) (one_byte w 100 long))

  pub kind_means : Means (kind_of (head_of bs))
  kind_means = go (head_of bs) refl
    where
      go : (h : Head) → head_of bs ≡ h → Means (kind_of h)
      go Head.Skipped e = head_skips certificate_line judging s bs e
      go (Head.Letter b e) q = letter_means b e q
      go Head.Other e = other_means e

  -- by the head that the code matches
  pub head_means : {k : Kind} {h : Head} → head_of bs ≡ h → kind_of h ≡ k → Means k
  head_means e i = subst Means (ap kind_of e ∙ i) kind_means

-- a letter that is none of the four
pub plain_letter : (b e : ℕ) → (b ≡ 120 → ⊥) → (b ≡ 111 → ⊥) → (b ≡ 101 → ⊥) → (b ≡ 100 → ⊥) → letter_kind b e ≡ Addition
unfolding letter_kind
plain_letter b e x o v d = rw (ne_eqb b 120 x, ne_eqb b 111 o, ne_eqb b 101 v, ne_eqb b 100 d) refl
