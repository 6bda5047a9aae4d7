-- What the rules say of a line by its first word, whatever the certificate's kind. Assumes nothing.
use mathlib.Core.Path.{◌≡◌, refl, ap, sym, ◌∙◌}
use mathlib.Core.List.{List, [], ◌∷◌}
use mathlib.Core.Option.{Option, none, some}
use Prim.Native.Nat.{ℕ}
use lib.ListN.{length}
use Rattle.lines.specs.Lines.{Token, token_of, read_line}
use Rattle.lines.specs.declared.Head.{Head}
use Rattle.lines.specs.Scan.{tokens_from, head_of}
use Rattle.lines.proofs.Heads.{head_skipped, head_letter, head_other}
use Rattle.rules.specs.Basics.{maybe}
use Rattle.rules.specs.Step.{Step, next, refuse, judge_bytes}

module _ {S L : Type 0} (form : List Token → Option L) (judge : S → L → Step S) (s : S) (bs : List ℕ) where
  abbrev by : Option L → Step S
  by o = maybe o (refuse 2 s) (judge s)

  read_as : {ts : List Token} → read_line bs ≡ some ts → judge_bytes form judge s bs ≡ by (form ts)
  unfolding judge_bytes
  read_as e = ap (λ r. maybe r (next s) (λ ts. by (form ts))) e

  pub head_skips : head_of bs ≡ Head.Skipped → judge_bytes form judge s bs ≡ next s
  unfolding judge_bytes
  head_skips h = ap (λ r. maybe r (next s) (λ ts. by (form ts))) (head_skipped bs h)

  -- by the letter
  pub letter_reads : {b e : ℕ} → head_of bs ≡ Head.Letter b e → {n : ℕ} → b ≡ n
      → judge_bytes form judge s bs ≡ by (form (token_of (n ∷ []) ∷ tokens_from bs e))
  letter_reads {e} h i =
      let k = head_letter bs h in
      read_as k.0 ∙ ap (λ ts. by (form ts)) k.1 ∙ ap (λ n. by (form (token_of (n ∷ []) ∷ tokens_from bs e))) i

  -- whole, by a form of no letter
  module _ (plain : List Token → Option L) where
    pub letter_plain : {b e : ℕ} → head_of bs ≡ Head.Letter b e
        → form (token_of (b ∷ []) ∷ tokens_from bs e) ≡ plain (token_of (b ∷ []) ∷ tokens_from bs e)
        → judge_bytes form judge s bs ≡ by (plain (tokens_from bs 0))
    letter_plain h i = letter_reads h refl ∙ ap by i ∙ ap (λ ts. by (plain ts)) (sym (head_letter bs h).1)

    pub other_plain : head_of bs ≡ Head.Other
        → ((w : List ℕ) (ts : List Token) → (length w ≡ 1 → ⊥) → form (token_of w ∷ ts) ≡ plain (token_of w ∷ ts))
        → judge_bytes form judge s bs ≡ by (plain (tokens_from bs 0))
    other_plain h i =
        let k = head_other bs h in
        read_as k.2 ∙ ap (λ ts. by (form ts)) k.3 ∙ ap by (i k.0 k.1 k.4) ∙ ap (λ ts. by (plain ts)) (sym k.3)
