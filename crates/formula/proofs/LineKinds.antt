-- Laws of the kinds of lines. Assumes nothing.
use mathlib.Core.Path.{◌≡◌, refl, ap, sym, ◌∙◌}
use mathlib.Core.Bool.{Bool, true, false, not, cond, ◌&&◌}
use mathlib.Core.List.{List, [], ◌∷◌}
use mathlib.Core.Option.{Option, none, some}
use Prim.Native.Nat.{ℕ}
use native.Mathlib.Omega.{arith}
use lib.ListN.{length}
use lib.Dec.{eqb}
use borrow.Author.Tests.{ne_eqb}
use Rattle.lines.specs.Bytes.{class_of, bytes, same_bytes, is_minus}
use Rattle.lines.specs.Lines.{Token, number, minus, word, token_of, signed, is_number, value, read_line}
use Rattle.lines.specs.declared.Head.{Head}
use Rattle.lines.specs.Scan.{tokens_from, head_of}
use Rattle.lines.proofs.Heads.{head_skipped, head_letter, head_other}
use Rattle.rules.specs.Basics.{maybe}
use Rattle.rules.specs.Formula.{Formula, for_all, exists}
use Rattle.rules.specs.Forms.{FormulaLine, clause, formula_line, by_word, problem_form, binding_form, clause_form}
use Rattle.rules.specs.Needs.{Places}
use Rattle.rules.specs.Step.{next, judge_bytes}
use Rattle.formula.specs.declared.Quantifier.TheVariants.{Universal, Existential}
use Rattle.formula.specs.Quantifiers.{number_of}
use Rattle.formula.specs.Judged.{line_judge, by_form, problem_judge, binding_judge, clause_judge}

-- a word that is no number
pub word_is_lem : (w v : List ℕ) → token_of w ≡ word v → w ≡ v
word_is_lem w v e = past w (not_number (is_number w) e)
  where
    not_number : (t : Bool) → cond t (number (value 0 w)) (signed w) ≡ word v → signed w ≡ word v
    not_number true e = absurd (let z : ◌≡◌ {A = ℕ} 0 1 = cc in omega arith)
    not_number false e = e

    test : (n : ℕ) (r : List ℕ) (t : Bool) → cond t (minus n) (word r) ≡ word v → r ≡ v
    test n r true e = absurd (let z : ◌≡◌ {A = ℕ} 0 1 = cc in omega arith)
    test n r false e = cc

    past : (w : List ℕ) → signed w ≡ word v → w ≡ v
    past [] e = cc
    past (b ∷ bs) e = test (value 0 bs) (b ∷ bs) (is_minus b && is_number bs && not (eqb (value 0 bs) 0)) e

-- a line whose first word is no letter is read as a clause
plain_line : (w : List ℕ) (ts : List Token) → same_bytes w (bytes "p") ≡ false → same_bytes w (bytes "a") ≡ false → same_bytes w (bytes "e") ≡ false
    → formula_line (token_of w ∷ ts) ≡ clause_form clause (token_of w ∷ ts)
unfolding formula_line
plain_line w ts p a e = go (token_of w) refl
  where
    go : (t : Token) → token_of w ≡ t → formula_line (t ∷ ts) ≡ clause_form clause (t ∷ ts)
    go (number n) k = refl
    go (minus n) k = refl
    go (word v) k =
        let s = word_is_lem w v k in
        ap (λ x. elim x as (λ _. Option FormulaLine) [ true ↦ problem_form ts | false ↦ by_word v (("a", binding_form for_all) ∷ ("e", binding_form exists) ∷ []) ts ]) (ap (λ x. same_bytes x (bytes "p")) (sym s) ∙ p)
        ∙ ap (λ x. elim x as (λ _. Option FormulaLine) [ true ↦ binding_form for_all ts | false ↦ by_word v (("e", binding_form exists) ∷ []) ts ]) (ap (λ x. same_bytes x (bytes "a")) (sym s) ∙ a)
        ∙ ap (λ x. elim x as (λ _. Option FormulaLine) [ true ↦ binding_form exists ts | false ↦ none ]) (ap (λ x. same_bytes x (bytes "e")) (sym s) ∙ e)

pub one_byte : (w : List ℕ) (b : ℕ) → (length w ≡ 1 → ⊥) → same_bytes w (b ∷ []) ≡ false
one_byte [] b h = refl
one_byte (x ∷ []) b h = absurd (h refl)
one_byte (x ∷ y ∷ w) b h = go (eqb x b)
  where
    go : (t : Bool) → t && false ≡ false
    go true = refl
    go false = refl

pub other_byte : (x b : ℕ) → eqb x b ≡ false → same_bytes (x ∷ []) (b ∷ []) ≡ false
other_byte x b e = ap (λ t. t && true) e

-- WHAT THE RULES SAY OF A LINE, BY ITS FIRST WORD
module _ (bs : List ℕ) (l : Places) (s : Option Formula) where
  read_as : {ts : List Token} → read_line bs ≡ some ts → line_judge bs l s ≡ by_form (formula_line ts) l s
  unfolding line_judge judge_bytes
  read_as e = ap (λ r. maybe r (next s) (λ ts. by_form (formula_line ts) l s)) e

  as_clause : {ts : List Token} → line_judge bs l s ≡ by_form (clause_form clause ts) l s → tokens_from bs 0 ≡ ts → line_judge bs l s ≡ clause_judge bs l s
  unfolding clause_judge
  as_clause h e = h ∙ ap (λ ts. by_form (clause_form clause ts) l s) (sym e)

  -- a letter
  module _ {b e : ℕ} (h : head_of bs ≡ Head.Letter b e) where
    line : line_judge bs l s ≡ by_form (formula_line (token_of (b ∷ []) ∷ tokens_from bs e)) l s
    line = let k = head_letter bs h in read_as k.0 ∙ ap (λ ts. by_form (formula_line ts) l s) k.1

    by_letter : {n : ℕ} → b ≡ n → line_judge bs l s ≡ by_form (formula_line (token_of (n ∷ []) ∷ tokens_from bs e)) l s
    by_letter i = line ∙ ap (λ n. by_form (formula_line (token_of (n ∷ []) ∷ tokens_from bs e)) l s) i

    pub problem_head : b ≡ 112 → line_judge bs l s ≡ problem_judge bs e l s
    unfolding problem_judge formula_line class_of
    problem_head i = by_letter i

    pub universal_head : b ≡ 97 → line_judge bs l s ≡ binding_judge bs e (number_of Universal) l s
    unfolding binding_judge formula_line class_of
    universal_head i = by_letter i

    pub existential_head : b ≡ 101 → line_judge bs l s ≡ binding_judge bs e (number_of Existential) l s
    unfolding binding_judge formula_line class_of
    existential_head i = by_letter i

    pub letter_head : (b ≡ 112 → ⊥) → (b ≡ 97 → ⊥) → (b ≡ 101 → ⊥) → line_judge bs l s ≡ clause_judge bs l s
    letter_head p a x =
        as_clause (line ∙ ap (λ x. by_form x l s) (plain_line (b ∷ []) (tokens_from bs e) (other_byte b 112 (ne_eqb b 112 p)) (other_byte b 97 (ne_eqb b 97 a)) (other_byte b 101 (ne_eqb b 101 x))))
        (head_letter bs h).1

  pub skipped_head : head_of bs ≡ Head.Skipped → line_judge bs l s ≡ next s
  unfolding line_judge judge_bytes
  skipped_head e = ap (λ r. maybe r (next s) (λ ts. by_form (formula_line ts) l s)) (head_skipped bs e)

  pub other_head : head_of bs ≡ Head.Other → line_judge bs l s ≡ clause_judge bs l s
  other_head h =
      let k = head_other bs h in
      as_clause (read_as k.2 ∙ ap (λ x. by_form x l s) (ap formula_line k.3 ∙ plain_line k.0 k.1 (one_byte k.0 112 k.4) (one_byte k.0 97 k.4) (one_byte k.0 101 k.4))) k.3
