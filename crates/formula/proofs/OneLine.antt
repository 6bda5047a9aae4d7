-- Laws of one line of the formula. Assumes nothing.
use mathlib.Core.Path.{◌≡◌, refl, ap, sym, ◌∙◌, subst}
use mathlib.Core.Bool.{Bool, true, false, not}
use mathlib.Core.List.{List, [], ◌∷◌, map}
use mathlib.Core.Option.{Option, none, some}
use Prim.Native.Nat.{ℕ}
use native.Mathlib.Omega.{arith}
use lib.Dec.{eqb}
use lib.ListN.{length}
use borrow.Author.Tests.{eqb-true, eqb-false}
use lib.IntN.{ℤ}
use Rattle.std.specs.Prelude.{Some, None, Ok, Err}
use Rattle.rules.specs.declared.Rule.TheVariants.{Malformed}
use Rattle.lines.specs.Lists.{is_empty}
use Rattle.lines.specs.declared.Head.{Head}
use Rattle.lines.specs.Lines.{Token, number, minus, word}
use Rattle.lines.specs.Scan.{tokens_from, head_of}
use Rattle.cells.proofs.Laws.{kept_self}
use Rattle.rules.specs.Basics.{maybe}
use Rattle.rules.specs.Literals.{Lits}
use Rattle.rules.specs.Formula.{Formula}
use Rattle.rules.specs.Forms.{problem, binding, clause, provided, literal, numeral, the_word, one, whole, problem_form, ◌>>=◌}
use Rattle.rules.specs.Needs.{Places, formula_needs_so_far}
use Rattle.rules.specs.Step.{Step, refuse}
use Rattle.rules.specs.FormulaLines.{judge_formula}
use Rattle.lists.specs.Lists.{exactly}
use Rattle.lists.proofs.FormLaws.{clause_form_lem, binding_form_lem}
use Rattle.formula.specs.declared.Reading.{Reading}
use Rattle.formula.specs.Judged.{State, Outcome, quantifier, line_judge, by_form, problem_judge, binding_judge, clause_judge, Judged, LineRead}
use Rattle.formula.proofs.LineKinds.{problem_head, universal_head, existential_head, letter_head, skipped_head, other_head}
use Rattle.formula.proofs.Steps.{untouched, start_untouched}

-- what the rules say in another form
pub judged_as : {judge other : Places → Option Formula → Step (Option Formula)} {s : State} {n : ℕ} {p m : List ℤ} {t : Outcome} {u w : List ℤ}
    → ((l : Places) (f : Option Formula) → judge l f ≡ other l f) → LineRead other s n p m t u w → LineRead judge s n p m t u w
judged_as {judge} {other} {s} {n} {p} {m} {t} {u} {w} e h = record {
  judged = λ l f o k. subst (λ x. Judged x p m t u w) (sym (e l f)) (h.judged l f o k);
  grows = h.grows;
}

-- LINES OUT OF SEQUENCE
early_binding : (bs : List ℕ) (e q : ℕ) (l : Places) → binding_judge bs e q l none ≡ refuse 2 none
unfolding binding_judge judge_formula
early_binding bs e q l = ap (λ x. by_form x l none) (binding_form_lem (quantifier q) (tokens_from bs e)) ∙ go (exactly numeral (tokens_from bs e))
  where
    full : (t : Bool) (vs : List ℕ) → by_form (provided t (binding (map (quantifier q) vs))) l none ≡ refuse 2 none
    full true vs = refl
    full false vs = refl

    go : (r : Option (List ℕ)) → by_form (maybe r none (λ vs. provided (not (is_empty vs)) (binding (map (quantifier q) vs)))) l none ≡ refuse 2 none
    go none = refl
    go (some vs) = full (not (is_empty vs)) vs

early_clause : (bs : List ℕ) (l : Places) → clause_judge bs l none ≡ refuse 2 none
unfolding clause_judge judge_formula
early_clause bs l = ap (λ x. by_form x l none) (clause_form_lem clause (tokens_from bs 0)) ∙ go (exactly literal (tokens_from bs 0))
  where
    go : (r : Option Lits) → by_form (maybe r none (λ c. some (clause c))) l none ≡ refuse 2 none
    go none = refl
    go (some c) = refl

module _ (l : Places) (f : Formula) where
  late_count : (v : ℕ) (ts : List Token) → by_form (one numeral ts >>= λ s. whole (problem v s.0) s.1) l (some f) ≡ refuse 2 (some f)
  unfolding judge_formula
  late_count v [] = refl
  late_count v (number c ∷ []) = refl
  late_count v (number c ∷ t ∷ ts) = refl
  late_count v (minus c ∷ ts) = refl
  late_count v (word w ∷ ts) = refl

  late_numbers : (ts : List Token) → by_form (one numeral ts >>= λ r. one numeral r.1 >>= λ s. whole (problem r.0 s.0) s.1) l (some f) ≡ refuse 2 (some f)
  late_numbers [] = refl
  late_numbers (number v ∷ ts) = late_count v ts
  late_numbers (minus c ∷ ts) = refl
  late_numbers (word w ∷ ts) = refl

  abbrev paired : List Token → List ℕ → Option (List ℕ × List Token)
  paired ts a = some (a, ts)

  late_form : (ts : List Token) → by_form (problem_form ts) l (some f) ≡ refuse 2 (some f)
  late_form [] = refl
  late_form (t ∷ ts) = go (the_word "cnf" t)
    where
      go : (x : Option (List ℕ)) → by_form (x >>= paired ts >>= λ q. one numeral q.1 >>= λ r. one numeral r.1 >>= λ s. whole (problem r.0 s.0) s.1) l (some f) ≡ refuse 2 (some f)
      go none = refl
      go (some w) = late_numbers ts

  late_problem : (bs : List ℕ) (e : ℕ) → problem_judge bs e l (some f) ≡ refuse 2 (some f)
  unfolding problem_judge
  late_problem bs e = late_form (tokens_from bs e)

module _ (bs : List ℕ) where
  skip_judged : (s : State) (p m : List ℤ) → head_of bs ≡ Head.Skipped → LineRead (line_judge bs) s (length bs) p m (Ok s) p m
  skip_judged s p m h = record {
    judged = λ l f o k. subst (λ x. Judged x p m (Ok s) p m) (sym (skipped_head bs l f h)) (record { stepped = k; prefix = kept_self (formula_needs_so_far f).prefix p; matrix = kept_self (formula_needs_so_far f).matrix m });
    grows = omega arith;
  }

  -- BEFORE THE `p` LINE
  module _ (p m : List ℤ) where
    pub first_skip : head_of bs ≡ Head.Skipped → LineRead (line_judge bs) None (length bs) p m (Ok None) p m
    first_skip h = skip_judged None p m h

    pub first_problem : {b e : ℕ} {t : Outcome} {u : List ℤ} → head_of bs ≡ Head.Letter b e → b ≡ 112 → LineRead (problem_judge bs e) None (length bs) p m t u m
        → LineRead (line_judge bs) None (length bs) p m t u m
    first_problem h i k = judged_as (λ l f. problem_head bs l f h i) k

    early : ((l : Places) → line_judge bs l none ≡ refuse 2 none) → LineRead (line_judge bs) None (length bs) p m (Err Malformed) p m
    early h = start_untouched (line_judge bs) (length bs) p m none (λ l o. h l)

    pub first_letter : {b e : ℕ} → head_of bs ≡ Head.Letter b e → (b ≡ 112 → ⊥) → LineRead (line_judge bs) None (length bs) p m (Err Malformed) p m
    first_letter {b} {e} h i = early (λ l. go l (eqb b 97) refl (eqb b 101) refl)
      where
        go : (l : Places) (x : Bool) → eqb b 97 ≡ x → (y : Bool) → eqb b 101 ≡ y → line_judge bs l none ≡ refuse 2 none
        go l true j y k = universal_head bs l none h (eqb-true b 97 j) ∙ early_binding bs e 1 l
        go l false j true k = existential_head bs l none h (eqb-true b 101 k) ∙ early_binding bs e 2 l
        go l false j false k = letter_head bs l none h i (eqb-false b 97 j) (eqb-false b 101 k) ∙ early_clause bs l

    pub first_other : head_of bs ≡ Head.Other → LineRead (line_judge bs) None (length bs) p m (Err Malformed) p m
    first_other h = early (λ l. other_head bs l none h ∙ early_clause bs l)

    -- AFTER THE `p` LINE
    module _ (r : Reading) where
      pub within_skip : head_of bs ≡ Head.Skipped → LineRead (line_judge bs) (Some r) (length bs) p m (Ok (Some r)) p m
      within_skip h = skip_judged (Some r) p m h

      pub within_other : {t : Outcome} {w : List ℤ} → head_of bs ≡ Head.Other → LineRead (clause_judge bs) (Some r) (length bs) p m t p w
          → LineRead (line_judge bs) (Some r) (length bs) p m t p w
      within_other h k = judged_as (λ l f. other_head bs l f h) k

      module _ {b e : ℕ} (h : head_of bs ≡ Head.Letter b e) where
        pub within_problem : b ≡ 112 → LineRead (line_judge bs) (Some r) (length bs) p m (Err Malformed) p m
        within_problem i = untouched (line_judge bs) (length bs) p m r some (λ l f o k. problem_head bs l (some f) h i ∙ late_problem l f bs e)

        module _ {t : Outcome} where
          pub within_universal : {u : List ℤ} → b ≡ 97 → LineRead (binding_judge bs e 1) (Some r) (length bs) p m t u m
              → LineRead (line_judge bs) (Some r) (length bs) p m t u m
          within_universal i k = judged_as (λ l f. universal_head bs l f h i) k

          pub within_existential : {u : List ℤ} → b ≡ 101 → LineRead (binding_judge bs e 2) (Some r) (length bs) p m t u m
              → LineRead (line_judge bs) (Some r) (length bs) p m t u m
          within_existential i k = judged_as (λ l f. existential_head bs l f h i) k

          pub within_letter : {w : List ℤ} → (b ≡ 112 → ⊥) → (b ≡ 97 → ⊥) → (b ≡ 101 → ⊥) → LineRead (clause_judge bs) (Some r) (length bs) p m t p w
              → LineRead (line_judge bs) (Some r) (length bs) p m t p w
          within_letter x y z k = judged_as (λ l f. letter_head bs l f h x y z) k

-- the state by another name
pub read_in : {judge : Places → Option Formula → Step (Option Formula)} {s t : State} {n : ℕ} {p m u w : List ℤ} {x : Outcome} → s ≡ t → LineRead judge t n p m x u w → LineRead judge s n p m x u w
read_in {judge} {s} {t} {n} {p} {m} {u} {w} {x} e h = subst (λ s. LineRead judge s n p m x u w) (sym e) h
