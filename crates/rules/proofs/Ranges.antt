-- The numbers, files and lines of verdicts.
use mathlib.Core.Path.{◌≡◌, refl, ap, ◌∙◌}
use mathlib.Core.Logic.{◌⊎◌, inl, inr, ◌↔◌}
use mathlib.Core.Bool.{Bool, true, false, cond, ◌&&◌, ◌||◌}
use mathlib.Core.List.{List, ◌++◌, map}
use mathlib.Core.Option.{Option, none, some}
use Prim.Native.Nat.{ℕ, suc, ◌+◌, ◌≤◌}
use native.Mathlib.Omega.{arith}
use lib.Dec.{eqb, leb}
use lib.ListN.{length}
use Rattle.std.specs.List.{list_all as all, list_any as any}
use Rattle.lines.specs.Lists.{is_empty}
use Rattle.lines.specs.Lines.{lines_of}
use Rattle.rules.specs.Basics.{is_in, distinct}
use Rattle.rules.specs.Literals.{vars, same_set}
use Rattle.rules.specs.Formula.{Formula, bound_var, bound, existential}
use Rattle.rules.specs.Forms.{FormulaLine, problem, binding, clause, formula_line, CertificateLine, mapping, hints, expansion, addition, deletion, certificate_line}
use Rattle.rules.specs.Needs.{places, formula_needs}
use Rattle.rules.specs.Limits.{Limits, allows, has_room}
use Rattle.rules.specs.Step.{Step, next, Read, ended, refused_at, ◌unless◌, ◌then◌, refuse_in, judge_bytes}
use Rattle.rules.specs.Expansion.{copy_vars, is_mapped, good_annotation, mapping_rules, expands}
use Rattle.rules.specs.Propagation.{rup, rat}
use Rattle.rules.specs.FormulaLines.{blank, with_bound, with_clause, up_to_v, judge_formula, formula_end, read_formula}
use Rattle.rules.specs.CertificateLines.{State, start, needing, in_sequence, in_range, hint_there, no_hint_left, candidates, kind_rules, accept, judge, certificate_end, read_certificate}
use Rattle.rules.specs.declared.Verdict.{Verdict}
use Rattle.rules.specs.declared.Verdict.TheVariants.{Accepted, Refused}
use Rattle.rules.specs.Verdict.{number_of, IsNumber, FeratNumber, Ranged, Checked, early, of_certificate, of_formula, both_files, check, verdict}
use Rattle.rules.proofs.Judged.{OfRules, OfStep, OfRead, of_unless, of_then, of_refuse_in, file_keeps, bytes_keep}

-- nothing is asked of states, and N of the numbers of refusals
module _ (N : ℕ → Type 0) {S : Type 0} where
  abbrev pub Any : S → Type 0
  Any s = Unit {0}

  abbrev pub Numbered : ℕ → S → Type 0
  Numbered n s = N n

  -- the rules r, in the state s, refuse with such numbers
  abbrev pub Rules : S → Option ℕ → Type 0
  Rules s r = OfRules Any Numbered r s

  abbrev pub Steps : Step S → Type 0
  Steps = OfStep Any Numbered

  module _ (s : S) where
    pub one : (n : ℕ) (b : Bool) → N n → Rules s (n unless b)
    one n b h = of_unless Any Numbered n b s h

    pub two : (m : ℕ) (a : Bool) (n : ℕ) (b : Bool) → N m → N n → Rules s (m unless a then n unless b)
    two m a n b h k = of_then Any Numbered (m unless a) (n unless b) s (one m a h) (one n b k)

    pub three : (m : ℕ) (a : Bool) (n : ℕ) (b : Bool) (o : ℕ) (c : Bool) → N m → N n → N o
        → Rules s (m unless a then n unless b then o unless c)
    three m a n b o c h k j = of_then Any Numbered (m unless a) (n unless b then o unless c) s (one m a h) (two n b o c k j)

    pub guarded : (r : Option ℕ) (step : Step S) → Rules s r → Steps step → Steps (refuse_in s r step)
    guarded r step p q = of_refuse_in Any Numbered s r step p λ e. q

-- the numbers of the formula's lines
abbrev pub FormulaNumber : ℕ → Type 0
FormulaNumber n = ((1 ≤ n) × (n ≤ 6)) ⊎ (n ≡ 15)

-- the numbers of a FERAT check
abbrev pub Ferat : ℕ → Type 0
Ferat n = IsNumber n × FeratNumber n

module _ (limits : Limits) where
  formula_step : (s : Option Formula) (line : FormulaLine) → Steps FormulaNumber (judge_formula limits s line)
  unfolding judge_formula
  formula_step none (problem v c) =
      guarded FormulaNumber none (3 unless (allows limits.highest v && allows limits.clauses c))
      (refuse_in (some (blank v c)) (15 unless has_room limits.lengths (formula_needs (blank v c))) (next (some (blank v c))))
      (one FormulaNumber {S = Option Formula} none 3 (allows limits.highest v && allows limits.clauses c) (inl (omega arith)))
      (guarded FormulaNumber (some (blank v c)) (15 unless has_room limits.lengths (formula_needs (blank v c))) (next (some (blank v c)))
      (one FormulaNumber (some (blank v c)) 15 (has_room limits.lengths (formula_needs (blank v c))) (inr refl)) tt)
  formula_step none (binding bs) = inl (omega arith)
  formula_step none (clause c) = inl (omega arith)
  formula_step (some f) (problem v c) = inl (omega arith)
  formula_step (some f) (binding bs) =
      guarded FormulaNumber (some f) (2 unless empty then 3 unless range then 4 unless new) (next (some (with_bound f bs)))
      (three FormulaNumber (some f) 2 empty 3 range 4 new (inl (omega arith)) (inl (omega arith)) (inl (omega arith))) tt
    where
      empty : Bool
      empty = is_empty f.matrix

      range : Bool
      range = up_to_v f (map bound_var bs)

      new : Bool
      new = distinct (map bound_var bs ++ bound f)
  formula_step (some f) (clause c) =
      guarded FormulaNumber (some f) (3 unless range) (refuse_in (some (with_clause f c)) (15 unless room then 5 unless are then 6 unless few) (next (some (with_clause f c))))
      (one FormulaNumber (some f) 3 range (inl (omega arith)))
      (guarded FormulaNumber (some (with_clause f c)) (15 unless room then 5 unless are then 6 unless few) (next (some (with_clause f c)))
      (three FormulaNumber (some (with_clause f c)) 15 room 5 are 6 few (inr refl) (inl (omega arith)) (inl (omega arith))) tt)
    where
      range : Bool
      range = up_to_v f (vars c)

      room : Bool
      room = has_room limits.lengths (formula_needs (with_clause f c))

      are : Bool
      are = all (is_in (bound f)) (vars c)

      few : Bool
      few = leb (length f.matrix + 1) f.count

  formula_end_lem : (s : Option Formula) → Rules FormulaNumber s (formula_end s)
  unfolding formula_end
  formula_end_lem none = tt
  formula_end_lem (some f) = one FormulaNumber (some f) 6 (eqb (length f.matrix) f.count) (inl (omega arith))

  module _ (f : Formula) where
    kind_rules_lem : (s : State) (line : CertificateLine) → Rules Ferat s (kind_rules f s line)
    unfolding kind_rules mapping_rules
    kind_rules_lem s (mapping ps es ls) =
        two Ferat s 7 (distinct (ps ++ copy_vars s.mapped)) 8 (all (existential f) es && good_annotation f es ls) (omega arith) (omega arith)
    kind_rules_lem s (hints ns) = tt
    kind_rules_lem s (expansion c) =
        three Ferat s 9 (all (is_mapped s.mapped) (vars c)) 10 (hint_there s) 11 (any (expands f s.mapped c) (candidates s f))
        (omega arith) (omega arith) (omega arith)
    kind_rules_lem s (addition c) =
        two Ferat s 10 (no_hint_left s) 12 (rup s.standing c || rat s.standing c) (omega arith) (omega arith)
    kind_rules_lem s (deletion c) = two Ferat s 10 (no_hint_left s) 13 (any (same_set c) s.standing) (omega arith) (omega arith)

    certificate_step : (s : State) (line : CertificateLine) → Steps Ferat (judge limits f s line)
    unfolding judge
    certificate_step s line =
        guarded Ferat s (2 unless in_sequence s line then 3 unless in_range limits f line) (refuse_in (needing s line) rules (next after))
        (two Ferat s 2 (in_sequence s line) 3 (in_range limits f line) (omega arith) (omega arith))
        (guarded Ferat (needing s line) rules (next after)
        (of_then (Any Ferat) (Numbered Ferat) (15 unless room) (kind_rules f (needing s line) line) (needing s line)
        (one Ferat (needing s line) 15 room (omega arith)) (kind_rules_lem (needing s line) line))
        tt)
      where
        room : Bool
        room = has_room limits.lengths (needing s line).needs

        rules : Option ℕ
        rules = 15 unless room then kind_rules f (needing s line) line

        after : State
        after = accept (needing s line) line

    certificate_end_lem : (s : State) → Rules Ferat s (certificate_end s)
    unfolding certificate_end
    certificate_end_lem s = two Ferat s 10 (no_hint_left s) 14 (any is_empty s.standing) (omega arith) (omega arith)

    certificate_read : (bs : List ℕ) → OfRead (Any Ferat) (Numbered Ferat) certificate_end (suc (length (lines_of bs))) (read_certificate limits f bs)
    unfolding read_certificate
    certificate_read bs =
        file_keeps (Any Ferat) (Numbered Ferat) (judge_bytes certificate_line (judge limits f)) certificate_end
        (bytes_keep (Any Ferat) (Numbered Ferat) certificate_line (judge limits f) (λ s p. omega arith) (λ s line p. certificate_step s line))
        (λ s p. certificate_end_lem s) bs (start f) tt

  formula_read_lem : (bs : List ℕ)
      → OfRead (Any FormulaNumber) (Numbered FormulaNumber) formula_end (suc (length (lines_of bs))) (read_formula limits bs)
  unfolding read_formula
  formula_read_lem bs =
      file_keeps (Any FormulaNumber) (Numbered FormulaNumber) (judge_bytes formula_line (judge_formula limits)) formula_end
      (bytes_keep (Any FormulaNumber) (Numbered FormulaNumber) formula_line (judge_formula limits) (λ s p. inl (omega arith)) (λ s line p. formula_step s line))
      (λ s p. formula_end_lem s) bs none tt

-- a check of both files, whose kind has the numbers Of
module _ (Of : ℕ → Type 0) (formula-numbers : (n : ℕ) → FormulaNumber n → IsNumber n × Of n) (one_number : Of 1) (limits : Limits) (formula certificate : List ℕ) where
  abbrev pub Fine : Checked → Type 0
  Fine c = Ranged Of formula certificate c.report.verdict

  of_formula_lem : (k : Formula → Checked) → ((f : Formula) → Fine (k f)) → (r : Read (Option Formula))
      → OfRead (Any FormulaNumber) (Numbered FormulaNumber) formula_end (suc (length (lines_of formula))) r → Fine (of_formula r k)
  unfolding Ranged
  of_formula_lem k go (ended none) h = (formula-numbers 2 (inl (omega arith)), inl (refl, omega arith))
  of_formula_lem k go (ended (some f)) h = go f
  of_formula_lem k go (refused_at n line s) h = (formula-numbers n h.0, inl (refl, omega arith))

  module _ (k : Formula → Checked) (fine : (f : Formula) → Fine (k f)) where
    rest : Checked
    rest = of_formula (read_formula limits formula) k

    rest_fine : Fine rest
    unfolding rest
    rest_fine = of_formula_lem k fine (read_formula limits formula) (formula_read_lem limits formula)

    -- "Order: 1 for the formula, 1 for the certificate, formula lines, certificate lines."
    abbrev in_order : Bool → Bool → Checked
    in_order a b = cond a (cond b rest (early (Refused 1 2 0) (places 0 0 0 0 0 0))) (early (Refused 1 1 0) (places 0 0 0 0 0 0))

    in_order_fine : (a b : Bool) → Fine (in_order a b)
    unfolding Ranged
    in_order_fine true true = rest_fine
    in_order_fine true false = ((omega arith, one_number), inr (refl, omega arith))
    in_order_fine false b = ((omega arith, one_number), inl (refl, omega arith))

    pub both_ranged : Fine (both_files limits formula certificate k)
    unfolding rest
    both_ranged = in_order_fine (allows limits.formula_bytes (length formula)) (allows limits.certificate_bytes (length certificate))

ferat_numbers : (n : ℕ) → FormulaNumber n → Ferat n
ferat_numbers n (inl h) = omega arith
ferat_numbers n (inr h) = omega arith

module _ (limits : Limits) (formula certificate : List ℕ) where
  of_certificate_lem : (r : Read State) → OfRead (Any Ferat) (Numbered Ferat) certificate_end (suc (length (lines_of certificate))) r
      → Ranged FeratNumber formula certificate (of_certificate r).report.verdict
  unfolding Ranged
  of_certificate_lem (ended s) h = (refl, refl, refl)
  of_certificate_lem (refused_at n line s) h = (h.0, inr (refl, omega arith))

  of_lines : Formula → Checked
  of_lines f = of_certificate (read_certificate limits f certificate)

  abbrev in_turn : Bool → Bool → Checked
  in_turn a b =
      cond a (cond b (of_formula (read_formula limits formula) of_lines) (early (Refused 1 2 0) (places 0 0 0 0 0 0)))
      (early (Refused 1 1 0) (places 0 0 0 0 0 0))

  pub overlong_formula : allows limits.formula_bytes (length formula) ≡ false → (verdict limits formula certificate).verdict ≡ Refused 1 1 0
  unfolding verdict check of_lines
  overlong_formula e = ap (λ a. (in_turn a (allows limits.certificate_bytes (length certificate))).report.verdict) e

  pub overlong_certificate : allows limits.formula_bytes (length formula) ≡ true
      → allows limits.certificate_bytes (length certificate) ≡ false → (verdict limits formula certificate).verdict ≡ Refused 1 2 0
  unfolding verdict check of_lines
  overlong_certificate e c =
      ap (λ a. (in_turn a (allows limits.certificate_bytes (length certificate))).report.verdict) e
      ∙ ap (λ b. (in_turn true b).report.verdict) c

-- EVERY VERDICT IS RANGED, whatever the limits and the table lengths
pub check_ranged : (limits : Limits) (formula certificate : List ℕ)
    → Ranged FeratNumber formula certificate (check limits formula certificate).report.verdict
unfolding check
check_ranged limits formula certificate =
    both_ranged FeratNumber ferat_numbers (omega arith) limits formula certificate
    (λ f. of_certificate (read_certificate limits f certificate))
    (λ f. of_certificate_lem limits formula certificate (read_certificate limits f certificate) (certificate_read limits f certificate))

pub verdict_ranged : (limits : Limits) (formula certificate : List ℕ)
    → Ranged FeratNumber formula certificate (verdict limits formula certificate).verdict
unfolding verdict
verdict_ranged limits formula certificate = check_ranged limits formula certificate

-- accepted exactly if the number is 0
pub zero_accepted : (Of : ℕ → Type 0) (formula certificate : List ℕ) (v : Verdict) → Ranged Of formula certificate v
    → (v ≡ Accepted) ↔ (number_of v ≡ 0)
unfolding Ranged
zero_accepted Of formula certificate Accepted h = (λ e. refl, λ e. refl)
zero_accepted Of formula certificate (Refused n file line) h =
    (λ e. absurd (let z : ◌≡◌ {A = ℕ} 0 1 = cc in omega arith), λ e. absurd (omega (arith, h.0.0.0, e)))
