-- The numbers, files and lines of the verdicts on FERP certificates.
use mathlib.Core.Path.{refl}
use mathlib.Core.Logic.{inl, inr}
use mathlib.Core.Bool.{Bool, not, ◌&&◌}
use mathlib.Core.List.{List, ◌++◌}
use mathlib.Core.Option.{Option}
use Prim.Native.Nat.{ℕ, suc, ◌≤◌}
use native.Mathlib.Omega.{arith}
use lib.ListN.{length}
use Rattle.std.specs.List.{list_all as all, list_any as any}
use Rattle.lines.specs.Lists.{is_empty}
use Rattle.lines.specs.Lines.{lines_of}
use Rattle.rules.specs.Basics.{is_in, distinct}
use Rattle.rules.specs.Literals.{vars}
use Rattle.rules.specs.Formula.{Formula, existential}
use Rattle.rules.specs.Limits.{Limits, has_room}
use Rattle.rules.specs.Step.{next, Read, ended, refused_at, ◌unless◌, ◌then◌, refuse_in, judge_bytes}
use Rattle.rules.specs.Expansion.{copy_vars, is_mapped, good_annotation, mapping_rules, expands}
use Rattle.rules.specs.CertificateLines.{clause_number}
use Rattle.rules.specs.Verdict.{IsNumber, Ranged}
use Rattle.rules.proofs.Judged.{OfRead, of_then, file_keeps, bytes_keep}
use Rattle.rules.proofs.Ranges.{Any, Numbered, Rules, Steps, one, two, three, guarded, FormulaNumber, both_ranged}
use Rattle.ferp_rules.specs.Forms.{FerpLine, mapping, expansion, resolution, ferp_line}
use Rattle.ferp_rules.specs.Resolvent.{derives}
use Rattle.ferp_rules.specs.Lines.{Derived, start, parent, needing, in_sequence, in_range, kind_rules, accept, certificate_end, judge, read_ferp}
use Rattle.ferp_rules.specs.Verdict.{FerpNumber, of_ferp, ferp_check}

abbrev Ferp : ℕ → Type 0
Ferp n = IsNumber n × FerpNumber n

low : (n : ℕ) → 1 ≤ n → n ≤ 9 → Ferp n
low n a b = (omega arith, inl b)

high : (n : ℕ) → 14 ≤ n → n ≤ 17 → Ferp n
high n a b = (omega arith, inr (inr (a, b)))

eleven : Ferp 11
eleven = (omega arith, inr (inl refl))

ferp_numbers : (n : ℕ) → FormulaNumber n → Ferp n
ferp_numbers n (inl h) = low n (omega arith) (omega arith)
ferp_numbers n (inr h) = high n (omega arith) (omega arith)

module _ (limits : Limits) (f : Formula) where
  kind_rules_lem : (s : Derived) (line : FerpLine) → Rules Ferp s (kind_rules f s line)
  unfolding kind_rules mapping_rules
  kind_rules_lem s (mapping ps es ls) =
      two Ferp s 7 (distinct (ps ++ copy_vars s.state.mapped)) 8 (all (existential f) es && good_annotation f es ls)
      (low 7 (omega arith) (omega arith)) (low 8 (omega arith) (omega arith))
  kind_rules_lem s (expansion i c n) =
      three Ferp s 17 (not (is_in s.indexes i)) 9 (all (is_mapped s.state.mapped) (vars c)) 11
      (expands f s.state.mapped c (clause_number f n)) (high 17 (omega arith) (omega arith)) (low 9 (omega arith) (omega arith)) eleven
  kind_rules_lem s (resolution i c a b) =
      two Ferp s 17 (not (is_in s.indexes i)) 16 (derives c (parent s a) (parent s b)) (high 17 (omega arith) (omega arith))
      (high 16 (omega arith) (omega arith))

  ferp_step : (s : Derived) (line : FerpLine) → Steps Ferp (judge limits f s line)
  unfolding judge
  ferp_step s line =
      guarded Ferp s (2 unless in_sequence s line then 3 unless in_range limits f line) (refuse_in (needing s line) rules (next after))
      (two Ferp s 2 (in_sequence s line) 3 (in_range limits f line) (low 2 (omega arith) (omega arith)) (low 3 (omega arith) (omega arith)))
      (guarded Ferp (needing s line) rules (next after)
      (of_then (Any Ferp) (Numbered Ferp) (15 unless room) (kind_rules f (needing s line) line) (needing s line)
      (one Ferp (needing s line) 15 room (high 15 (omega arith) (omega arith))) (kind_rules_lem (needing s line) line))
      tt)
    where
      room : Bool
      room = has_room limits.lengths (needing s line).state.needs

      rules : Option ℕ
      rules = 15 unless room then kind_rules f (needing s line) line

      after : Derived
      after = accept (needing s line) line

  ferp_end : (s : Derived) → Rules Ferp s (certificate_end s)
  unfolding certificate_end
  ferp_end s = one Ferp s 14 (any is_empty s.state.standing) (high 14 (omega arith) (omega arith))

  lines_read : (bs : List ℕ) → OfRead (Any Ferp) (Numbered Ferp) certificate_end (suc (length (lines_of bs))) (read_ferp limits f bs)
  unfolding read_ferp
  lines_read bs =
      file_keeps (Any Ferp) (Numbered Ferp) (judge_bytes ferp_line (judge limits f)) certificate_end
      (bytes_keep (Any Ferp) (Numbered Ferp) ferp_line (judge limits f) (λ s p. low 2 (omega arith) (omega arith)) (λ s line p. ferp_step s line))
      (λ s p. ferp_end s) bs (start f) tt

of_lines_lem : (formula certificate : List ℕ) (r : Read Derived)
    → OfRead (Any Ferp) (Numbered Ferp) certificate_end (suc (length (lines_of certificate))) r
    → Ranged FerpNumber formula certificate (of_ferp r).report.verdict
unfolding Ranged
of_lines_lem formula certificate (ended s) h = (refl, refl, refl)
of_lines_lem formula certificate (refused_at n line s) h = (h.0, inr (refl, omega arith))

-- EVERY VERDICT IS RANGED, whatever the limits and the table lengths: 1 to 9, 11, and 14 to 17
pub ferp_ranged : (limits : Limits) (formula certificate : List ℕ)
    → Ranged FerpNumber formula certificate (ferp_check limits formula certificate).report.verdict
unfolding ferp_check
ferp_ranged limits formula certificate =
    both_ranged FerpNumber ferp_numbers (inl (omega arith)) limits formula certificate (λ f. of_ferp (read_ferp limits f certificate))
    (λ f. of_lines_lem formula certificate (read_ferp limits f certificate) (lines_read limits f certificate))
