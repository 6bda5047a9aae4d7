-- The rules of the kind are apt, and its verdicts have numbers of a FERAT check. Assumes nothing.
use mathlib.Core.Path.{refl}
use mathlib.Core.Logic.{inl, inr}
use mathlib.Core.List.{List, [], ◌∷◌}
use Prim.Native.Nat.{ℕ, suc}
use native.Mathlib.Omega.{arith}
use lib.ListN.{length}
use Rattle.lines.specs.Lines.{lines_of}
use Rattle.rules.specs.Step.{Read, ended, refused_at}
use Rattle.rules.specs.CertificateLines.{State}
use Rattle.rules.specs.Verdict.{FeratNumber, Ranged, of_lines}
use Rattle.rules.proofs.Judged.{OfStep, OfRead, file_keeps}
use Rattle.rules.proofs.Ranges.{Any, Numbered, Ferat, FormulaNumber, both_ranged}
use Rattle.tables.proofs.Frames.{below_self}
use Rattle.reading.proofs.StageLaws.{Keeps, same_counts}
use Rattle.reading.proofs.GoingLaws.{Apt}
use Rattle.reading.specs.Lines.{read_by}
use Rattle.certificates.specs.Check.{by_rules, BothFiles, InRange}
use Rattle.refusing.specs.Refusing.{judged, refusing_rules, refusing_code}

judged_keeps : (s : State) (bs : List ℕ) → Keeps refusing_rules.part s (judged s bs)
judged_keeps s [] = below_self s.needs
judged_keeps s (b ∷ bs) = (below_self s.needs, same_counts s)

pub refusing_apt : Apt refusing_rules refusing_code
refusing_apt = record { keeps = λ l f s bs. judged_keeps s bs; begins = λ f. refl; counted = λ p t w f s h. h }

pub refusing_files : BothFiles refusing_rules (by_rules refusing_rules)
refusing_files l formula certificate = refl

formula_numbers : (n : ℕ) → FormulaNumber n → Ferat n
formula_numbers n (inl h) = (omega arith, omega arith)
formula_numbers n (inr h) = (omega arith, omega arith)

judged_number : (s : State) (bs : List ℕ) → OfStep (Any Ferat) (Numbered Ferat) (judged s bs)
judged_number s [] = tt
judged_number s (b ∷ bs) = (omega arith, omega arith)

of_lines_lem : (formula certificate : List ℕ) (r : Read State)
    → OfRead (Any Ferat) (Numbered Ferat) refusing_rules.at_end (suc (length (lines_of certificate))) r
    → Ranged FeratNumber formula certificate (of_lines refusing_rules.part r).report.verdict
unfolding Ranged
of_lines_lem formula certificate (ended s) h = (refl, refl, refl)
of_lines_lem formula certificate (refused_at n line s) h = (h.0, inr (refl, omega arith))

pub refusing_ranged : InRange (by_rules refusing_rules) FeratNumber
refusing_ranged l formula certificate =
    both_ranged FeratNumber formula_numbers (omega arith) l formula certificate (λ f. of_lines refusing_rules.part (read_by refusing_rules l f certificate))
    (λ f. of_lines_lem formula certificate (read_by refusing_rules l f certificate)
    (file_keeps (Any Ferat) (Numbered Ferat) (refusing_rules.judge l f) refusing_rules.at_end (λ s bs p. judged_number s bs)
    (λ s p. (omega arith, omega arith)) certificate (refusing_rules.start f) tt))
