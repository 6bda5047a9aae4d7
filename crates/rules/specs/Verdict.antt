-- The verdict, a function of both files, the limits and the table lengths. Assumes nothing.
use Rattle.std.specs.Prelude.{◌≡◌, ◌⊎◌, cond, List, ℕ, ◌≤◌, length}
use Rattle.std.proofs.Math.Option.{Option, none, some}
use Rattle.lines.specs.Lines.{lines_of}
use Rattle.rules.specs.Formula.{Formula}
use Rattle.rules.specs.Forms.{formula_line, certificate_line}
use Rattle.rules.specs.Needs.{Places, places, fits, together, formula_needs, formula_needs_so_far, line_needs}
use Rattle.rules.specs.Limits.{Limits, allows}
use Rattle.rules.specs.Step.{Read, ended, refused_at, judge_lines, judge_file, judge_bytes}
use Rattle.rules.specs.Expansion.{mapping_rules, expands_by, expands}
use Rattle.rules.specs.Propagation.{look, seek, turns, propagate, rup, rat}
use Rattle.rules.specs.FormulaLines.{judge_formula, formula_end, read_formula}
use Rattle.rules.specs.CertificateLines.{State, in_sequence, in_range, kind_rules, accept, judge, certificate_end, read_certificate}
use Rattle.rules.specs.declared.Verdict.{Verdict}
use Rattle.rules.specs.declared.Verdict.TheVariants.{Accepted, Refused}
use Rattle.rules.specs.declared.Report.{Report}

-- "number, file (0 none, 1 formula, 2 certificate), line": this paper's values for each verdict
abbrev pub number_of : Verdict → ℕ
number_of Accepted = 0
number_of (Refused number file line) = number

abbrev pub file_of : Verdict → ℕ
file_of Accepted = 0
file_of (Refused number file line) = file

abbrev pub line_of : Verdict → ℕ
line_of Accepted = 0
line_of (Refused number file line) = line

-- THE TABLE OF NUMBERS: 1 to 15, and those of later requests. "Numbers added here and later join demand 1's and the table" (#101)
abbrev pub IsNumber : ℕ → Type 0
IsNumber n = (1 ≤ n) × (n ≤ 17)

-- of these, the numbers of a FERAT check: "one number from 1 to 15"
abbrev pub FeratNumber : ℕ → Type 0
FeratNumber n = n ≤ 15

-- the line is 0 or one of the file's lines
abbrev pub IsLine : List ℕ → ℕ → Type 0
IsLine bs line = line ≤ length (lines_of bs)

-- THE RANGES OF A VERDICT on two files, by the numbers of its kind of check. "A refused pair gets one number from 1 to 15, the file and the
-- line", and later numbers "join demand 1's and the table"; of an accepted one "number, file and line are then 0".
unfoldable pub Ranged : (ℕ → Type 0) → List ℕ → List ℕ → Verdict → Type 0
Ranged Of formula certificate Accepted = (number_of Accepted ≡ 0) × (file_of Accepted ≡ 0) × (line_of Accepted ≡ 0)
Ranged Of formula certificate (Refused number file line) =
    (IsNumber number × Of number) × (((file ≡ 1) × IsLine formula line) ⊎ ((file ≡ 2) × IsLine certificate line))

-- A report, and the places needed "up to the line where the check ended".
pub record Checked : Type 0 where
  pub report : Report
  pub needs : Places

-- a verdict before any line of the certificate
abbrev pub early : Verdict → Places → Checked
early v needs = record { report = record { verdict = v; expansions = 0; additions = 0; deletions = 0 }; needs = needs }

-- "the `e`, addition and deletion lines accepted"
abbrev pub late : Verdict → State → Checked
late v s = record {
  report = record { verdict = v; expansions = s.expansions; additions = s.additions; deletions = s.deletions };
  needs = s.needs;
}

-- how the lines of a certificate ended, `part` being what its kind's state has of this one
abbrev pub of_lines : {S : Type 0} → (S → State) → Read S → Checked
of_lines part (ended s) = late Accepted (part s)
of_lines part (refused_at n line s) = late (Refused n 2 line) (part s)

abbrev pub of_certificate : Read State → Checked
of_certificate r = of_lines (λ s. s) r

abbrev pub of_formula : Read (Option Formula) → (Formula → Checked) → Checked
of_formula (ended none) k = early (Refused 2 1 0) (places 0 0 0 0 0 0)  -- malformed: "no `p` line"
of_formula (ended (some f)) k = k f
of_formula (refused_at n line s) k = early (Refused n 1 line) (formula_needs_so_far s)

module _ (limits : Limits) where
  -- "Order: 1 for the formula, 1 for the certificate, formula lines, certificate lines", the certificate's lines by the rules of its kind
  abbrev pub both_files : List ℕ → List ℕ → (Formula → Checked) → Checked
  both_files formula certificate of_lines =
      cond (allows limits.formula_bytes (length formula))
      (cond (allows limits.certificate_bytes (length certificate))
      (of_formula (read_formula limits formula) of_lines)
      (early (Refused 1 2 0) (places 0 0 0 0 0 0)))  -- overlong
      (early (Refused 1 1 0) (places 0 0 0 0 0 0))  -- overlong

  -- THE CHECK of a FERAT certificate
  unfoldable pub check : List ℕ → List ℕ → Checked
  check formula certificate = both_files formula certificate (λ f. of_certificate (read_certificate limits f certificate))

  -- "a function of both files and the table lengths; table contents never enter it"
  unfoldable pub verdict : List ℕ → List ℕ → Report
  verdict formula certificate = (check formula certificate).report

-- unfolds all the rules at once, on an `unfolding` line
unfoldable pub the_rules : Unit {0}
unfolding formula_line certificate_line fits together formula_needs line_needs judge_lines judge_file judge_bytes mapping_rules expands_by expands look seek turns propagate rup rat judge_formula formula_end read_formula in_sequence in_range kind_rules accept judge certificate_end read_certificate check verdict
the_rules = tt
