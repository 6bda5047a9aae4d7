-- The verdict on a FERP certificate, a function of both files, the limits and the table lengths. Assumes nothing.
use Rattle.std.specs.Prelude.{◌≡◌, ◌⊎◌, List, ℕ, ◌≤◌}
use Rattle.rules.specs.Limits.{Limits}
use Rattle.rules.specs.Step.{Read}
use Rattle.rules.specs.Verdict.{Checked, of_lines, both_files}
use Rattle.rules.specs.declared.Report.{Report}
use Rattle.ferp_rules.specs.Forms.{ferp_line}
use Rattle.ferp_rules.specs.Resolvent.{resolvent}
use Rattle.ferp_rules.specs.Lines.{Derived, ferp_needs, in_sequence, in_range, kind_rules, accept, certificate_end, judge, read_ferp}

-- the numbers of a FERP check, of those in the table: 1 to 9, 11, and 14 to 17
abbrev pub FerpNumber : ℕ → Type 0
FerpNumber n = (n ≤ 9) ⊎ ((n ≡ 11) ⊎ ((14 ≤ n) × (n ≤ 17)))

-- "its counts are expansions, resolutions and 0": no line counts as a deletion
abbrev pub of_ferp : Read Derived → Checked
of_ferp r = of_lines (λ (s : Derived). s.state) r

module _ (limits : Limits) where
  -- THE CHECK of a FERP certificate: "It is a call of its own"
  unfoldable pub ferp_check : List ℕ → List ℕ → Checked
  ferp_check formula certificate = both_files limits formula certificate (λ f. of_ferp (read_ferp limits f certificate))

  unfoldable pub ferp_verdict : List ℕ → List ℕ → Report
  ferp_verdict formula certificate = (ferp_check formula certificate).report

-- unfolds all the rules of FERP at once, on an `unfolding` line, beside `the_rules`
unfoldable pub the_ferp_rules : Unit {0}
unfolding ferp_line resolvent ferp_needs in_sequence in_range kind_rules accept certificate_end judge read_ferp ferp_check ferp_verdict
the_ferp_rules = tt
