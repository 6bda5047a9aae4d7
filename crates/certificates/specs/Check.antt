-- What a kind's check of both files rests on. Assumes nothing.
use Rattle.std.specs.Prelude.{◌≡◌, List, ℕ}
use Rattle.rules.specs.Limits.{Limits}
use Rattle.rules.specs.Verdict.{Checked, Ranged, of_lines, both_files}
use Rattle.reading.specs.Lines.{Rules, read_by}

-- the check of both files by the rules of a kind
abbrev pub by_rules : {S : Type 0} → Rules S → Limits → List ℕ → List ℕ → Checked
by_rules R l formula certificate = both_files l formula certificate (λ f. of_lines R.part (read_by R l f certificate))

-- THE RULES OVER BOTH FILES read the certificate by the kind's rules
abbrev pub BothFiles : {S : Type 0} → Rules S → (Limits → List ℕ → List ℕ → Checked) → Type 0
BothFiles R checked = (l : Limits) (formula certificate : List ℕ) → checked l formula certificate ≡ by_rules R l formula certificate

-- and every verdict of theirs has a number of the kind, a file and a line
abbrev pub InRange : (Limits → List ℕ → List ℕ → Checked) → (ℕ → Type 0) → Type 0
InRange checked Number =
    (l : Limits) (formula certificate : List ℕ) → Ranged Number formula certificate (checked l formula certificate).report.verdict
