-- The promise of the check. Assumes nothing.
use Rattle.std.specs.Prelude.{List, ℕ, refl, None}
use Rattle.rules.specs.CertificateLines.{read_certificate}
use Rattle.rules.specs.Verdict.{check, FeratNumber, Ranged}
use Rattle.rules.specs.declared.Report.{Report}
use Rattle.tables.specs.Tables.{Tables}
use Rattle.tables.specs.Checked.{CheckedBy}
use Rattle.formula.specs.declared.Reading.{Reading}
use Rattle.clauses.specs.Standing.{empty_above}
use Rattle.reading.specs.declared.Ended.{Ended}
use Rattle.reading.specs.Lines as reading
use Rattle.certificates.specs.Check.{BothFiles}
use Rattle.progress.specs.declared.Progress.{Progress}
use Rattle.progress.specs.Shown.{ferat_rules}

-- THE PROMISE OF A CHECK of two files, t being the tables before and u after: `CheckedBy` with the FERAT rules and their range
abbrev pub CheckedIn : List ℕ → List ℕ → Tables → Report → Tables → Type 0
CheckedIn formula certificate = CheckedBy (λ l. check l formula certificate) (Ranged FeratNumber formula certificate)

-- the rules over both files read the certificate by the rules of the kind
pub ferat_by_rules : BothFiles ferat_rules check
unfolding check read_certificate
ferat_by_rules l formula certificate = refl

-- WITHIN THE CRATE: nothing of the certificate is read yet
abbrev pub begun : Reading → Progress
begun r = record {
  formula = r;
  mapped = record { used = 0; largest = 0 };
  hinted = None;
  store = empty_above 0;
  followed = 0;
  counts = record { expansions = 0; additions = 0; deletions = 0 };
}

-- the certificate of each formula that the tables hold, with as many clauses as it says
abbrev pub FormulaChecked : List ℕ → Reading → Tables → Ended → Tables → Type 0
FormulaChecked = reading.FormulaChecked ferat_rules
