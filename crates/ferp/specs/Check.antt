-- The promise of the check. Assumes nothing.
use Rattle.std.specs.Prelude.{List, ℕ, refl}
use Rattle.rules.specs.Verdict.{Ranged}
use Rattle.rules.specs.declared.Report.{Report}
use Rattle.ferp_rules.specs.Lines.{read_ferp}
use Rattle.ferp_rules.specs.Verdict.{ferp_check, FerpNumber}
use Rattle.tables.specs.Tables.{Tables}
use Rattle.tables.specs.Checked.{CheckedBy}
use Rattle.formula.specs.declared.Reading.{Reading}
use Rattle.clauses.specs.declared.Store.{Store}
use Rattle.clauses.specs.Standing.{empty_above}
use Rattle.certificates.specs.Check.{BothFiles}
use Rattle.derivations.specs.declared.Progress.{Progress}
use Rattle.derivations.specs.Shown.{ferp_rules}

-- THE PROMISE OF A CHECK of two files, t being the tables before and u after: `CheckedBy` with the FERP rules and their range
abbrev pub CheckedIn : List ℕ → List ℕ → Tables → Report → Tables → Type 0
CheckedIn formula certificate = CheckedBy (λ l. ferp_check l formula certificate) (Ranged FerpNumber formula certificate)

-- the rules over both files read the certificate by the rules of the kind
pub ferp_by_rules : BothFiles ferp_rules ferp_check
unfolding ferp_check read_ferp
ferp_by_rules l formula certificate = refl

-- WITHIN THE CRATE: nothing of the certificate is read yet
abbrev pub begun_with : Reading → Store → Progress
begun_with r s = record {
  formula = r;
  mapped = record { used = 0; largest = 0 };
  store = s;
  counts = record { expansions = 0; additions = 0; deletions = 0 };
}

abbrev pub begun : Reading → Progress
begun r = begun_with r (empty_above 0)
