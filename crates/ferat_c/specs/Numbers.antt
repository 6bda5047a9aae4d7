-- A check's report as seven numbers. Assumes nothing.
use Rattle.std.specs.Prelude.{◌≡◌, List, ℕ}
use Rattle.rules.specs.declared.Report.{Report}
use Rattle.report.specs.Fields.{seven_of}
use Rattle.tables.specs.Tables.{Tables}

-- the report of a check that keeps this promise, as numbers
pub record CheckedNumbers (Promise : Tables → Report → Tables → Type 0) (t : Tables) (seven : List ℕ) (u : Tables) : Type 0 where
  pub report : Report
  pub numbers : seven ≡ seven_of report
  pub checked : Promise t report u
