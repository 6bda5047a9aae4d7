-- What one check of a list comes to. Assumes nothing.
use Rattle.std.specs.Prelude.{◌≡◌, Option, Some, None, List, ℕ}
use Rattle.std.proofs.Math.Option as rules
use Rattle.std.proofs.lemmas.List.Edits.{sets}
use Rattle.tables.specs.Tables.{Tables}
use Rattle.tables.specs.Checked.{CheckedBy}
use Rattle.rules.specs.declared.Report.{Report}
use Rattle.checks.specs.Runs.{Job, rules_of, range_of}
use Rattle.checks.specs.All.{job_of, Entry, ran, passed, asked_by, seven_in}

-- by the number of its kind
abbrev pub RanAs : ℕ → List ℕ → List ℕ → Tables → Option Report → Tables → Type 0
RanAs kind f c t (Some r) u = (j : Job) × (job_of kind f c ≡ rules.some j) × CheckedBy (rules_of j) (range_of j) t r u
RanAs kind f c t None u = (job_of kind f c ≡ rules.none) × (u ≡ t)

-- the tables before and after
abbrev pub Leaves : Entry → Tables → Tables → Type 0
Leaves (ran j r) t u = CheckedBy (rules_of j) (range_of j) t r u
Leaves passed t u = u ≡ t

-- the check of two files, its numbers written from the place `at` on
pub record One (kind : ℕ) (formula certificate : List ℕ) (t : Tables) (out : List ℕ) (at : ℕ) (u : Tables) (exit : List ℕ) : Type 0 where
  pub entry : Entry
  pub asked : asked_by entry ≡ job_of kind formula certificate
  pub leaves : Leaves entry t u
  pub written : exit ≡ sets out at (seven_in entry)
