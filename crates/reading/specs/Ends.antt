-- How the reading of a certificate ends, and the report of it. Assumes nothing.
use Rattle.std.specs.Prelude.{◌≡◌, ℕ, Result, Ok, Err}
use Rattle.rules.specs.Step as rules
use Rattle.rules.specs.CertificateLines.{State}
use Rattle.rules.specs.Rule.{number, of_file, refused_with}
use Rattle.rules.specs.declared.Rule.{Rule}
use Rattle.rules.specs.declared.Refusal.{Refusal}
use Rattle.rules.specs.declared.Verdict.{Verdict}
use Rattle.rules.specs.declared.Verdict.TheVariants.{Accepted}
use Rattle.rules.specs.declared.Report.{Report}
use Rattle.tables.specs.Tables.{Tables, KeptAll}
use Rattle.reading.specs.declared.Counts.{Counts}
use Rattle.reading.specs.declared.Ended.{Ended}

-- at the end of the file, by the rule that is broken there
abbrev pub ended_by : Result (Unit {0}) Rule → Counts → Ended
ended_by (Ok x) c = record { outcome = Ok x; counts = c }
ended_by (Err rule) c = record { outcome = Err (of_file rule); counts = c }

-- the report of a certificate that is read, and of a refusal before any of its lines
abbrev pub verdict_of : Result (Unit {0}) Refusal → Verdict
verdict_of (Ok x) = Accepted
verdict_of (Err refusal) = refused_with refusal 2

abbrev pub report_of : Ended → Report
report_of e = record {
  verdict = verdict_of e.outcome;
  expansions = e.counts.expansions;
  additions = e.counts.additions;
  deletions = e.counts.deletions;
}

abbrev pub refused_early : Refusal → ℕ → Report
refused_early refusal file = record { verdict = refused_with refusal file; expansions = 0; additions = 0; deletions = 0 }

-- the lines accepted, as the rules count them
pub record Counted (c : Counts) (s : State) : Type 0 where
  pub expansions : c.expansions ≡ s.expansions
  pub additions : c.additions ≡ s.additions
  pub deletions : c.deletions ≡ s.deletions

-- HOW THE READING ENDS, for the rules and for the code; the tables before and after. A certificate's kind has a state S of its own between two
-- lines, of which `part` is the one that all kinds have.
abbrev pub EndedWith : {S : Type 0} → (S → State) → Tables → rules.Read S → Result (Unit {0}) Refusal → Counts → Tables → Type 0
EndedWith part t (rules.ended s) (Ok x) c u = Counted c (part s) × KeptAll (part s).needs t u
EndedWith part t (rules.ended s) (Err refusal) c u = ⊥
EndedWith part t (rules.refused_at n m s) (Ok x) c u = ⊥
EndedWith part t (rules.refused_at n m s) (Err refusal) c u =
    (number refusal.rule ≡ n) × (refusal.line ≡ m) × Counted c (part s) × KeptAll (part s).needs t u

abbrev pub EndedAs : {S : Type 0} → (S → State) → Tables → rules.Read S → Ended → Tables → Type 0
EndedAs part t r e u = EndedWith part t r e.outcome e.counts u
