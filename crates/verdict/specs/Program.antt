-- The promises of the program. Assumes nothing.
use Rattle.std.specs.Prelude.{◌≡◌, List, ℕ, length, take}
use Rattle.rules.specs.Needs.{places}
use Rattle.rules.specs.Limits.{program_limits}
use Rattle.rules.specs.Verdict.{check, verdict, FeratNumber, Ranged}
use Rattle.rules.specs.Falsity.{FalseFile}
use Rattle.rules.specs.declared.Verdict.TheVariants.{Accepted}
use Rattle.rules.specs.declared.Report.{Report}
use Rattle.tables.specs.Tables.{Tables, tables, lengths_of, KeptAll}
use Rattle.report.specs.Fields.{Rendered}
use Rattle.verdict.specs.declared.Held.{Held}
use Rattle.verdict.specs.declared.Contents.{Contents}

-- THE REPORT on two files, t being the tables before and u after
pub record ReportedIn (formula certificate : List ℕ) (t : Tables) (r : Report) (u : Tables) : Type 0 where
  -- "the program below holds 16,384 bytes of formula and 65,536 of certificate, and prints refusal 1 for a longer one"
  pub report : r ≡ verdict (program_limits (lengths_of t)) formula certificate
  -- "places beyond the need, up to the line where the check ended, hold what they held"
  pub kept : KeptAll (check (program_limits (lengths_of t)) formula certificate).needs t u
  -- "A refused pair gets one number from 1 to 15, the file and the line"
  pub ranged : Ranged FeratNumber formula certificate r.verdict
  -- an accepted formula "is false when its quantifiers are read recursively"
  pub falsity : r.verdict ≡ Accepted → FalseFile formula

-- the six tables of the program
abbrev pub held_in : Held → Tables
held_in h = tables h.prefix h.matrix h.map h.proof h.marks h.values

-- A file is loaded into a buffer: the buffer's first `count` bytes are the file's, as many of them as the buffer has places.
abbrev pub Loaded : List ℕ → ℕ → List ℕ → Type 0
Loaded buffer count file = take count buffer ≡ take (length buffer) file

-- THE LINE TO PRINT, whatever two files the buffers were loaded from, and however long these are: that of the report on them. `out` and `exit`
-- are the bytes before and after, of which the first k are the line.
pub record Printed
    {n m : ℕ} (formula : Contents n) (certificate : Contents m) (t : Tables) (out : List ℕ) (u : Tables) (exit : List ℕ) (k : ℕ) : Type 0 where
  pub report : Report
  pub reported : (x y : List ℕ) → Loaded formula.bytes formula.count x → Loaded certificate.bytes certificate.count y → ReportedIn x y t report u
  pub rendered : Rendered report out exit k
  -- "uses tables of 16,384 zeros each"
  pub lengths : lengths_of t ≡ places 16384 16384 16384 16384 16384 16384
