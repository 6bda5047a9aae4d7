-- The promise of a check, whatever its kind. Assumes nothing.
use Rattle.std.specs.Prelude.{◌≡◌}
use Rattle.rules.specs.Limits.{Limits, limits}
use Rattle.rules.specs.Verdict.{Checked}
use Rattle.rules.specs.declared.Verdict.{Verdict}
use Rattle.rules.specs.declared.Report.{Report}
use Rattle.tables.specs.Tables.{Tables, lengths_of, KeptAll}

-- THE PROMISE OF A CHECK of some files by the rules of its kind, whose verdicts on them are within this range; t are the tables before and u after
pub record CheckedBy (rules : Limits → Checked) (Range : Verdict → Type 0) (t : Tables) (r : Report) (u : Tables) : Type 0 where
  -- "Its promise is an equation with the rules above, a function of both files and the table lengths"
  pub report : r ≡ (rules (limits (lengths_of t))).report
  -- "places beyond the need, up to the line where the check ended, hold what they held"
  pub kept : KeptAll (rules (limits (lengths_of t))).needs t u
  -- "A refused pair gets one number from 1 to 15, the file and the line", the numbers and the files being those of its kind
  pub ranged : Range r.verdict
