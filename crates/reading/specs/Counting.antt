-- One line more is accepted. Assumes nothing.
use Rattle.std.specs.Prelude.{ℕ, ◌+◌, ◌%◌}
use Rattle.reading.specs.declared.Counts.{Counts}

-- one line more, in whatever state
abbrev pub more : ℕ → ℕ
more n = n % 1073741824 + 1

abbrev pub one_expansion : Counts → Counts
one_expansion c = record { expansions = more c.expansions; additions = c.additions; deletions = c.deletions }

abbrev pub one_addition : Counts → Counts
one_addition c = record { expansions = c.expansions; additions = more c.additions; deletions = c.deletions }

abbrev pub one_deletion : Counts → Counts
one_deletion c = record { expansions = c.expansions; additions = c.additions; deletions = more c.deletions }
