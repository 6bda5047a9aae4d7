-- The six tables as a call lends them. Assumes nothing.
use Rattle.std.specs.Prelude.{◌≡◌, List, ℤ}
use Rattle.tables.specs.Tables.{Tables, tables}
use Rattle.tables.specs.declared.LentTables.{LentTables}
use Rattle.tables.specs.declared.ReadTables.{ReadTables}

-- what they hold
abbrev pub tables_of : LentTables → Tables
tables_of t = tables t.prefix.now t.matrix.now t.map.now t.proof.now t.marks.now t.values.now

-- the same six are lent: what is written to u is written to the tables that were lent as t
abbrev pub SameLent : LentTables → LentTables → Type 0
SameLent t u =
    (u.prefix.ghost_name ≡ t.prefix.ghost_name) × (u.matrix.ghost_name ≡ t.matrix.ghost_name) × (u.map.ghost_name ≡ t.map.ghost_name)
    × (u.proof.ghost_name ≡ t.proof.ghost_name) × (u.marks.ghost_name ≡ t.marks.ghost_name) × (u.values.ghost_name ≡ t.values.ghost_name)

-- what the tables that are lent for reading hold, with the marks beside them
abbrev pub read_of : ReadTables → List ℤ → Tables
read_of t marks = tables t.prefix.now t.matrix.now t.map.now t.proof.now marks t.values.now
