-- An iterator over the codes of a table. Assumes nothing.
use Rattle.std.specs.Prelude.{List, ℕ, ℤ}
use Rattle.cells.specs.declared.Codes.{Codes}
use Rattle.cells.specs.Cells.{list_at}

-- the table that is read, and the place of the next code
abbrev pub codes_table : Codes → List ℤ
codes_table s = s.table.now

abbrev pub codes_place : Codes → ℕ
codes_place s = s.place

-- the codes that are still to come
abbrev pub codes_left : Codes → List ℕ
codes_left s = list_at (codes_table s) (codes_place s)
