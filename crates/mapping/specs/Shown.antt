-- What the map, the values and the marks show of the mapping. Assumes nothing.
use Rattle.std.specs.Prelude.{◌≡◌, true, List, map, ℕ, ◌+◌, ◌<◌, length, ℤ}
use Rattle.cells.specs.Cells.{cell_at, list_at}
use Rattle.prefix.specs.Prefix.{entry}
use Rattle.rules.specs.Codes.{code_of}
use Rattle.rules.specs.Expansion.{Copy, is_mapped, stands_for, annotation}
use Rattle.mapped.specs.Marks.{NotedShown}

-- A MAPPED COPY. Its place in the values table holds a place of the map table, where its existential stands and, after it, the place
-- of its annotation: codes, ended by a 0. All of it lies in the part in use.
pub record CopyShown (table values : List ℤ) (used : ℕ) (m : List Copy) (p : ℕ) : Type 0 where
  pub within : entry values p + 1 < used
  pub stands : cell_at table (entry values p) ≡ stands_for m p
  pub note : list_at table (cell_at table (entry values p + 1)) ≡ map code_of (annotation m p)
  pub ends : cell_at table (entry values p + 1) + length (annotation m p) < used

-- THE MAPPING
pub record MappingShown (table values : List ℤ) (marks : List ℕ) (used : ℕ) (m : List Copy) : Type 0 where
  pub noted : NotedShown marks m
  pub taken : (p : ℕ) → is_mapped m p ≡ true → CopyShown table values used m p
