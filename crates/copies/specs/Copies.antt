-- What the values and the map say of a copy. Assumes nothing.
use Rattle.std.specs.Prelude.{List, map, ℕ, ◌+◌, ◌*◌, ◌/◌, ◌%◌, ℤ}
use Rattle.cells.specs.Cells.{cell_at, list_at}
use Rattle.prefix.specs.Prefix.{entry}
use Rattle.copies.specs.declared.View.{View}

-- A COPY'S MAPPING: its place in the values has a place of the map, where its existential stands and then the place of its annotation
module _ (values maps : List ℤ) where
  unfoldable pub stands_of : ℕ → ℕ
  stands_of p = cell_at maps (entry values p)

  unfoldable pub annotation_at : ℕ → ℕ
  annotation_at p = cell_at maps (entry values p + 1)

  unfoldable pub annotation_of : ℕ → List ℕ
  annotation_of p = list_at maps (annotation_at p)

-- the literal x with its copy replaced by the copy's existential and its sign kept
unfoldable pub image_of : (ℕ → ℕ) → ℕ → ℕ
image_of st x = 2 * st (x / 2) + x % 2

unfoldable pub images_of : (ℕ → ℕ) → List ℕ → List ℕ
images_of st ls = map (image_of st) ls

-- THE SAME AS CONTRACTS NAME THEM: of the tables that a view shows
abbrev pub words : View → ℕ → ℕ
words view = entry view.prefix.now

abbrev pub stands_in : View → ℕ → ℕ
stands_in view = stands_of view.values.now view.map.now

abbrev pub annotation_in : View → ℕ → List ℕ
annotation_in view = annotation_of view.values.now view.map.now

abbrev pub list_in : List ℤ → ℕ → List ℕ
list_in t i = list_at t i

-- the line's codes
abbrev pub line_in : View → List ℕ
line_in view = list_in view.proof.now view.line
