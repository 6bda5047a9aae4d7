-- What the first pass says of literals, one after the other. Assumes nothing.
use Rattle.std.specs.Prelude.{◌||◌, ℕ, ◌+◌, ◌/◌, ◌%◌, max, eqb}
use Rattle.lists.specs.declared.Measure.{Measure}

-- with one literal more, by its code
abbrev pub with_code : Measure → ℕ → Measure
with_code q x = record { negative = q.negative || eqb (x % 2) 1; count = q.count + 1; largest = max q.largest (x / 2) }
