-- The copies of a clause's codes. Assumes nothing.
use Rattle.std.specs.Prelude.{Bool, List, ℕ, ◌/◌}
use Rattle.std.specs.List.{list_all as all}
use Rattle.mapped.specs.Marks.{is_noted}

-- every copy of these codes is mapped
unfoldable pub all_mapped : List ℕ → List ℕ → Bool
all_mapped noted xs = all (λ x. is_noted noted (x / 2)) xs
