-- The end of a certificate. Assumes nothing.
use Rattle.std.specs.Prelude.{cond, List, ℕ, ℤ}
use Rattle.clauses.specs.Standing.{standing, places_of, has_empty}
use Rattle.derivations.specs.declared.Progress.{Progress}

-- the rule that is broken at the end, 14 or none (0)
unfoldable pub end_broken : Progress → List ℤ → List ℤ → ℕ
end_broken p proof marks = cond (has_empty (standing proof marks (places_of p.store))) 0 14
