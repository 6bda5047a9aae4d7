-- The order of the lines, hints, limits and counts, and the end, over the progress. Assumes nothing.
use Rattle.std.specs.Prelude.{Bool, false, cond, List, ℕ, max, eqb, leb, ltb, ℤ, Option, Some, None}
use Rattle.std.specs.Option.{is_some}
use Rattle.clauses.specs.Standing.{room_for, standing, places_of, has_empty}
use Rattle.reading.specs.declared.Counts.{Counts}
use Rattle.progress.specs.declared.Progress.{Progress}

-- "in this order: mapping lines, at most one `o` line, `e` lines, then additions and deletions mixed"
unfoldable pub no_additions : Counts → Bool
no_additions c = cond (eqb c.additions 0) (eqb c.deletions 0) false

unfoldable pub no_hints : Progress → Bool
no_hints p = cond (is_some p.hinted) false (cond (eqb p.counts.expansions 0) (no_additions p.counts) false)

-- there was an `o` line, and its number of hints passes a test
abbrev pub with_hints : Option ℕ → (ℕ → Bool) → Bool
with_hints None test = false
with_hints (Some count) test = test count

-- "hint count: fewer or more hints than `e` lines"
unfoldable pub hint_missing : Progress → Bool
hint_missing p = with_hints p.hinted (λ count. leb count p.counts.expansions)

unfoldable pub hint_left : Progress → Bool
hint_left p = with_hints p.hinted (λ count. ltb p.counts.expansions count)

-- the first of the rules 3 and 15 that a clause of n literals with copies up to m breaks, in tables of these lengths; 0 if none
unfoldable pub limit_broken : Progress → ℕ → ℕ → ℕ → ℕ → ℕ → ℕ
limit_broken p n m proof marks values =
    cond (leb m 16384) (cond (room_for p.store n proof marks) (cond (leb (max p.mapped.largest m) values) 0 15) 15) 3

-- AT THE END: the first of the rules 10 and 14 that is broken; 0 if none
unfoldable pub end_broken : Progress → List ℤ → List ℤ → ℕ
end_broken p proof marks = cond (hint_left p) 10 (cond (has_empty (standing proof marks (places_of p.store))) 0 14)
