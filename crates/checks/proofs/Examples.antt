-- Ends, kinds and results that do not fit, by hand. Assumes nothing.
use mathlib.Core.Path.{◌≡◌, refl}
use mathlib.Core.List.{[], ◌∷◌}
use mathlib.Core.Option.{none, some}
use Rattle.checks.specs.Runs.{ferat, ferp}
use Rattle.checks.specs.All.{part, job_of, asked_from, asked, passed, numbers_in, over}

-- two checks: a certificate whose end lies below its formula's, and one whose end lies beyond the bytes; the fifth end is left alone
clamped_ends : asked (5 ∷ 6 ∷ 7 ∷ []) (2 ∷ 1 ∷ 2 ∷ 9 ∷ 9 ∷ []) (1 ∷ 2 ∷ []) ≡ some (ferat (5 ∷ 6 ∷ []) []) ∷ some (ferp [] (7 ∷ [])) ∷ []
unfolding asked_from job_of part
clamped_ends = refl

no_ends : asked (5 ∷ []) (1 ∷ []) (1 ∷ []) ≡ []
unfolding asked_from
no_ends = refl

-- numbers that name no kind, and a missing kind; a kind too many is left alone
no_kinds : asked [] (0 ∷ 0 ∷ 0 ∷ 0 ∷ 0 ∷ 0 ∷ 0 ∷ 0 ∷ []) (0 ∷ 3 ∷ 1 ∷ []) ≡ none ∷ none ∷ some (ferat [] []) ∷ none ∷ []
unfolding asked_from job_of part
no_kinds = refl

more_kinds : asked [] (0 ∷ 0 ∷ []) (2 ∷ 1 ∷ []) ≡ some (ferp [] []) ∷ []
unfolding asked_from job_of part
more_kinds = refl

-- such a check has zeros for its numbers, and so no word
zeros_written : over (1 ∷ 1 ∷ 1 ∷ 1 ∷ 1 ∷ 1 ∷ 1 ∷ 1 ∷ []) (numbers_in (passed ∷ [])) ≡ 0 ∷ 0 ∷ 0 ∷ 0 ∷ 0 ∷ 0 ∷ 0 ∷ 1 ∷ []
unfolding over numbers_in
zeros_written = refl

-- a slice with room left, and one too short
room_left : over (1 ∷ 2 ∷ 3 ∷ []) (7 ∷ 8 ∷ []) ≡ 7 ∷ 8 ∷ 3 ∷ []
unfolding over
room_left = refl

too_short : over (1 ∷ []) (7 ∷ 8 ∷ []) ≡ 7 ∷ []
unfolding over
too_short = refl
