-- The variables of a list, one by one. Assumes nothing.
use Rattle.std.specs.Prelude.{◌≡◌, Bool, cond, List, [], ◌∷◌, ℕ, suc, ◌-◌, ◌<◌, ◌≤◌, min, eqb, length, Option, Some, None, Result, Ok, Err}
use Rattle.std.specs.Iterator.{Count, at_most}
use Rattle.lines.specs.Lines as token
use Rattle.lines.specs.Lines.{Token, minus, word}
use Rattle.lines.specs.Scan.{cap, tokens_from}
use Rattle.lists.specs.Lists.{is_list}
use Rattle.rules.specs.declared.Rule.{Rule}
use Rattle.rules.specs.Rule.{number}
use Rattle.mapped.specs.declared.numbers.Numbers.{Numbers}

-- the variables of the tokens up to a zero, or up to a token that is no literal, each at most the cap
unfoldable pub numbers_in : List Token → List ℕ
numbers_in [] = []
numbers_in (token.number n ∷ ts) = cond (eqb n 0) [] (min cap n ∷ numbers_in ts)
numbers_in (minus n ∷ ts) = min cap n ∷ numbers_in ts
numbers_in (word w ∷ ts) = []

unfoldable pub numbers_at : List ℕ → ℕ → List ℕ
numbers_at bs at = numbers_in (tokens_from bs at)

-- the refusal that a list's end is: 0 for its zero, 2 for a token that is no literal
unfoldable pub end_of : List ℕ → ℕ → ℕ
end_of bs at = cond (is_list bs at) 0 2

-- the refusal by a rule with number k, whether it is kept: k, or what the list's end is
unfoldable pub ruled : ℕ → Bool → ℕ → ℕ
ruled k kept end = cond kept end k

-- WHAT AN ITERATOR HAS LEFT: the variables of the list from a place on, and what the list's end is; nothing where it has no place
abbrev pub numbers_from : List ℕ → Option ℕ → List ℕ
numbers_from bs None = []
numbers_from bs (Some at) = numbers_at bs at

abbrev pub end_from : List ℕ → Option ℕ → ℕ
end_from bs None = 0
end_from bs (Some at) = end_of bs at

abbrev pub numbers_left : Numbers → List ℕ
numbers_left s = numbers_from s.line.now s.at

abbrev pub end_left : Numbers → ℕ
end_left s = end_from s.line.now s.at

-- at most so many items come
abbrev pub items_from : List ℕ → Option ℕ → ℕ
items_from bs None = 0
items_from bs (Some at) = suc (length bs - at)

abbrev pub items_left : Numbers → Count
items_left s = at_most (items_from s.line.now s.at)

-- the place after a literal is further on, and within the line
abbrev pub Further : List ℕ → Option ℕ → Option ℕ → Type 0
Further bs (Some at) (Some after) = (at < after) × (after ≤ length bs)
Further bs (Some at) None = ⊥
Further bs None next = ⊥

-- WHAT A CALL GIVES: the first variable that is left, above 0, and the place after it; or the refusal of the list's end; or nothing at its zero
abbrev pub GivesNumber : Numbers → Option (Result ℕ Rule) → Numbers → Type 0
GivesNumber old (Some (Ok v)) new =
    (numbers_left old ≡ v ∷ numbers_left new) × (end_left old ≡ end_left new) × (0 < v) × (v ≤ cap)
    × (new.line.now ≡ old.line.now) × Further old.line.now old.at new.at
GivesNumber old (Some (Err rule)) new = (numbers_left old ≡ []) × (number rule ≡ end_left old)
GivesNumber old None new = (numbers_left old ≡ []) × (end_left old ≡ 0)
