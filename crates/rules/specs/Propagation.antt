-- Propagation, RUP and RAT. Assumes nothing.
use Rattle.std.specs.Prelude.{Bool, true, false, not, ◌&&◌, cond, List, [], ◌∷◌, ◌++◌, map, ℕ, zero, suc, length}
use Rattle.std.specs.List.{list_all as all, filter as keep}
use Rattle.rules.specs.Basics.{sum}
use Rattle.rules.specs.Literals.{Lit, Lits, negate, same, holds, both_signs}
use Rattle.rules.specs.declared.Outcome.{Outcome}
use Rattle.rules.specs.declared.Outcome.TheVariants.{Conflict, Stable}

-- what a clause gives where the literals of t are true: a conflict, a literal that becomes true, or nothing new
pub data Look : Type 0 where
  falsified : Look
  unit : Lit → Look
  nothing : Look

-- the literals of a clause that are not false
abbrev pub not_false : Lits → Lits → Lits
not_false t c = keep (λ l. not (holds t (negate l))) c

-- "a standing clause with every literal false is a conflict; one with exactly one distinct literal not false makes that literal true"
abbrev pub look_at : Lits → Lits → Look
look_at t [] = falsified
look_at t (l ∷ ls) = cond (all (same l) ls && not (holds t l)) (unit l) nothing

unfoldable pub look : Lits → Lits → Look
look t c = look_at t (not_false t c)

abbrev pub or_else : Look → Look → Look
or_else falsified r = falsified
or_else (unit l) r = unit l
or_else nothing r = r

-- the first clause that gives something
unfoldable pub seek : Lits → List Lits → Look
seek t [] = nothing
seek t (c ∷ cs) = or_else (look t c) (seek t cs)

abbrev pub after : Look → (Lit → Outcome) → Outcome
after falsified k = Conflict
after (unit l) k = k l
after nothing k = Stable

-- "this goes on until conflict or no change": each turn makes one more literal of the clauses true, so that this many turns are enough
unfoldable pub turns : ℕ → List Lits → Lits → Outcome
turns zero cs t = Stable
turns (suc n) cs t = after (seek t cs) (λ l. turns n cs (l ∷ t))

-- "Propagation from a set of true literals .. Both signs true is a conflict too."
unfoldable pub propagate : List Lits → Lits → Outcome
propagate cs t = cond (both_signs t) Conflict (turns (suc (sum (map length cs))) cs t)

abbrev pub is_conflict : Outcome → Bool
is_conflict Conflict = true
is_conflict Stable = false

-- "A clause is RUP if propagation from the negations of its literals conflicts."
unfoldable pub rup : List Lits → Lits → Bool
rup cs c = is_conflict (propagate cs (map negate c))

abbrev pub less : Lit → Lits → Lits
less l d = keep (λ m. not (same m l)) d

-- "it is not empty and, for its first written literal l and every standing clause D holding the negation of l, the addition joined
-- with D less that negation is RUP"
unfoldable pub rat : List Lits → Lits → Bool
rat cs [] = false
rat cs (l ∷ c) = all (λ d. rup cs ((l ∷ c) ++ less (negate l) d)) (keep (λ d. holds d (negate l)) cs)
