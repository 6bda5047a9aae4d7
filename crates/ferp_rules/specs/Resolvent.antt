-- The resolvent of two clauses. Assumes nothing.
use Rattle.std.specs.Prelude.{Bool, false, ◌&&◌, ◌||◌, ◌++◌, ℕ}
use Rattle.std.proofs.Math.Option.{Option, none, some}
use Rattle.std.specs.List.{list_any as any}
use Rattle.rules.specs.Literals.{Lits, pos, neg, vars, holds, same_set}
use Rattle.rules.specs.Propagation.{less}

-- "the clause equals, as a set, their resolvent" on copy v, which d holds positive: d holds v and e holds -v; v leaves d, -v leaves e
abbrev pub resolvent_on : Lits → Lits → Lits → ℕ → Bool
resolvent_on c d e v = holds d (pos v) && holds e (neg v) && same_set c (less (pos v) d ++ less (neg v) e)

-- "their resolvent on some copy, whichever parent holds it positive": some copy of a parent's literals
unfoldable pub resolvent : Lits → Lits → Lits → Bool
resolvent c d e = any (λ v. resolvent_on c d e v || resolvent_on c e d v) (vars d)

-- of two parents, each of which may be missing
abbrev pub derives : Lits → Option Lits → Option Lits → Bool
derives c none b = false
derives c (some d) none = false
derives c (some d) (some e) = resolvent c d e
