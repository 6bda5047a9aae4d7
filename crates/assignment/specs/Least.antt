-- What the least t holds, as contracts name it. Assumes nothing.
use Rattle.std.specs.Prelude.{◌≡◌, List, ℕ, ◌≤◌, length}
use Rattle.assignment.specs.declared.least.Least.{Least}
use Rattle.copies.specs.Marks.{Unmarked}
use Rattle.assignment.specs.Held.{listed, Held, Holds}

-- its codes, the last one first
abbrev pub items_of : Least → List ℕ
items_of t = listed t.held.now t.count

-- they are marked, and nothing else is
abbrev pub HeldIn : Least → Type 0
HeldIn t = Held t.seen.now t.held.now t.count

abbrev pub HoldsIn : Least → List ℕ → Type 0
HoldsIn t ys = Holds t.seen.now t.held.now t.count ys

-- nothing is held, and there is room for every code of a formula's literal
abbrev pub IsEmpty : Least → Type 0
IsEmpty t = Unmarked t.seen.now × (8194 ≤ length t.held.now) × (t.count ≡ 0)

-- the arrays that are lent are the same two, as long as before
abbrev pub SameArrays : Least → Least → Type 0
SameArrays t u =
    (u.seen.ghost_name ≡ t.seen.ghost_name) × (u.held.ghost_name ≡ t.held.ghost_name) × (length u.seen.now ≡ length t.seen.now)
    × (length u.held.now ≡ length t.held.now)
