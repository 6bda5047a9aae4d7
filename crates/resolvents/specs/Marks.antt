-- The marks, and the test over them. Assumes nothing.
use Rattle.std.specs.Prelude.{◌≡◌, Bool, true, false, not, cond, ◌&&◌, ◌||◌, List, [], ◌∷◌, ℕ, ◌+◌, eqb, leb, length, get_or, set}
use Rattle.std.specs.List.{list_all as all}
use Rattle.rules.specs.Codes.{flip}
use Rattle.resolvents.specs.declared.Strays.{Strays}
use Rattle.resolvents.specs.declared.Strays.TheVariants.{None, One, Several}

-- no code is marked, in an array with a place for every code
pub record Clear (s : List ℕ) : Type 0 where
  pub long : length s ≡ 65536
  pub none : (y : ℕ) → get_or s y 0 ≡ 0

-- the mark of each code of a list changed
unfoldable pub each : (ℕ → ℕ) → List ℕ → List ℕ → List ℕ
each f [] s = s
each f (y ∷ ys) s = each f ys (set s y (f (get_or s y 0)))

-- A MARK is a sum of signs: 1 for the clause, 2 and 4 for the parents; it is 0 where the clause does not hold the code
abbrev pub to : ℕ → ℕ → ℕ
to v _ = v

-- a mark that is there gets the sign b, the largest so far
unfoldable pub raise : ℕ → ℕ → ℕ
raise b v = cond (eqb v 0 || leb b v) v (v + b)

unfoldable pub lacks : List ℕ → ℕ → Bool
lacks s y = eqb (get_or s y 0) 0

unfoldable pub in_all : List ℕ → ℕ → Bool
in_all s y = eqb (get_or s y 0) 7

-- each code of a list has a parent's sign
unfoldable pub covered : List ℕ → List ℕ → Bool
covered s ys = all (λ y. not (eqb (get_or s y 0) 1)) ys

-- THE STRAY CODES of a list, those that the test picks, after p: none, one, or several
unfoldable pub meet : Bool → Strays → ℕ → Strays
meet false p y = p
meet true None y = One y
meet true (One x) y = cond (eqb x y) (One x) Several
meet true Several y = Several

unfoldable pub stray : (ℕ → Bool) → List ℕ → Strays → Strays
stray out [] p = p
stray out (y ∷ ys) p = stray out ys (meet (out y) p y)

-- THE PIVOT, where p and q are the parents' stray codes
module _ (shared : ℕ → Bool) where
  -- x may leave a parent with the stray codes p: it is the only one, or, where there is none, all three clauses hold it
  unfoldable pub may_leave : Strays → ℕ → Bool
  may_leave None x = shared x
  may_leave (One y) x = eqb y x
  may_leave Several x = false

  unfoldable pub pivot : Strays → Strays → ℕ → Bool
  pivot p q x = may_leave p x && may_leave q (flip x)

-- the codes among which it is: a stray code tells it, else c holds it
unfoldable pub candidates : Strays → Strays → List ℕ → List ℕ
candidates None None c = c
candidates None (One y) c = flip y ∷ []
candidates None Several c = []
candidates (One x) q c = x ∷ []
candidates Several q c = []
