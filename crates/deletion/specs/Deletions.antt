-- What the contracts of deletions say. Assumes nothing.
use Rattle.std.specs.Prelude.{◌≡◌, Bool, true, false, ◌&&◌, ◌||◌, List, Option, MatchOption, map, ℕ, ◌<◌, ◌≤◌, eqb, ℤ, get_or, take}
use Rattle.cells.specs.Cells.{Kept}
use Rattle.std.specs.List.{list_any as any}
use Rattle.rules.specs.Basics.{is_in, without_first}
use Rattle.rules.specs.Literals.{same_set}
use Rattle.rules.specs.Codes.{lit_of}
use Rattle.clauses.specs.declared.Store.{Store}
use Rattle.clauses.specs.declared.Standing.{Standing}
use Rattle.clauses.specs.Standing.{stands, NoneIn, clause_at, standing, literals, places_of, marks_need, Filled}
use Rattle.trail.specs.declared.Trail.{Trail}
use Rattle.trail.specs.Trail.{off, Trailed}

-- The deleted clause's literals are on the trail, which is empty before, and f marks them.
pub record Listed (f t : List ℕ) (n : ℕ) : Type 0 where
  pub trailed : Trailed f t n
  pub marked : (k : ℕ) → k < n → off f (get_or t k 0) ≡ true

-- d has the literals of c, and l
unfoldable pub MoreBy : ℕ → List ℕ → List ℕ → Type 0
MoreBy l c d = (x : ℕ) → is_in d x ≡ (is_in c x || eqb x l)

-- "of the same set"
unfoldable pub same_as : List ℕ → List ℕ → Bool
same_as c d = same_set (map lit_of c) (map lit_of d)

-- no clause that stands at a place below n passes the test
unfoldable pub NoneBelow : (List ℕ → Bool) → List ℤ → List ℤ → ℕ → Type 0
NoneBelow p t ms n = (k : ℕ) → k < n → stands t ms k ≡ true → p (clause_at t ms k) ≡ false

-- a clause of the same set as the codes c stands at place k
abbrev pub there : List ℕ → List ℤ → List ℤ → ℕ → Bool
there c t ms k = stands t ms k && same_as c (clause_at t ms k)

-- none does at the places from k on and below n
unfoldable pub NoneThere : List ℕ → List ℤ → List ℤ → ℕ → ℕ → Type 0
NoneThere c t ms k n = (j : ℕ) → k ≤ j → j < n → there c t ms j ≡ false

-- the earliest of these places at which one does, if there is one
abbrev pub Earliest : List ℕ → List ℤ → List ℤ → ℕ → ℕ → Option ℕ → Type 0
Earliest c t ms k n r = MatchOption r (NoneThere c t ms k n) (λ i. (i < n) × (there c t ms i ≡ true) × NoneThere c t ms k i)

-- "`d` literals `0` removes one standing clause of the same set, the earliest; the others stay." c are the codes of the literals.
pub record Deleted (c : List ℕ) (t ms ms' : List ℤ) (count : ℕ) (r : Bool) : Type 0 where
  pub kept : (s : Store) → places_of s ≡ count → Kept (marks_need s) ms ms'
  pub filled : (s : Store) → Filled t ms s → Filled t ms' s
  pub answer : r ≡ any (same_set (map lit_of c)) (literals (standing t ms count))
  pub standing_then : literals (standing t ms' count) ≡ without_first (same_set (map lit_of c)) (literals (standing t ms count))

-- AS CONTRACTS NAME THEM
abbrev pub ListedIn : Trail → Type 0
ListedIn a = Listed a.falses a.literals a.length

abbrev pub list_in : Trail → List ℕ
list_in a = take a.length a.literals

abbrev pub NoneOf : Standing → ℕ → ℕ → Type 0
NoneOf s k n = NoneIn s.proof.now s.marks.now k n

abbrev pub there_at : List ℕ → Standing → ℕ → Bool
there_at c s k = there c s.proof.now s.marks.now k

abbrev pub EarliestIn : List ℕ → Standing → ℕ → ℕ → Option ℕ → Type 0
EarliestIn c s k n r = Earliest c s.proof.now s.marks.now k n r

abbrev pub DeletedIn : List ℕ → List ℤ → List ℤ → List ℤ → ℕ → Bool → Type 0
DeletedIn c t ms ms' count r = Deleted c t ms ms' count r
