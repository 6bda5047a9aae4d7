-- How clauses stand in the proof and marks tables, and the list of the standing ones. Assumes nothing.
use Rattle.std.specs.Prelude.{◌≡◌, Bool, false, not, cond, ◌&&◌, List, [], ◌∷◌, ◌++◌, map, ℕ, zero, suc, ◌+◌, ◌-◌, ◌/◌, ◌%◌, ◌<◌, ◌≤◌, eqb, leb, ℤ, pos, length, set, take}
use Rattle.std.specs.List.{list_any as any}
use Rattle.lines.specs.Lists.{is_empty}
use Rattle.cells.specs.Cells.{cell_at, code_at, list_at, Kept}
use Rattle.rules.specs.Literals.{Lits}
use Rattle.rules.specs.Codes.{code_of, lit_of}
use Rattle.lists.specs.Stores.{codes_at, puts}
use Rattle.clauses.specs.declared.Store.{Store}
use Rattle.clauses.specs.declared.Standing.{Standing}

-- A CLAUSE BY ITS PLACE. The clause at place k is the codes of its literals in the proof table, from some place on up to a 0. Mark k holds twice
-- that place, and 1 more if the clause stands.
unfoldable pub stands : List ℤ → List ℤ → ℕ → Bool
stands t ms k = not (eqb (cell_at ms k % 2) 0)

unfoldable pub clause_at : List ℤ → List ℤ → ℕ → List ℕ
clause_at t ms k = list_at t (cell_at ms k / 2)

-- "Standing clauses are those of accepted `e` and addition lines, minus deletions", in their order: those at the places below n
unfoldable pub standing : List ℤ → List ℤ → ℕ → List (List ℕ)
standing t ms zero = []
standing t ms (suc k) = standing t ms k ++ cond (stands t ms k) (clause_at t ms k ∷ []) []

-- none stands at the places from k on and below n
unfoldable pub NoneIn : List ℤ → List ℤ → ℕ → ℕ → Type 0
NoneIn t ms k n = (j : ℕ) → k ≤ j → j < n → stands t ms j ≡ false

-- clauses of codes as the rules' clauses
abbrev pub literals : List (List ℕ) → List Lits
literals S = map (map lit_of) S

-- THE STORE: the clauses have the places below this
unfoldable pub places_of : Store → ℕ
places_of s = s.count

-- what it needs of the two tables
unfoldable pub proof_need : Store → ℕ
proof_need s = s.used

unfoldable pub marks_need : Store → ℕ
marks_need s = s.count

-- with no clause yet, above the first n places of the proof table
unfoldable pub empty_above : ℕ → Store
empty_above n = record { used = n; count = 0 }

-- with one clause of n literals more
unfoldable pub grown : Store → ℕ → Store
grown s n = record { used = s.used + n + 1; count = s.count + 1 }

-- the clause that was stored last and does not stand yet
unfoldable pub pending : List ℤ → Store → List ℕ
pending t s = list_at t s.used

-- where its codes stand in the proof table, one in a place, up to a 0
unfoldable pub written_at : Store → ℕ
written_at s = s.used

-- the proof table after the literals of a line's text were stored
unfoldable pub stored : List ℕ → ℕ → Store → List ℤ → List ℤ
stored bs at s t = puts t s.used (codes_at bs at)

-- a clause more has its places in tables of these lengths
abbrev pub room_for : Store → ℕ → ℕ → ℕ → Bool
room_for s n proof marks = leb (proof_need (grown s n)) proof && leb (marks_need (grown s n)) marks

-- THE STORE'S INVARIANT: an end mark stands last in the used part of the proof table, and each of the clauses starts below its end.
pub record Filled (t ms : List ℤ) (s : Store) : Type 0 where
  pub ended : 0 < s.used → code_at t (s.used - 1) ≡ 0
  pub low : (k : ℕ) → k < s.count → cell_at ms k / 2 < s.used

-- A LINE'S CLAUSE c, of n literals, WAS STORED: t became u
pub record Pended (t u ms : List ℤ) (s : Store) (n : ℕ) (c : Lits) : Type 0 where
  pub clause : pending u s ≡ map code_of c
  pub size : n ≡ length (pending u s)
  pub standing_then : standing u ms (places_of s) ≡ standing t ms (places_of s)
  pub filled : Filled u ms s
  pub before : take (proof_need s) u ≡ take (proof_need s) t
  pub kept : Kept (proof_need (grown s n)) t u

-- ONE CLAUSE MORE STANDS, the pending one, of n literals
pub record Stood (t ms ms' : List ℤ) (s : Store) (n : ℕ) : Type 0 where
  pub standing_then : standing t ms' (places_of (grown s n)) ≡ standing t ms (places_of s) ++ (pending t s ∷ [])
  pub filled : Filled t ms' (grown s n)
  pub kept : Kept (marks_need (grown s n)) ms ms'

-- what `stand` promises, whatever the proof table is
abbrev pub StandsNow : List ℤ → List ℤ → Store → ℕ → Store → Type 0
StandsNow ms ms' s n r = proof_need (grown s n) < 1073741824 → marks_need (grown s n) ≤ length ms
    → (r ≡ grown s n) × ((t : List ℤ) → Filled t ms s → n ≡ length (pending t s) → Stood t ms ms' s n)

-- the marks after the clause at place k was deleted
unfoldable pub removed : ℕ → List ℤ → List ℤ
removed k ms = set ms k (pos ((cell_at ms k - cell_at ms k % 2) % 2147483648))

-- an empty clause is among them
abbrev pub has_empty : List (List ℕ) → Bool
has_empty S = any is_empty (literals S)

-- the clause at place k stands and is empty
abbrev pub empty_at : List ℤ → List ℤ → ℕ → Bool
empty_at t ms k = stands t ms k && is_empty (clause_at t ms k)

-- AS CONTRACTS NAME THEM
abbrev pub standing_of : Standing → List (List ℕ)
standing_of s = standing s.proof.now s.marks.now s.count

abbrev pub stands_at : Standing → ℕ → Bool
stands_at s k = stands s.proof.now s.marks.now k

abbrev pub clause_of : Standing → ℕ → List ℕ
clause_of s k = clause_at s.proof.now s.marks.now k

abbrev pub empty_of : Standing → ℕ → Bool
empty_of s k = empty_at s.proof.now s.marks.now k
