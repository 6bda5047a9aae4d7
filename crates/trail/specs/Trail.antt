-- What the contracts of the trail say. A literal is its code; it is false where f has no 0 at its code. Assumes nothing.
use Rattle.std.specs.Prelude.{◌≡◌, ◌⊎◌, Bool, true, false, cond, not, List, [], ◌∷◌, ℕ, ◌+◌, ◌≤◌, ◌<◌, eqb, length, get_or, set}
use Rattle.rules.specs.Codes.{flip}
use Rattle.trail.specs.declared.Trail.{Trail}

-- VALUES
unfoldable pub off : List ℕ → ℕ → Bool
off f l = not (eqb (get_or f l 0) 0)

abbrev pub truth : List ℕ → ℕ → Bool
truth f l = off f (flip l)

-- THE TRAIL: the literals that are false, in the order in which they became so
unfoldable pub zeros : List ℕ → ℕ
zeros [] = 0
zeros (v ∷ vs) = cond (eqb v 0) 1 0 + zeros vs

pub record Shape (f : List ℕ) (n : ℕ) : Type 0 where
  pub long : length f ≡ 65536
  pub room : n + zeros f ≤ 65536

-- each literal that is false stands on the trail
pub record Trailed (f t : List ℕ) (n : ℕ) : Type 0 where
  pub shape : Shape f n
  pub long : length t ≡ 65536
  pub listed : (l : ℕ) → off f l ≡ true → (k : ℕ) × (k < n) × (get_or t k 0 ≡ l)

pub record Ready (f t : List ℕ) (n : ℕ) : Type 0 where
  pub trailed : Trailed f t n
  pub apart : (l : ℕ) → off f l ≡ true → off f (flip l) ≡ true → ⊥

abbrev pub Assumed : List ℕ → List ℕ → ℕ → ℕ → List ℕ → List ℕ → ℕ → Type 0
Assumed f t n l f' t' r =
    ((off f l ≡ true) × (f' ≡ f) × (t' ≡ t) × (r ≡ n))
    ⊎ ((off f l ≡ false) × (n < 65536) × (f' ≡ set f l 1) × (t' ≡ set t n l) × (r ≡ n + 1))

-- what is cut off the trail is false no more
pub record Undone (f t : List ℕ) (base : ℕ) (f' : List ℕ) : Type 0 where
  pub trailed : Trailed f' t base
  pub fewer : (l : ℕ) → off f' l ≡ true → off f l ≡ true

-- AS CONTRACTS NAME THEM
abbrev pub ShapeIn : Trail → Type 0
ShapeIn t = Shape t.falses t.length

abbrev pub TrailedIn : Trail → Type 0
TrailedIn t = Trailed t.falses t.literals t.length

abbrev pub ReadyIn : Trail → Type 0
ReadyIn t = Ready t.falses t.literals t.length

abbrev pub literal_in : Trail → ℕ → ℕ
literal_in t k = get_or t.literals k 0

abbrev pub AssumedIn : Trail → ℕ → Trail → Type 0
AssumedIn t l t' = Assumed t.falses t.literals t.length l t'.falses t'.literals t'.length

abbrev pub UndoneIn : Trail → ℕ → Trail → Type 0
UndoneIn t base t' = Undone t.falses t.literals base t'.falses × (t'.literals ≡ t.literals) × (t'.length ≡ base)
