-- What the contracts of propagation say. A literal is its code. Assumes nothing.
use Rattle.std.specs.Prelude.{◌≡◌, ◌⊎◌, Bool, true, false, ℕ, ◌≤◌, ◌<◌, get_or, Option, Some, None}
use mathlib.Core.List.{List, Memᴰ}
use Rattle.rules.specs.Codes.{flip}
use Rattle.trail.specs.declared.Trail.{Trail}
use Rattle.trail.specs.Trail.{off, truth, Ready}
use Rattle.propagation.specs.declared.looks.Look.{Look}
use Rattle.propagation.specs.declared.looks.Look.TheVariants.{Falsified, Unit as UnitOf, Open}
use Rattle.propagation.specs.declared.Scan.{Scan}
use Rattle.propagation.specs.declared.Scan.TheVariants as scan
use Rattle.rules.specs.declared.Outcome.{Outcome}
use Rattle.rules.specs.declared.Outcome.TheVariants as outcome

abbrev pub In : {A : Type 0} → A → List A → Type 0
In x xs = Memᴰ x xs

-- GOOD TESTS on literals: closed under the unit rule and without both signs of a variable. Propagation is stable exactly if one of them holds
-- the start (crate rules, proofs/Good.antt, over literals).
abbrev pub Under : (ℕ → Bool) → (ℕ → Bool) → Type 0
Under P Q = (l : ℕ) → P l ≡ true → Q l ≡ true

-- the unit rule at a clause: if each literal but l is false, l is true
abbrev pub Closed : (ℕ → Bool) → List ℕ → Type 0
Closed Q c = (l : ℕ) → ((m : ℕ) → In m c → (Q (flip m) ≡ true) ⊎ (m ≡ l)) → Q l ≡ true

pub record Good (S : List (List ℕ)) (Q : ℕ → Bool) : Type 0 where
  pub consistent : (l : ℕ) → Q l ≡ true → Q (flip l) ≡ true → ⊥
  pub closed : (c : List ℕ) → In c S → Closed Q c

-- the test has the negation of each literal of c
unfoldable pub Denies : (ℕ → Bool) → List ℕ → Type 0
Denies Q c = (m : ℕ) → In m c → Q (flip m) ≡ true

-- what a look at the literals M of a clause says, where those of P are true
abbrev pub Means : (ℕ → Bool) → (ℕ → Type 0) → Look → Type 0
Means P M Falsified = (m : ℕ) → M m → P (flip m) ≡ true
Means P M (UnitOf l) = M l × (P (flip l) ≡ false) × ((m : ℕ) → M m → (P (flip m) ≡ true) ⊎ (m ≡ l))
Means P M (Open a b) = M a × M b × (a ≡ b → ⊥) × (P (flip a) ≡ false) × (P (flip b) ≡ false)

abbrev pub Saw : List ℕ → List ℕ → Look → Type 0
Saw f c r = Means (truth f) (λ m. In m c) r

-- a look that stops at the first literal that is not false and not expected
abbrev pub Sought : List ℕ → List ℕ → Look → Type 0
Sought f c Falsified = Saw f c Falsified
Sought f c (UnitOf l) = Saw f c (UnitOf l)
Sought f c (Open a b) = In a c

-- a test holds the negation of each literal on the trail
unfoldable pub Holds : (ℕ → Bool) → List ℕ → ℕ → Type 0
Holds Q t n = (k : ℕ) → k < n → Q (flip (get_or t k 0)) ≡ true

-- The trail has grown by what follows: each test of G that held the trail still does.
pub record Moved (G : (ℕ → Bool) → Type 0) (f₀ t₀ : List ℕ) (n₀ : ℕ) (f t : List ℕ) (n : ℕ) : Type 0 where
  pub ready : Ready f t n
  pub up : n₀ ≤ n
  pub kept : (k : ℕ) → k < n₀ → get_or t k 0 ≡ get_or t₀ k 0
  pub more : (l : ℕ) → off f₀ l ≡ true → off f l ≡ true
  pub sound : (Q : ℕ → Bool) → G Q → Holds Q t₀ n₀ → Holds Q t n

-- no test of G holds the trail
abbrev pub Clash : ((ℕ → Bool) → Type 0) → List ℕ → ℕ → Type 0
Clash G t n = (Q : ℕ → Bool) → G Q → Holds Q t n → ⊥

unfoldable pub Visited : List (List ℕ) → List ℕ → List ℕ → ℕ → List ℕ → List ℕ → ℕ → Outcome → Type 0
Visited S f₀ t₀ n₀ f t n outcome.Conflict = Moved (Good S) f₀ t₀ n₀ f t n × Clash (Good S) t₀ n₀
Visited S f₀ t₀ n₀ f t n outcome.Stable = Moved (Good S) f₀ t₀ n₀ f t n

-- a clause came to a conflict, or has a literal to watch
unfoldable pub Turned : List (List ℕ) → List ℕ → List ℕ → ℕ → List ℕ → List ℕ → ℕ → Option ℕ → Type 0
Turned S f₀ t₀ n₀ f t n None = (n ≡ n₀) × Moved (Good S) f₀ t₀ n₀ f t n × Clash (Good S) t₀ n₀
Turned S f₀ t₀ n₀ f t n (Some w) = Moved (Good S) f₀ t₀ n₀ f t n

-- a clause that is falsified, or that makes a literal true, or none of either kind
unfoldable pub Scanned : List (List ℕ) → List ℕ → Scan → Type 0
Scanned S f scan.Falsified = (c : List ℕ) × In c S × Saw f c Falsified
Scanned S f (scan.Unit u) = (c : List ℕ) × In c S × Saw f c (UnitOf u) × (u < 65536) × (off f (flip u) ≡ false)
Scanned S f scan.Closed = (c : List ℕ) → In c S → Closed (truth f) c

-- "Propagation answers conflict or stable, whatever the order of units": no good test holds the trail at the start; or the values now are one
abbrev pub Answers : List (List ℕ) → List ℕ → ℕ → List ℕ → Outcome → Type 0
Answers S t₀ n₀ f outcome.Conflict = Clash (Good S) t₀ n₀
Answers S t₀ n₀ f outcome.Stable = Good S (truth f)

unfoldable pub Settled : List (List ℕ) → List ℕ → List ℕ → ℕ → List ℕ → List ℕ → ℕ → Outcome → Type 0
Settled S f₀ t₀ n₀ f t n r = Moved (Good S) f₀ t₀ n₀ f t n × Answers S t₀ n₀ f r

-- BETWEEN LINES: the trail follows from the standing clauses alone
pub record Held (S : List (List ℕ)) (f t : List ℕ) (n : ℕ) : Type 0 where
  pub ready : Ready f t n
  pub based : (Q : ℕ → Bool) → Good S Q → Holds Q t n

-- AS CONTRACTS NAME THEM
abbrev pub HeldIn : List (List ℕ) → Trail → Type 0
HeldIn S a = Held S a.falses a.literals a.length

abbrev pub MovedIn : ((ℕ → Bool) → Type 0) → Trail → Trail → Type 0
MovedIn G a b = Moved G a.falses a.literals a.length b.falses b.literals b.length

abbrev pub VisitedIn : List (List ℕ) → Trail → Trail → Outcome → Type 0
VisitedIn S a b r = Visited S a.falses a.literals a.length b.falses b.literals b.length r

abbrev pub TurnedIn : List (List ℕ) → Trail → Trail → Option ℕ → Type 0
TurnedIn S a b r = Turned S a.falses a.literals a.length b.falses b.literals b.length r

abbrev pub ScannedIn : List (List ℕ) → Trail → Scan → Type 0
ScannedIn S a r = Scanned S a.falses r

abbrev pub SettledIn : List (List ℕ) → Trail → Trail → Outcome → Type 0
SettledIn S a b r = Settled S a.falses a.literals a.length b.falses b.literals b.length r
