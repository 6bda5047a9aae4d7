-- What the contracts of additions say. Assumes nothing.
use Rattle.std.specs.Prelude.{◌≡◌, Bool, true, false, not, ◌||◌, List, [], ◌∷◌, ◌++◌, map, ℕ, ◌<◌, eqb, get_or, Option, Some, None}
use Rattle.std.specs.List.{list_all as all, filter as keep}
use Rattle.rules.specs.Literals.{negate, holds}
use Rattle.rules.specs.Codes.{lit_of, flip}
use Rattle.rules.specs.Propagation.{rup, less, rat}
use Rattle.rules.specs.declared.Outcome.{Outcome}
use Rattle.rules.specs.declared.Outcome.TheVariants as outcome
use Rattle.redundancy.specs.declared.Joined.{Joined}
use Rattle.trail.specs.declared.Trail.{Trail}
use Rattle.cells.specs.declared.Codes.{Codes}
use Rattle.cells.specs.Codes.{codes_left}
use Rattle.clauses.specs.Standing.{literals}
use Rattle.trail.specs.Trail.{truth, Ready}
use Rattle.propagation.specs.Answers.{Good, Denies, Holds, Moved, Clash, Held}

-- THE RULES over clauses of codes
unfoldable pub rup_of : List (List ℕ) → List ℕ → Bool
rup_of S c = rup (literals S) (map lit_of c)

-- "for its first written literal l and every standing clause D holding the negation of l, the addition joined with D less that negation is RUP"
unfoldable pub rat_on : List (List ℕ) → List ℕ → ℕ → Bool
rat_on S c l =
    all (λ d. rup (literals S) (map lit_of c ++ less (negate (lit_of l)) d)) (keep (λ d. holds d (negate (lit_of l))) (literals S))

unfoldable pub rat_of : List (List ℕ) → List ℕ → Bool
rat_of S c = rat (literals S) (map lit_of c)

-- "A literals-and-`0` line is accepted if it is RUP, or .."
unfoldable pub accepts : List (List ℕ) → List ℕ → Bool
accepts S c = rup (literals S) (map lit_of c) || rat (literals S) (map lit_of c)

-- the first written literal
abbrev pub first_of : List ℕ → Option ℕ
first_of [] = None
first_of (l ∷ c) = Some l

-- a clause less a literal
unfoldable pub less_code : ℕ → List ℕ → List ℕ
less_code x d = keep (λ m. not (eqb m x)) d

-- a clause less a literal if there is one
abbrev pub less_of : Option ℕ → List ℕ → List ℕ
less_of None d = d
less_of (Some x) d = less_code x d

-- THE LITERALS OF A CLAUSE ARE FALSE NOW; or no consistent test that holds the trail has their negations
unfoldable pub Denied : List ℕ → List ℕ → List ℕ → ℕ → List ℕ → List ℕ → ℕ → Outcome → Type 0
Denied c f₀ t₀ n₀ f t n outcome.Conflict =
    Moved (λ Q. Denies Q c) f₀ t₀ n₀ f t n
    × ((Q : ℕ → Bool) → ((l : ℕ) → Q l ≡ true → Q (flip l) ≡ true → ⊥) → Denies Q c → Holds Q t₀ n₀ → ⊥)
Denied c f₀ t₀ n₀ f t n outcome.Stable = Moved (λ Q. Denies Q c) f₀ t₀ n₀ f t n × Denies (truth f) c

-- a good test that denies c
abbrev pub Both : List (List ℕ) → List ℕ → (ℕ → Bool) → Type 0
Both S c Q = Good S Q × Denies Q c

-- propagation from the negations of c: a conflict, or a good test
unfoldable pub Refuted : List (List ℕ) → List ℕ → List ℕ → List ℕ → ℕ → List ℕ → List ℕ → ℕ → Outcome → Type 0
Refuted S c f₀ t₀ n₀ f t n outcome.Conflict = Moved (Both S c) f₀ t₀ n₀ f t n × Clash (Both S c) t₀ n₀
Refuted S c f₀ t₀ n₀ f t n outcome.Stable = Moved (Both S c) f₀ t₀ n₀ f t n × Good S (truth f) × Denies (truth f) c

-- the trail follows from the standing clauses and the negations of c
unfoldable pub Follows : List (List ℕ) → List ℕ → List ℕ → ℕ → Type 0
Follows S c t n = (Q : ℕ → Bool) → Good S Q → Denies Q c → Holds Q t n

-- after a candidate the trail is cut back to what it was
pub record Tried (t : List ℕ) (n : ℕ) (f' t' : List ℕ) (n' : ℕ) : Type 0 where
  pub ready : Ready f' t' n'
  pub same : n' ≡ n
  pub kept : (k : ℕ) → k < n → get_or t' k 0 ≡ get_or t k 0

-- an addition is accepted, and the trail is kept for the next line; or it is refused
unfoldable pub Decided : List (List ℕ) → List ℕ → List ℕ → List ℕ → ℕ → Option ℕ → Type 0
Decided S c f t n (Some q) = Held S f t n × (accepts S c ≡ true)
Decided S c f t n None = accepts S c ≡ false

-- AS CONTRACTS NAME THEM: clause d less a literal if there is one, clause c joined with what there is, and what becomes of the trail
abbrev pub less_in : Codes → Option ℕ → List ℕ
less_in d o = less_of o (codes_left d)

abbrev pub rest_of : Option (Codes × ℕ) → List ℕ
rest_of None = []
rest_of (Some p) = less_code p.1 (codes_left p.0)

abbrev pub joined_in : Joined → List ℕ
joined_in j = codes_left j.c ++ rest_of j.less

abbrev pub DeniedIn : List ℕ → Trail → Trail → Outcome → Type 0
DeniedIn c a b r = Denied c a.falses a.literals a.length b.falses b.literals b.length r

abbrev pub RefutedIn : List (List ℕ) → List ℕ → Trail → Trail → Outcome → Type 0
RefutedIn S c a b r = Refuted S c a.falses a.literals a.length b.falses b.literals b.length r

abbrev pub FollowsIn : List (List ℕ) → List ℕ → Trail → Type 0
FollowsIn S c a = Follows S c a.literals a.length

abbrev pub TriedIn : Trail → Trail → Type 0
TriedIn a b = Tried a.literals a.length b.falses b.literals b.length

abbrev pub DecidedIn : List (List ℕ) → List ℕ → Trail → Option ℕ → Type 0
DecidedIn S c a r = Decided S c a.falses a.literals a.length r
