-- The marks of the copies: place p holds 0 if copy p is not mapped. Assumes nothing.
use Rattle.std.specs.Prelude.{◌≡◌, Bool, true, false, not, ◌&&◌, cond, List, [], ◌∷◌, ℕ, ◌<◌, ◌≤◌, eqb, leb, length, get_or, set}
use Rattle.rules.specs.Expansion.{Copy, is_mapped}
use Rattle.mapped.specs.Numbers.{ruled}

unfoldable pub is_noted : List ℕ → ℕ → Bool
is_noted ns p = leb p 16384 && not (eqb (get_or ns p 0) 0)

unfoldable pub is_free : List ℕ → ℕ → Bool
is_free ns p = leb p 16384 && eqb (get_or ns p 0) 0

-- COPIES NOTED one after the other, up to the first that is not free: whether all were, and the marks then
pub record Marking : Type 0 where
  pub fresh : Bool
  pub marks : List ℕ

abbrev pub marking : Bool → List ℕ → Marking
marking b ns = record { fresh = b; marks = ns }

unfoldable pub noting : List ℕ → List ℕ → Marking
noting [] ns = marking true ns
noting (p ∷ ps) ns = cond (is_free ns p) (noting ps (set ns p 1)) (marking false ns)

-- what noting says, as the refusal of a rule with number k, and the marks then; `end` is what the list's end is
pub record Notes (ps ns : List ℕ) (k end r : ℕ) (ns' : List ℕ) : Type 0 where
  pub answer : r ≡ ruled k (noting ps ns).fresh end
  pub marks : ns' ≡ (noting ps ns).marks

-- THE MARKS: 1 for a mapped copy, 0 for any other. "copy 16,384 passes and 16,385 is refused 3"
pub record NotedShown (marks : List ℕ) (m : List Copy) : Type 0 where
  pub long : length marks ≡ 16385
  pub low : (p : ℕ) → is_mapped m p ≡ true → (0 < p) × (p ≤ 16384)
  pub each : (p : ℕ) → p ≤ 16384 → get_or marks p 0 ≡ cond (is_mapped m p) 1 0
