-- Codes listed in an array, each once, for codes below 8194, above every code of a formula's literal. Assumes nothing.
use Rattle.std.specs.Prelude.{◌≡◌, Bool, cond, ◌&&◌, List, [], ◌∷◌, ℕ, zero, suc, ◌+◌, ◌≤◌, eqb, ltb, length, get_or}
use Rattle.rules.specs.Basics.{is_in}

-- the first n places of an array, the last one first
unfoldable pub listed : List ℕ → ℕ → List ℕ
listed h zero = []
listed h (suc n) = get_or h n 0 ∷ listed h n

-- EACH CODE ONCE: t with code y, unless it is there; one beyond the end is passed over
unfoldable pub adding : List ℕ → ℕ → List ℕ
adding t y = cond (ltb y 8194) (cond (is_in t y) t (y ∷ t)) t

unfoldable pub joined : List ℕ → List ℕ → List ℕ
joined t [] = t
joined t (y ∷ ys) = joined (adding t y) ys

-- a code of a formula's literal that has a place without a mark
unfoldable pub is_new : List ℕ → ℕ → Bool
is_new s y = ltb y 8194 && (ltb y (length s) && eqb (get_or s y 0) 0)

-- how many of the first k places have no mark
unfoldable pub zeros : ℕ → List ℕ → ℕ
zeros zero vs = 0
zeros (suc k) [] = 0
zeros (suc k) (v ∷ vs) = cond (eqb v 0) 1 0 + zeros k vs

-- the first n places of h are marked in s and nothing else is, and there is room for every code without a mark
pub record Held (s h : List ℕ) (n : ℕ) : Type 0 where
  pub marked : (y : ℕ) → get_or s y 0 ≡ cond (is_in (listed h n) y) 1 0
  pub room : n + zeros 8194 s ≤ 8194
  pub long : 8194 ≤ length s
  pub long_list : 8194 ≤ length h

-- they are the codes of t
pub record Holds (s h : List ℕ) (n : ℕ) (t : List ℕ) : Type 0 where
  pub held : Held s h n
  pub codes : listed h n ≡ t

-- what is noted of a number, as one more than it is, is its size
unfoldable pub Noted : (ℕ → ℕ) → List ℕ → Type 0
Noted size memo = (e : ℕ) → (get_or memo e 0 ≡ 0 → ⊥) → get_or memo e 0 ≡ size e + 1
