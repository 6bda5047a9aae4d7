-- Tests over lists, beside those of crate `lines`. Assumes nothing.
use Rattle.std.specs.Prelude.{Bool, true, false, ◌&&◌, not, ℕ, ◌+◌, max, eqb}
use mathlib.Core.List.{List, [], ◌∷◌, foldr}
use Rattle.std.proofs.Math.Option.{Option, none, some}
use Rattle.std.specs.List.{list_any as any}

module _ {A : Type 0} where
  -- the list without its first element that passes the test
  abbrev pub without_first : (A → Bool) → List A → List A
  without_first p [] = []
  without_first p (x ∷ xs) = elim (p x) [ true ↦ xs | false ↦ x ∷ without_first p xs ]

module _ {A B : Type 0} where
  abbrev pub maybe : Option A → B → (A → B) → B
  maybe none b f = b
  maybe (some a) b f = f a

abbrev pub is_in : List ℕ → ℕ → Bool
is_in xs n = any (eqb n) xs

-- no number comes twice
abbrev pub distinct : List ℕ → Bool
distinct [] = true
distinct (n ∷ ns) = not (is_in ns n) && distinct ns

abbrev pub greatest : List ℕ → ℕ
greatest = foldr max 0

abbrev pub sum : List ℕ → ℕ
sum = foldr ◌+◌ 0
