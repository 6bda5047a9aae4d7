-- A search of a walk over codes, as the rules say it. Assumes nothing.
use mathlib.Core.Path.{◌≡◌, refl, ap}
use mathlib.Core.Bool.{Bool, ◌||◌}
use mathlib.Core.List.{List, [], ◌∷◌, map}
use Rattle.std.specs.List.{list_any as any}

-- a test of what the elements stand for
pub any_mapped : {A B : Type 0} (f : A → B) (p : B → Bool) (xs : List A) → any (λ x. p (f x)) xs ≡ any p (map f xs)
any_mapped f p [] = refl
any_mapped f p (x ∷ xs) = ap (λ b. p (f x) || b) (any_mapped f p xs)
