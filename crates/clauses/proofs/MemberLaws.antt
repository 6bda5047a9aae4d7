-- Members of a clause, as codes and as literals of the rules. Assumes nothing.
use mathlib.Core.Path.{◌≡◌, refl, ◌∙◌, ap, ap₂}
use mathlib.Core.Bool.{Bool, ◌&&◌, ◌||◌}
use mathlib.Core.List.Memᴰ
use mathlib.Core.List.{List, [], ◌∷◌, map}
use Prim.Native.Nat.{ℕ}
use Rattle.std.specs.List.{list_all, list_any}
use lib.Dec.{eqb}
use Rattle.std.specs.List.{list_all as all, list_any as any}
use Rattle.rules.specs.Basics.{is_in}
use Rattle.rules.specs.Literals.{same, holds}
use Rattle.rules.specs.Codes.{lit_of}
use Rattle.rules.proofs.Kit.{either, In}
use Rattle.rules.proofs.CodesLaw.{code_lit, same_code}

-- MEMBERS OF A MAPPED LIST
module _ {A B : Type 0} (g : A → B) where
  pub in_map : {x : A} {xs : List A} → In x xs → In (g x) (map g xs)
  in_map (Memᴰ.head e) = Memᴰ.head (ap g e)
  in_map (Memᴰ.tail m) = Memᴰ.tail (in_map m)

  pub map_in : (y : B) (xs : List A) → In y (map g xs) → (x : A) × In x xs × (y ≡ g x)
  map_in y [] m = absurd (Memᴰ.not-nil m)
  map_in y (x ∷ xs) m = either {D = (z : A) × In z (x ∷ xs) × (y ≡ g z)} (λ e. (x, Memᴰ.head refl, e))
      (λ k. let s = map_in y xs k in (s.0, Memᴰ.tail s.1, s.2)) (Memᴰ.cases_cons m)

  pub any_map : (p : B → Bool) (xs : List A) → any p (map g xs) ≡ any (λ x. p (g x)) xs
  any_map p [] = refl
  any_map p (x ∷ xs) = ap (λ b. p (g x) || b) (any_map p xs)

-- TESTS
pub same_lit : (m x : ℕ) → same (lit_of m) (lit_of x) ≡ eqb m x
same_lit m x = same_code (lit_of m) (lit_of x) ∙ ap₂ eqb (code_lit m) (code_lit x)

pub holds_lit : (d : List ℕ) (x : ℕ) → holds (map lit_of d) (lit_of x) ≡ is_in d x
holds_lit [] x = refl
holds_lit (m ∷ d) x = ap₂ (λ a b. a || b) (same_lit x m) (holds_lit d x)
