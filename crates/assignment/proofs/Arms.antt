-- Laws of the least t, and of the test of the annotations against it. Assumes nothing.
use mathlib.Core.Path.{◌≡◌, refl, ap, sym, ◌∙◌}
use mathlib.Core.Bool.{Bool, true, false, cond}
use mathlib.Core.List.{List, [], ◌∷◌, ◌++◌, map}
use Prim.Native.Nat.{ℕ, suc, ◌/◌, ◌≤◌}
use native.Mathlib.Omega.{arith}
use lib.Dec.{eqb}
use lib.IntN.{ℤ}
use lib.ListN.{length, drop, take, length-drop, length-take}
use Rattle.std.specs.List.{filter}
use Rattle.std.proofs.lemmas.List.Sums.{length-filter, count_by-le-length}
use Rattle.std.specs.List.{filter as keep}
use Rattle.cells.specs.Cells.{list_at, up_to, codes_of}
use Rattle.cells.proofs.Laws.{list_past, codes_length}
use Rattle.rules.specs.Codes.{flip}
use Rattle.prefix.specs.Prefix.{is_universal, dependency}
use Rattle.assignment.specs.Held.{listed, joined}
use Rattle.assignment.specs.Annotations.{negations, part_size}
use Rattle.assignment.proofs.HeldLaws.{count_filled}
pub use Rattle.assignment.proofs.HeldLaws.{joined_append, joined_twice}

-- THE LEAST t: what the walks that add codes need
pub join_past : (t : List ℕ) (m : List ℤ) → joined t (list_at m (length m)) ≡ t
unfolding joined
join_past t m = ap (joined t) (list_past m (length m) (omega arith))

pub negations_more : (w : ℕ → ℕ) (y : ℕ) (ys : List ℕ) → negations w (y ∷ ys) ≡ negations w (y ∷ []) ++ negations w ys
unfolding negations
negations_more w y ys = go (is_universal w (y / 2)) (keep (λ z. is_universal w (z / 2)) ys)
  where
    go : (b : Bool) (ks : List ℕ) → map flip (cond b (y ∷ ks) ks)
        ≡ map flip (cond b (y ∷ []) []) ++ map flip ks
    go true ks = refl
    go false ks = refl

pub ruleset joins = (join_past, negations_more, joined_append, joined_twice)

-- THE SIZE OF A PART: of the first n places of h, in their order
pub part_of : (w : ℕ → ℕ) (h : List ℕ) (n e : ℕ) {r : ℕ} → r ≡ length (filter (λ y. dependency w e (y / 2)) (take n h)) → n ≤ 8194 → n ≤ length h
    → (r ≡ part_size w (listed h n) e) × (r ≤ 8194)
unfolding part_size
part_of w h n e q l m = (
  q ∙ count_filled h p n m,
  omega (arith, q, length-filter p (take n h), count_by-le-length p (take n h), length-take n h, l),
)
  where
    p : ℕ → Bool
    p y = dependency w e (y / 2)

-- HOW LONG AN ANNOTATION IS
up_to_bound : (xs : List ℕ) → length (up_to xs) ≤ length xs
unfolding up_to
up_to_bound [] = omega arith
up_to_bound (x ∷ xs) = go (eqb x 0) (up_to_bound xs)
  where
    go : (b : Bool) → length (up_to xs) ≤ length xs → length {A = ℕ} (cond b [] (x ∷ up_to xs)) ≤ suc (length xs)
    go true h = omega arith
    go false h = omega arith

pub codes_bound : (m : List ℤ) (a : ℕ) → length (list_at m a) ≤ length m
unfolding list_at
codes_bound m a = let h = up_to_bound (drop a (codes_of m)) in omega (arith, h, length-drop a (codes_of m), codes_length m)

pub long_past : (m : List ℤ) → 0 ≡ length (list_at m (length m))
long_past m = sym (ap {A = List ℕ} length (list_past m (length m) (omega arith)))
