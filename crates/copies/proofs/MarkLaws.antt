-- Laws of marks. Assumes nothing.
use mathlib.Core.Path.{◌≡◌, refl, ap, sym, ◌∙◌}
use mathlib.Core.Bool.{Bool, true, false, cond, ◌||◌}
use mathlib.Core.List.{List, [], ◌∷◌}
use Prim.Native.Nat.{ℕ, ◌<◌, ◌≤◌}
use native.Mathlib.Omega.{arith}
use lib.ListN.{length, get_or, set, length-set, replicate, length-replicate}
use lib.Seq.{get_or-set_same, get_or-set_other}
use lib.Dec.{eqb}
use borrow.Author.Tests.{eqb-true, eqb-false}
use Rattle.cells.proofs.Laws.{get_or_zeros}
use Rattle.rules.specs.Basics.{is_in}
use Rattle.copies.specs.Marks.{marks, stamp, Marking, Unmarked}

pub marks_length : (ys s : List ℕ) → length (marks ys s) ≡ length s
unfolding marks stamp
marks_length [] s = refl
marks_length (y ∷ ys) s = marks_length ys (set s y 1) ∙ length-set s y 1

pub set_at : (s : List ℕ) (x v y : ℕ) → y < length s → get_or (set s x v) y 0 ≡ cond (eqb y x) v (get_or s y 0)
set_at s x v y h = go (eqb y x) refl
  where
    go : (b : Bool) → eqb y x ≡ b → get_or (set s x v) y 0 ≡ cond b v (get_or s y 0)
    go true e = ap (λ z. get_or (set s z v) y 0) (sym (eqb-true y x e)) ∙ get_or-set_same s y v 0 h
    go false e = get_or-set_other s x y v 0 (eqb-false y x e)

-- a value written for one test or another
pub twice : (v k : ℕ) (b i : Bool) → cond i v (cond b v k) ≡ cond (b || i) v k
twice v k true true = refl
twice v k true false = refl
twice v k false i = refl

marks_at : (ys s : List ℕ) (y : ℕ) → y < length s → get_or (marks ys s) y 0 ≡ cond (is_in ys y) 1 (get_or s y 0)
unfolding marks stamp
marks_at [] s y h = refl
marks_at (x ∷ ys) s y h =
    marks_at ys (set s x 1) y (omega (arith, length-set s x 1)) ∙ ap (cond (is_in ys y) 1) (set_at s x 1 y h)
    ∙ twice 1 (get_or s y 0) (eqb y x) (is_in ys y)

-- an array of zeros has no mark
pub zeros_long : 8194 ≤ length (replicate {A = ℕ} 8194 0)
zeros_long = omega (arith, length-replicate {A = ℕ} 8194 0)

pub zeros_unmarked : Unmarked (replicate 8194 0)
zeros_unmarked = record { long = zeros_long; none = get_or_zeros 8194 }

pub unmarked_marking : (ys s : List ℕ) → Unmarked s → (t : List ℕ) → t ≡ marks ys s → Marking t ys
unfolding Marking
unmarked_marking ys s u t e y h =
    ap (λ l. get_or l y 0) e ∙ marks_at ys s y (omega (arith, h, ap (length {A = ℕ}) e, marks_length ys s)) ∙ ap (cond (is_in ys y) 1) (u.none y)
