-- Laws of reading and writing a place, stated once for all six tables. Assumes nothing.
use mathlib.Core.Path.{◌≡◌, refl, ap, sym, ◌∙◌}
use mathlib.Core.List.{List, [], ◌∷◌, ◌++◌}
use mathlib.Core.Bool.{Bool, true, false, cond}
use mathlib.Core.Logic.{◌≢◌}
use Prim.Native.Nat.{ℕ, zero, suc, ◌<◌, ◌≤◌, ◌+◌, ◌-◌, ◌%◌}
use native.Mathlib.Omega.{arith}
use native.Mathlib.Numerals.{add-one}
use lib.ListN.{drop, drop_of_length-le, get_or, set, replicate, length, length-set, length-map, get_or-eq_default, get_or-map}
use lib.Seq.{get_or-set_same, get_or-set_other, drop-drop, drop-cons}
use lib.IntN.{ℤ, pos, negsuc, nat_abs}
use lib.Signed.{le_z, non_neg}
use lib.Dec.{T, leb}
use borrow.Author.Tests.{leb-true, leb-false, eq-eqb, ne_eqb}
use mir.Syntax.{w32}
use mir.Val.{Fits, SFits, to_z, of_z}
use mir.Facts.{to_z-of_z, Fits-nat_abs}
use Rattle.cells.specs.Cells.{num, cell_at, cells_of, code_at, codes_of, up_to, list_at, Kept}

-- THE SIGN OF A PLACE: what the test on it gives
sign : (z : ℤ) → le_z (pos 0) z ≡ true → T (non_neg z) × (nat_abs z ≡ num z)
sign (pos n) e = (tt, refl)
sign (negsuc n) e = let z : ◌≡◌ {A = Bool} false true = e in let w : ◌≡◌ {A = ℕ} 0 1 = cc in omega arith

below_zero : (z : ℤ) → le_z (pos 0) z ≡ false → 0 ≡ num z
below_zero (pos n) e = omega (arith, leb-false 0 n e)
below_zero (negsuc n) e = refl

module _ (z : ℤ) (f : SFits w32 z) where
  pub read_cast : le_z (pos 0) (to_z w32 (of_z w32 z)) ≡ true → T (non_neg (to_z w32 (of_z w32 z))) × Fits w32 (nat_abs (to_z w32 (of_z w32 z)))
  read_cast e = rw (to_z-of_z f) ((sign z (rw (to_z-of_z f) at e)).0, Fits-nat_abs tt f)

  pub read_num : le_z (pos 0) (to_z w32 (of_z w32 z)) ≡ true → nat_abs (to_z w32 (of_z w32 z)) ≡ num z
  read_num e = rw (to_z-of_z f) (sign z (rw (to_z-of_z f) at e)).1

  pub read_neg : le_z (pos 0) (to_z w32 (of_z w32 z)) ≡ false → 0 ≡ num z
  read_neg e = below_zero z (rw (to_z-of_z f) at e)

pub at_past : (t : List ℤ) (i : ℕ) → length t ≤ i → 0 ≡ cell_at t i
unfolding cell_at
at_past t i h = ap num (sym (get_or-eq_default t (pos 0) h))

-- A PLACE AFTER A STORE
pub at_same : (t : List ℤ) (i v : ℕ) → i < length t → cell_at (set t i (pos v)) i ≡ v
unfolding cell_at
at_same t i v h = ap num (get_or-set_same t i (pos v) (pos 0) h)

pub at_other : (t : List ℤ) (i j v : ℕ) → j ≢ i → cell_at (set t i (pos v)) j ≡ cell_at t j
unfolding cell_at
at_other t i j v h = ap num (get_or-set_other t i j (pos v) (pos 0) h)

-- a stored number below 2^31 is itself
pub stored : {v : ℕ} → v < 2147483648 → v % 2147483648 ≡ v
stored h = omega arith

-- THE TABLE AS A LIST OF NUMBERS
pub cells_length : (t : List ℤ) → length (cells_of t) ≡ length t
unfolding cells_of
cells_length t = length-map t num

pub cells_at : (t : List ℤ) (i : ℕ) → get_or (cells_of t) i 0 ≡ cell_at t i
unfolding cells_of cell_at
cells_at t i = get_or-map num t i (pos 0)

pub cells_set : (t : List ℤ) (i : ℕ) (z : ℤ) → cells_of (set t i z) ≡ set (cells_of t) i (num z)
unfolding cells_of
cells_set [] i z = refl
cells_set (x ∷ t) zero z = refl
cells_set (x ∷ t) (suc i) z = ap (λ (l : List ℕ). num x ∷ l) (cells_set t i z)

-- CODES
pub codes_length : (t : List ℤ) → length (codes_of t) ≡ length t
unfolding codes_of
codes_length t = length-map t (λ z. num z % 65536)

pub codes_at_lem : (t : List ℤ) (i : ℕ) → get_or (codes_of t) i 0 ≡ code_at t i
unfolding codes_of code_at cell_at
codes_at_lem t i = get_or-map (λ z. num z % 65536) t i (pos 0)

-- a list at a place: nothing at a 0 and past the end, else a code and the list after it
module _ (t : List ℤ) (i : ℕ) where
  pub list_past : length t ≤ i → list_at t i ≡ []
  unfolding list_at up_to
  list_past h = let k : length (codes_of t) ≤ i = omega (arith, codes_length t) in ap up_to (drop_of_length-le (codes_of t) k)

  here : i < length t → drop i (codes_of t) ≡ code_at t i ∷ drop (i + 1) (codes_of t)
  here h =
      let k : i < length (codes_of t) = omega (arith, codes_length t) in
      rw add-one (drop-cons (codes_of t) i 0 k ∙ ap (λ (x : ℕ). x ∷ drop (suc i) (codes_of t)) (codes_at_lem t i))

  pub list_end : code_at t i ≡ 0 → list_at t i ≡ []
  unfolding list_at up_to
  list_end e = go (leb (length t) i) refl
    where
      go : (b : Bool) → leb (length t) i ≡ b → up_to (drop i (codes_of t)) ≡ []
      go true l = list_past (leb-true (length t) i l)
      go false l =
          ap up_to (here (leb-false (length t) i l))
          ∙ ap (λ b. cond b [] (code_at t i ∷ up_to (drop (i + 1) (codes_of t)))) (eq-eqb (code_at t i) 0 e)

  pub list_more : (code_at t i ≡ 0 → ⊥) → list_at t i ≡ code_at t i ∷ list_at t (i + 1)
  unfolding list_at up_to code_at
  list_more e = go (leb (length t) i) refl
    where
      go : (b : Bool) → leb (length t) i ≡ b → up_to (drop i (codes_of t)) ≡ code_at t i ∷ up_to (drop (i + 1) (codes_of t))
      go true l = absurd (e (ap (λ n. n % 65536) (sym (at_past t i (leb-true (length t) i l)))))
      go false l =
          ap up_to (here (leb-false (length t) i l))
          ∙ ap (λ b. cond b [] (code_at t i ∷ up_to (drop (i + 1) (codes_of t)))) (ne_eqb (code_at t i) 0 e)

-- what is not 0 stands in the table
pub in_table : (t : List ℤ) (i : ℕ) → (code_at t i ≡ 0 → ⊥) → i < length t
unfolding code_at
in_table t i e = go (leb (length t) i) refl
  where
    go : (b : Bool) → leb (length t) i ≡ b → i < length t
    go true l = absurd (e (ap (λ n. n % 65536) (sym (at_past t i (leb-true (length t) i l)))))
    go false l = leb-false (length t) i l

pub code_small : (t : List ℤ) (i : ℕ) → code_at t i < 65536
unfolding code_at
code_small t i = omega arith

-- the first code of a list: what stands at the place, not 0 and below 65536; the others are the list after it
pub first_code : (t : List ℤ) (i x : ℕ) (xs : List ℕ) → list_at t i ≡ x ∷ xs → (x ≡ code_at t i) × (0 < x) × (x < 65536) × (xs ≡ list_at t (i + 1))
first_code t i x xs e = go (code_at t i) refl
  where
    go : (n : ℕ) → code_at t i ≡ n → (x ≡ code_at t i) × (0 < x) × (x < 65536) × (xs ≡ list_at t (i + 1))
    go zero z = let l = list_end t i z in cc
    go (suc n) z =
        let l = list_more t i (λ e. let w = z in omega arith) in
        let h : x ≡ code_at t i = cc in
        let k = code_small t i in
        (h, omega arith, omega arith, cc)

-- a code of a list, and the list after it, where some stand before
pub code_after : (t : List ℤ) (i : ℕ) (ys : List ℕ) (x : ℕ) (xs : List ℕ) → list_at t i ≡ ys ++ x ∷ xs → (x ≡ code_at t (i + length ys)) × (xs ≡ list_at t (i + length ys + 1))
code_after t i [] x xs e = let h = first_code t i x xs e in let z : i + 0 ≡ i = omega arith in rw z (h.0, h.3)
code_after t i (y ∷ ys) x xs e =
    let h = first_code t i y (ys ++ x ∷ xs) e in
    let z : i + suc (length ys) ≡ i + 1 + length ys = omega arith in
    rw z (code_after t (i + 1) ys x xs (sym h.3))

-- FRAMES
pub kept_self : (n : ℕ) (t : List ℤ) → Kept n t t
kept_self n t = record { long = refl; beyond = refl }

pub kept_chain : {n : ℕ} {t u v : List ℤ} → Kept n t u → Kept n u v → Kept n t v
kept_chain a b = record { long = b.long ∙ a.long; beyond = b.beyond ∙ a.beyond }

-- what is kept from a place on is kept from every later one on
pub kept_later : {n k : ℕ} {t u : List ℤ} → Kept n t u → n ≤ k → Kept k t u
kept_later {n} {k} {t} {u} a h =
    let e : n + (k - n) ≡ k = omega arith in
    record {
      long = a.long;
      beyond =
          ap (λ (i : ℕ). drop i u) (sym e) ∙ sym (drop-drop (k - n) n u) ∙ ap (drop (k - n)) a.beyond
          ∙ drop-drop (k - n) n t ∙ ap (λ (i : ℕ). drop i t) e;
    }

drop_set : (t : List ℤ) (i n : ℕ) (z : ℤ) → i < n → drop n (set t i z) ≡ drop n t
drop_set [] i n z h = refl
drop_set (x ∷ t) i zero z h = absurd (let k = h in omega arith)
drop_set (x ∷ t) zero (suc n) z h = refl
drop_set (x ∷ t) (suc i) (suc n) z h = drop_set t i n z (omega arith)

-- a store below the place
pub kept_set : {n : ℕ} {t u : List ℤ} (i : ℕ) (z : ℤ) → Kept n t u → i < n → Kept n t (set u i z)
kept_set {n} {t} {u} i z a h = record { long = length-set u i z ∙ a.long; beyond = drop_set u i n z h ∙ a.beyond }

-- MARKS: a zero that is written is there, since nothing but zero is past the end; and zeros are all zero
pub zero_there : (s : List ℕ) (i : ℕ) → get_or (set s i 0) i 0 ≡ 0
zero_there [] i = refl
zero_there (x ∷ s) zero = refl
zero_there (x ∷ s) (suc i) = zero_there s i

pub get_or_zeros : (n i : ℕ) → get_or {A = ℕ} (replicate n 0) i 0 ≡ 0
get_or_zeros zero i = refl
get_or_zeros (suc n) zero = refl
get_or_zeros (suc n) (suc i) = get_or_zeros n i
