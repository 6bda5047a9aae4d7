-- The rule of a table, from one test that is computed over all its entries. Assumes nothing.
use mathlib.Core.Path.{◌≡◌, refl, ap, ap₂, sym, ◌∙◌}
use mathlib.Core.Bool.{Bool, true, false, ◌&&◌, ◌||◌}
use mathlib.Core.List.{List, [], ◌∷◌}
use Prim.Native.Nat.{ℕ, zero, suc, ◌+◌, ◌<◌, ◌≤◌}
use native.Mathlib.Omega.{arith}
use lib.ListN.{length, get_or}
use lib.Dec.{eqb, leb, ltb}
use borrow.Author.Tests.{eqb-true, eqb-false, leb-true, ltb-true, ltb-false, lt-ltb, le-ltb, le-leb}
use Rattle.lines.specs.Bytes.{class_of, rank, is_a, Ranked, among_entries}
use Rattle.lines.specs.declared.Class.{Class}
use Rattle.lines.specs.declared.Class.TheVariants.{Blank, LineEnd, Digit, Minus, Letter, Other}
use Rattle.lines.specs.contracts.Class.{the_type}
use denote.Enum.Bare.{sameb}
use denote.Enum.Declared.{tag_of}
use Rattle.lines.proofs.Classes.{Holds, and_true, is_held, rank_back}

module _ (f : ℕ → Class) where
  -- each entry is what f says of its place, counted from i
  abbrev entries : ℕ → List Class → Bool
  entries i [] = true
  entries i (x ∷ xs) = eqb (rank x) (rank (f i)) && entries (suc i) xs

  entry_from : (i : ℕ) (xs : List Class) → entries i xs ≡ true → (k : ℕ) → k < length xs → get_or xs k Blank ≡ f (i + k)
  entry_from i [] e k h = absurd (let g = h in omega arith)
  entry_from i (x ∷ xs) e zero h =
      let z : i ≡ i + 0 = omega arith in
      rank_back x (f i) (eqb-true (rank x) (rank (f i)) (and_true (eqb (rank x) (rank (f i))) (entries (suc i) xs) e).0) ∙ ap f z
  entry_from i (x ∷ xs) e (suc k) h =
      let z : suc i + k ≡ i + suc k = omega arith in
      entry_from (suc i) xs (and_true (eqb (rank x) (rank (f i))) (entries (suc i) xs) e).1 k (omega arith) ∙ ap f z

  pub entry : (xs : List Class) → entries 0 xs ≡ true → (k : ℕ) → k < length xs → get_or xs k Blank ≡ f k
  entry xs e k h = let z : 0 + k ≡ k = omega arith in entry_from 0 xs e k h ∙ ap f z

-- THE RULE OF THE CLASS TABLE: a table of 256 entries that passes the test holds each byte's class
pub table_ranked : (t : List Class) → length t ≡ 256 → entries class_of 0 t ≡ true → Ranked t
unfolding Ranked
table_ranked t n e b h = entry class_of t e b (omega arith)

-- a byte's class, by the table
pub told : (t : List Class) → Ranked t → (b : ℕ) → b < 256 → get_or t b Blank ≡ class_of b
unfolding Ranked
told t r b h = r b h

-- `==` on classes compares their ranks
tag_rank : (k : Class) → tag_of the_type k ≡ rank k
tag_rank Blank = refl
tag_rank LineEnd = refl
tag_rank Digit = refl
tag_rank Minus = refl
tag_rank Letter = refl
tag_rank Other = refl

pub same_rank : (j k : Class) → sameb the_type j k ≡ eqb (rank j) (rank k)
same_rank j k = ap₂ eqb (tag_rank j) (tag_rank k)

-- A CLASS AMONG SOME ENTRIES of the table
or_none : (x : Bool) → x || false ≡ x
or_none true = refl
or_none false = refl

and_none : (x y : Bool) → x && (y && false) ≡ false
and_none true true = refl
and_none true false = refl
and_none false y = refl

module _ (k : Class) (low b : ℕ) where
  pub among_none : false ≡ among_entries k low low b
  unfolding among_entries
  among_none = go (leb low b) refl
    where
      go : (x : Bool) → leb low b ≡ x → false ≡ x && (ltb b low && eqb (rank (class_of b)) (rank k))
      go true e = sym (ap (λ y. y && eqb (rank (class_of b)) (rank k)) (le-ltb b low (leb-true low b e)))
      go false e = refl

  -- one entry more
  pub among_more : (t : List Class) → Ranked t → (i : ℕ) → low ≤ i → i < 256 → {f : Bool} → f ≡ among_entries k low i b
      → {g : Bool} → g ≡ eqb (rank (get_or t i Blank)) (rank k) → f || (eqb b i && g) ≡ among_entries k low (i + 1) b
  unfolding among_entries
  among_more t r i l h {f} q {g} n = ap (λ g. f || (eqb b i && g)) n ∙ go (eqb b i) refl
    where
      go : (e : Bool) → eqb b i ≡ e → f || (e && eqb (rank (get_or t i Blank)) (rank k)) ≡ leb low b && (ltb b (i + 1) && eqb (rank (class_of b)) (rank k))
      go true e =
          let p : b ≡ i = eqb-true b i e in
          let a : leb low b ≡ true = le-leb low b (omega arith) in
          let v : ltb b i ≡ false = le-ltb b i (omega arith) in
          let w : ltb b (i + 1) ≡ true = lt-ltb b (i + 1) (omega arith) in
          let z : f ≡ false = q ∙ ap₂ (λ x y. x && (y && eqb (rank (class_of b)) (rank k))) a v in
          ap (λ x. x || eqb (rank (get_or t i Blank)) (rank k)) z ∙ ap (λ c. eqb (rank c) (rank k)) (told t r i h ∙ ap class_of (sym p))
          ∙ sym (ap₂ (λ x y. x && (y && eqb (rank (class_of b)) (rank k))) a w)
      go false e = or_none f ∙ q ∙ ap (λ y. leb low b && (y && eqb (rank (class_of b)) (rank k))) (at (ltb b (i + 1)) refl)
        where
          at : (x : Bool) → ltb b (i + 1) ≡ x → ltb b i ≡ x
          at true w = let n = eqb-false b i e in lt-ltb b i (omega (arith, n, ltb-true b (i + 1) w))
          at false w = le-ltb b i (omega (arith, ltb-false b (i + 1) w))

-- a class is told by the entries that can hold it
pub among_all : (c : Class) (low high b : ℕ) → (Holds c b → (low ≤ b) × (b < high)) → {r : Bool} → r ≡ among_entries c low high b → r ≡ is_a c b
unfolding among_entries
among_all c low high b f {r} q = q ∙ go (is_a c b) refl
  where
    go : (x : Bool) → is_a c b ≡ x → leb low b && (ltb b high && x) ≡ x
    go true e = let h = f (is_held c b e) in ap₂ (λ x y. x && (y && true)) (le-leb low b h.0) (lt-ltb b high h.1)
    go false e = and_none (leb low b) (ltb b high)
