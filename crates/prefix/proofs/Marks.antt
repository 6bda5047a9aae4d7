-- What the words of the prefix table say: quantifiers, and left and right. Assumes nothing.
use mathlib.Core.Path.{◌≡◌, refl, ap, ap₂, sym, ◌∙◌}
use mathlib.Core.Bool.{Bool, true, false, not, cond, ◌&&◌, ◌||◌}
use mathlib.Core.List.{List, [], ◌∷◌, map}
use Prim.Native.Nat.{ℕ, ◌+◌, ◌*◌, ◌%◌, ◌<◌, ◌≤◌}
use native.Mathlib.Omega.{arith}
use lib.Dec.{eqb, ltb}
use borrow.Author.Tests.{eq-eqb, ne_eqb, eqb-true, eqb-false, lt-ltb, le-ltb}
use Rattle.std.specs.List.{list_any as any}
use Rattle.rules.specs.Basics.{is_in, distinct}
use Rattle.rules.specs.Formula.{Formula, Bound, for_all, exists, bound_var, bound, is_for_all, is_exists, universal, existential, earlier, depends_on}
use Rattle.rules.proofs.Kit.{clear, by_no, and_l, and_r, not_t, or_fl, or_fr, eqb_sym}
use Rattle.prefix.specs.Prefix.{kind_of, mark_from}

kind_low : (b : Bound) → (0 < kind_of b) × (kind_of b ≤ 2)
kind_low (for_all v) = (omega arith, omega arith)
kind_low (exists v) = (omega arith, omega arith)

-- BOUND: a word that is not 0
pub mark_in : (k : ℕ) (bs : List Bound) (v : ℕ) → not (eqb (mark_from k bs v) 0) ≡ is_in (map bound_var bs) v
unfolding mark_from
mark_in k [] v = refl
mark_in k (b ∷ bs) v = go (eqb v (bound_var b)) (mark_in (k + 1) bs v)
  where
    go : (t : Bool) → not (eqb (mark_from (k + 1) bs v) 0) ≡ is_in (map bound_var bs) v
        → not (eqb (cond t (2 * k + kind_of b) (mark_from (k + 1) bs v)) 0) ≡ t || is_in (map bound_var bs) v
    go true h = ap not (ne_eqb (2 * k + kind_of b) 0 (λ e. let p = (kind_low b).0 in omega arith))
    go false h = h

-- a word that is not 0 is above twice the first position
mark_low : (k : ℕ) (bs : List Bound) (v : ℕ) → (mark_from k bs v ≡ 0 → ⊥) → 2 * k < mark_from k bs v
unfolding mark_from
mark_low k [] v h = absurd (h refl)
mark_low k (b ∷ bs) v h = go (eqb v (bound_var b)) h (mark_low (k + 1) bs v)
  where
    go : (t : Bool) → (cond t (2 * k + kind_of b) (mark_from (k + 1) bs v) ≡ 0 → ⊥)
        → ((mark_from (k + 1) bs v ≡ 0 → ⊥) → 2 * (k + 1) < mark_from (k + 1) bs v)
        → 2 * k < cond t (2 * k + kind_of b) (mark_from (k + 1) bs v)
    go true h r = let p = (kind_low b).0 in omega arith
    go false h r = let p = r h in omega arith

-- LEFT OF: a smaller word that is not 0
pub earlier_marks : (k : ℕ) (bs : List Bound) (u v : ℕ)
    → earlier (map bound_var bs) u v ≡ not (eqb (mark_from k bs u) 0) && ltb (mark_from k bs u) (mark_from k bs v)
unfolding mark_from
earlier_marks k [] u v = refl
earlier_marks k (b ∷ bs) u v =
    ap₂ (λ (x : Bool) (y : Bool). elim x as (λ _. Bool) [ true ↦ false | false ↦ elim y as (λ _. Bool) [ true ↦ is_in ws v | false ↦ earlier ws u v ] ])
    (eqb_sym (bound_var b) v) (eqb_sym (bound_var b) u)
    ∙ go (eqb v (bound_var b)) (eqb u (bound_var b)) (earlier_marks (k + 1) bs u v)
  where
    ws : List ℕ
    ws = map bound_var bs

    here : ℕ
    here = 2 * k + kind_of b

    -- the words of u and v in the rest
    wu : ℕ
    wu = mark_from (k + 1) bs u

    wv : ℕ
    wv = mark_from (k + 1) bs v

    bound_here : eqb here 0 ≡ false
    bound_here = ne_eqb here 0 (λ e. let p = (kind_low b).0 in omega arith)

    above : (n : ℕ) → (mark_from (k + 1) bs n ≡ 0 → ⊥) → here < mark_from (k + 1) bs n
    above n z = let p = (kind_low b).1 in let l = mark_low (k + 1) bs n z in omega arith

    go : (x y : Bool) → earlier ws u v ≡ not (eqb wu 0) && ltb wu wv
        → elim x as (λ _. Bool) [ true ↦ false | false ↦ elim y as (λ _. Bool) [ true ↦ is_in ws v | false ↦ earlier ws u v ] ]
        ≡ not (eqb (cond y here wu) 0) && ltb (cond y here wu) (cond x here wv)
    go true true r = sym (ap₂ (λ a b. not a && b) bound_here (le-ltb here here (omega arith)))
    go true false r = sym (test (eqb wu 0) refl)
      where
        test : (t : Bool) → eqb wu 0 ≡ t → not (eqb wu 0) && ltb wu here ≡ false
        test true e = ap (λ t. not t && ltb wu here) e
        test false e = ap₂ (λ a b. not a && b) e (le-ltb wu here (let l = above u (eqb-false wu 0 e) in omega arith))
    go false true r = sym (mark_in (k + 1) bs v) ∙ test (eqb wv 0) refl ∙ sym (ap (λ a. not a && ltb here wv) bound_here)
      where
        test : (t : Bool) → eqb wv 0 ≡ t → not (eqb wv 0) ≡ ltb here wv
        test true e = ap not e ∙ sym (le-ltb here wv (let z = eqb-true wv 0 e in omega arith))
        test false e = ap not e ∙ sym (lt-ltb here wv (above v (eqb-false wv 0 e)))
    go false false r = r

-- A KIND OF VARIABLE BY ITS WORD, for both quantifiers: `is` tests a bound variable, `says` its word
module _ (is : ℕ → Bound → Bool) (says : ℕ → Bool)
    (none : says 0 ≡ false)
    (here : (k : ℕ) (b : Bound) → is (bound_var b) b ≡ says (2 * k + kind_of b))
    (other : (v : ℕ) (b : Bound) → eqb v (bound_var b) ≡ false → is v b ≡ false) where
  absent : (bs : List Bound) (v : ℕ) → is_in (map bound_var bs) v ≡ false → any (is v) bs ≡ false
  absent [] v e = refl
  absent (b ∷ bs) v e =
      ap₂ (λ x y. x || y) (other v b (or_fl (eqb v (bound_var b)) (is_in (map bound_var bs) v) e))
      (absent bs v (or_fr (eqb v (bound_var b)) (is_in (map bound_var bs) v) e))

  present : (bs : List Bound) (v : ℕ) → any (is v) bs ≡ true → is_in (map bound_var bs) v ≡ true
  present bs v h = by_no (is_in (map bound_var bs) v) (λ e. clear h (absent bs v e))

  or_false : (t : Bool) → t || false ≡ t
  or_false true = refl
  or_false false = refl

  kind_mark : (k : ℕ) (bs : List Bound) (v : ℕ) → distinct (map bound_var bs) ≡ true → any (is v) bs ≡ says (mark_from k bs v)
  unfolding mark_from
  kind_mark k [] v d = sym none
  kind_mark k (b ∷ bs) v d =
      go (eqb v (bound_var b)) refl (kind_mark (k + 1) bs v (and_r (not (is_in (map bound_var bs) (bound_var b))) (distinct (map bound_var bs)) d))
    where
      alone : is_in (map bound_var bs) (bound_var b) ≡ false
      alone = not_t (is_in (map bound_var bs) (bound_var b)) (and_l (not (is_in (map bound_var bs) (bound_var b))) (distinct (map bound_var bs)) d)

      go : (t : Bool) → eqb v (bound_var b) ≡ t → any (is v) bs ≡ says (mark_from (k + 1) bs v)
          → is v b || any (is v) bs ≡ says (cond t (2 * k + kind_of b) (mark_from (k + 1) bs v))
      go true e r =
          let q = eqb-true v (bound_var b) e in
          ap₂ (λ x y. x || y) (ap (λ n. is n b) q ∙ here k b) (absent bs v (ap (is_in (map bound_var bs)) q ∙ alone))
          ∙ or_false (says (2 * k + kind_of b))
      go false e r = ap (λ x. x || any (is v) bs) (other v b e) ∙ r

-- what the word of a universal and of an existential looks like
abbrev pub odd : ℕ → Bool
odd x = eqb (x % 2) 1

abbrev pub even : ℕ → Bool
even x = cond (eqb x 0) false (eqb (x % 2) 0)

for_all_here : (k : ℕ) (b : Bound) → is_for_all (bound_var b) b ≡ odd (2 * k + kind_of b)
for_all_here k (for_all v) = eq-eqb v v refl ∙ sym (eq-eqb ((2 * k + 1) % 2) 1 (omega arith))
for_all_here k (exists v) = sym (ne_eqb ((2 * k + 2) % 2) 1 (λ e. omega arith))

for_all_other : (v : ℕ) (b : Bound) → eqb v (bound_var b) ≡ false → is_for_all v b ≡ false
for_all_other v (for_all w) e = e
for_all_other v (exists w) e = refl

exists_here : (k : ℕ) (b : Bound) → is_exists (bound_var b) b ≡ even (2 * k + kind_of b)
exists_here k (for_all v) =
    sym (ap₂ (λ x y. cond x false y) (ne_eqb (2 * k + 1) 0 (λ e. omega arith)) (ne_eqb ((2 * k + 1) % 2) 0 (λ e. omega arith)))
exists_here k (exists v) =
    eq-eqb v v refl
    ∙ sym (ap₂ (λ x y. cond x false y) (ne_eqb (2 * k + 2) 0 (λ e. omega arith)) (eq-eqb ((2 * k + 2) % 2) 0 (omega arith)))

exists_other : (v : ℕ) (b : Bound) → eqb v (bound_var b) ≡ false → is_exists v b ≡ false
exists_other v (for_all w) e = refl
exists_other v (exists w) e = e

module _ (f : Formula) (v : ℕ) where
  pub universal_bound : universal f v ≡ true → is_in (bound f) v ≡ true
  universal_bound = present is_for_all odd refl for_all_here for_all_other f.prefix v

  pub existential_bound : existential f v ≡ true → is_in (bound f) v ≡ true
  existential_bound = present is_exists even refl exists_here exists_other f.prefix v

module _ (f : Formula) (once : distinct (bound f) ≡ true) where
  -- UNIVERSAL: an odd word
  pub universal_mark : (v : ℕ) → universal f v ≡ odd (mark_from 0 f.prefix v)
  universal_mark v = kind_mark is_for_all odd refl for_all_here for_all_other 0 f.prefix v once

  -- EXISTENTIAL: an even word that is not 0
  pub existential_mark : (v : ℕ) → existential f v ≡ even (mark_from 0 f.prefix v)
  existential_mark v = kind_mark is_exists even refl exists_here exists_other 0 f.prefix v once

  -- THE DEPENDENCY SET, by two words of the table
  pub depends_mark : (e u : ℕ)
      → depends_on f e u ≡ odd (mark_from 0 f.prefix u) && ltb (mark_from 0 f.prefix u) (mark_from 0 f.prefix e)
  depends_mark e u = ap₂ (λ x y. x && y) (universal_mark u) (earlier_marks 0 f.prefix u e) ∙ go (odd wu) refl
    where
      wu : ℕ
      wu = mark_from 0 f.prefix u

      we : ℕ
      we = mark_from 0 f.prefix e

      go : (t : Bool) → odd wu ≡ t → t && (not (eqb wu 0) && ltb wu we) ≡ t && ltb wu we
      go true h = ap (λ x. not x && ltb wu we) (ne_eqb wu 0 (λ z. let w = eqb-true (wu % 2) 1 h in omega arith))
      go false h = refl
