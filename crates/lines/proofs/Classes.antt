-- What each class of bytes holds: only here is the definition of the classes opened. Assumes nothing.
use mathlib.Core.Path.{◌≡◌, refl, ap, sym, ◌∙◌, subst}
use mathlib.Core.Bool.{Bool, true, false, cond, ◌&&◌, ◌||◌, true≢false, false≢true}
use mathlib.Core.Logic.{◌⊎◌, inl, inr}
use Prim.Native.Nat.{ℕ, ◌<◌, ◌≤◌}
use native.Mathlib.Omega.{arith}
use lib.Dec.{eqb, leb}
use borrow.Author.Tests.{eq-eqb, ne_eqb, le-leb, leb-true, eqb-true, eqb-false}
use Rattle.lines.specs.declared.Class.{Class}
use Rattle.lines.specs.declared.Class.TheVariants.{Blank, LineEnd, Digit, Minus, Letter, Other}
use Rattle.lines.specs.Bytes.{class_of, rank, is_a}

-- THE BYTES OF A CLASS. Blanks are byte 9, byte 13 and byte 32.
abbrev pub Blanks : ℕ → Type 0
Blanks b = (b ≡ 9) ⊎ (b ≡ 13) ⊎ (b ≡ 32)

abbrev pub From : ℕ → ℕ → ℕ → Type 0
From low high b = (low ≤ b) × (b ≤ high)

abbrev pub Holds : Class → ℕ → Type 0
Holds Blank b = Blanks b
Holds LineEnd b = b ≡ 10
Holds Digit b = From 48 57 b
Holds Minus b = b ≡ 45
Holds Letter b = From 65 90 b ⊎ From 97 122 b
Holds Other b = (Blanks b → ⊥) × (b ≡ 10 → ⊥) × (From 48 57 b → ⊥) × (b ≡ 45 → ⊥) × (From 65 90 b ⊎ From 97 122 b → ⊥)

-- tests and what they say
or_true : (x y : Bool) → x || y ≡ true → (x ≡ true) ⊎ (y ≡ true)
or_true true y e = inl refl
or_true false y e = inr e

or_left : (x y : Bool) → x ≡ true → x || y ≡ true
or_left x y e = ap (λ t. t || y) e

or_right : (x y : Bool) → y ≡ true → x || y ≡ true
or_right true y e = refl
or_right false y e = e

pub and_true : (x y : Bool) → x && y ≡ true → (x ≡ true) × (y ≡ true)
and_true true y e = (refl, e)
and_true false y e = absurd (false≢true e)

never : (P : Type 0) (t : Bool) → (P → t ≡ true) → t ≡ false → P → ⊥
never P t f e p = true≢false (sym (f p) ∙ e)

untrue : (P : Type 0) (t : Bool) → (t ≡ true → P) → (P → ⊥) → t ≡ false
untrue P true f n = absurd (n (f refl))
untrue P false f n = refl

module _ (low high b : ℕ) where
  from_true : leb low b && leb b high ≡ true → From low high b
  from_true e = let k = and_true (leb low b) (leb b high) e in (leb-true low b k.0, leb-true b high k.1)

  true_from : From low high b → leb low b && leb b high ≡ true
  true_from h = ap (λ t. t && leb b high) (le-leb low b h.0) ∙ le-leb b high h.1

module _ (b : ℕ) where
  blank_true : eqb b 32 || eqb b 9 || eqb b 13 ≡ true → Blanks b
  blank_true e = go (or_true (eqb b 32 || eqb b 9) (eqb b 13) e)
    where
      go : (eqb b 32 || eqb b 9 ≡ true) ⊎ (eqb b 13 ≡ true) → Blanks b
      go (inr h) = inr (inl (eqb-true b 13 h))
      go (inl h) = on (or_true (eqb b 32) (eqb b 9) h)
        where
          on : (eqb b 32 ≡ true) ⊎ (eqb b 9 ≡ true) → Blanks b
          on (inl k) = inr (inr (eqb-true b 32 k))
          on (inr k) = inl (eqb-true b 9 k)

  true_blank : Blanks b → eqb b 32 || eqb b 9 || eqb b 13 ≡ true
  true_blank (inl h) = ap (λ n. eqb n 32 || eqb n 9 || eqb n 13) h
  true_blank (inr (inl h)) = ap (λ n. eqb n 32 || eqb n 9 || eqb n 13) h
  true_blank (inr (inr h)) = ap (λ n. eqb n 32 || eqb n 9 || eqb n 13) h

  letter_true : (leb 65 b && leb b 90) || (leb 97 b && leb b 122) ≡ true → Holds Letter b
  letter_true e = go (or_true (leb 65 b && leb b 90) (leb 97 b && leb b 122) e)
    where
      go : (leb 65 b && leb b 90 ≡ true) ⊎ (leb 97 b && leb b 122 ≡ true) → Holds Letter b
      go (inl h) = inl (from_true 65 90 b h)
      go (inr h) = inr (from_true 97 122 b h)

  true_letter : Holds Letter b → (leb 65 b && leb b 90) || (leb 97 b && leb b 122) ≡ true
  true_letter (inl h) = or_left (leb 65 b && leb b 90) (leb 97 b && leb b 122) (true_from 65 90 b h)
  true_letter (inr h) = or_right (leb 65 b && leb b 90) (leb 97 b && leb b 122) (true_from 97 122 b h)

  abbrev by_tests : Bool → Bool → Bool → Bool → Bool → Class
  by_tests v w x y z = cond v Blank (cond w LineEnd (cond x Digit (cond y Minus (cond z Letter Other))))

  -- a byte's class holds it
  pub class_holds : Holds (class_of b) b
  unfolding class_of
  class_holds =
      go (eqb b 32 || eqb b 9 || eqb b 13) refl (eqb b 10) refl (leb 48 b && leb b 57) refl (eqb b 45) refl
      ((leb 65 b && leb b 90) || (leb 97 b && leb b 122)) refl
    where
      go : (v : Bool) → eqb b 32 || eqb b 9 || eqb b 13 ≡ v → (w : Bool) → eqb b 10 ≡ w → (x : Bool) → leb 48 b && leb b 57 ≡ x
          → (y : Bool) → eqb b 45 ≡ y → (z : Bool) → (leb 65 b && leb b 90) || (leb 97 b && leb b 122) ≡ z → Holds (by_tests v w x y z) b
      go true d w e x f y g z h = blank_true d
      go false d true e x f y g z h = eqb-true b 10 e
      go false d false e true f y g z h = from_true 48 57 b f
      go false d false e false f true g z h = eqb-true b 45 g
      go false d false e false f false g true h = letter_true h
      go false d false e false f false g false h = (
        never (Blanks b) (eqb b 32 || eqb b 9 || eqb b 13) true_blank d,
        eqb-false b 10 e,
        never (From 48 57 b) (leb 48 b && leb b 57) (true_from 48 57 b) f,
        eqb-false b 45 g,
        never (Holds Letter b) ((leb 65 b && leb b 90) || (leb 97 b && leb b 122)) true_letter h,
      )

  tested : {v w x y z : Bool} → eqb b 32 || eqb b 9 || eqb b 13 ≡ v → eqb b 10 ≡ w → leb 48 b && leb b 57 ≡ x → eqb b 45 ≡ y
      → (leb 65 b && leb b 90) || (leb 97 b && leb b 122) ≡ z → class_of b ≡ by_tests v w x y z
  unfolding class_of
  tested d e f g h = rw (d, e, f, g, h)

  no_blank : (Blanks b → ⊥) → eqb b 32 || eqb b 9 || eqb b 13 ≡ false
  no_blank = untrue (Blanks b) (eqb b 32 || eqb b 9 || eqb b 13) blank_true

  no_digit : (From 48 57 b → ⊥) → leb 48 b && leb b 57 ≡ false
  no_digit = untrue (From 48 57 b) (leb 48 b && leb b 57) (from_true 48 57 b)

  pub blanks_below : Blanks b → (0 ≤ b) × (b < 33)
  blanks_below (inl h) = (omega arith, omega arith)
  blanks_below (inr (inl h)) = (omega arith, omega arith)
  blanks_below (inr (inr h)) = (omega arith, omega arith)

  above_blanks : 32 < b → Blanks b → ⊥
  above_blanks l h = omega (arith, blanks_below h)

  above_digits : 57 < b → From 48 57 b → ⊥
  above_digits l h = omega arith

  letter_low : Holds Letter b → 57 < b
  letter_low (inl h) = omega arith
  letter_low (inr h) = omega arith

-- a class that holds the byte is its class
pub class_is : (k : Class) (b : ℕ) → Holds k b → class_of b ≡ k
unfolding class_of
class_is Blank b (inl h) = ap class_of h
class_is Blank b (inr (inl h)) = ap class_of h
class_is Blank b (inr (inr h)) = ap class_of h
class_is LineEnd b h = ap class_of h
class_is Digit b h = tested b (no_blank b (above_blanks b (omega arith))) (ne_eqb b 10 (λ e. omega arith)) (true_from 48 57 b h) refl refl
class_is Minus b h = ap class_of h
class_is Letter b h =
    let l = letter_low b h in
    tested b (no_blank b (above_blanks b (omega arith))) (ne_eqb b 10 (λ e. omega arith)) (no_digit b (above_digits b l)) (ne_eqb b 45 (λ e. omega arith)) (true_letter b h)
class_is Other b h =
    tested b (no_blank b h.0) (ne_eqb b 10 h.1) (no_digit b h.2) (ne_eqb b 45 h.3)
    (untrue (Holds Letter b) ((leb 65 b && leb b 90) || (leb 97 b && leb b 122)) (letter_true b) h.4)

-- a class by its rank
ranked : ℕ → Class
ranked n = cond (eqb n 0) Blank (cond (eqb n 1) LineEnd (cond (eqb n 2) Digit (cond (eqb n 3) Minus (cond (eqb n 4) Letter Other))))

ranked_back : (k : Class) → ranked (rank k) ≡ k
unfolding ranked
ranked_back Blank = refl
ranked_back LineEnd = refl
ranked_back Digit = refl
ranked_back Minus = refl
ranked_back Letter = refl
ranked_back Other = refl

pub rank_back : (j k : Class) → rank j ≡ rank k → j ≡ k
rank_back j k e = sym (ranked_back j) ∙ ap ranked e ∙ ranked_back k

-- THE TEST OF A CLASS: true exactly of the bytes that the class holds
module _ (k : Class) (b : ℕ) where
  is_class : is_a k b ≡ true → class_of b ≡ k
  is_class e = rank_back (class_of b) k (eqb-true (rank (class_of b)) (rank k) e)

  pub is_held : is_a k b ≡ true → Holds k b
  is_held e = subst (λ j. Holds j b) (is_class e) (class_holds b)

  pub held_is : Holds k b → is_a k b ≡ true
  held_is h = ap (λ j. eqb (rank j) (rank k)) (class_is k b h) ∙ eq-eqb (rank k) (rank k) refl

  pub held_not : (Holds k b → ⊥) → is_a k b ≡ false
  held_not = untrue (Holds k b) (is_a k b) is_held

-- a byte that no test found
pub class_other : (b : ℕ) → (Blanks b → ⊥) → (b ≡ 10 → ⊥) → (b ≡ 45 → ⊥) → (From 48 57 b → ⊥) → (From 65 90 b → ⊥) → (From 97 122 b → ⊥) → class_of b ≡ Other
class_other b blank end minus digit upper lower = class_is Other b (blank, end, digit, minus, letter)
  where
    letter : Holds Letter b → ⊥
    letter (inl h) = upper h
    letter (inr h) = lower h

-- the digits by their range
pub digit_range : (b : ℕ) → leb 48 b && leb b 57 ≡ is_a Digit b
digit_range b = go (leb 48 b && leb b 57) refl
  where
    go : (t : Bool) → leb 48 b && leb b 57 ≡ t → t ≡ is_a Digit b
    go true e = sym (held_is Digit b (from_true 48 57 b e))
    go false e = sym (held_not Digit b (never (From 48 57 b) (leb 48 b && leb b 57) (true_from 48 57 b) e))
