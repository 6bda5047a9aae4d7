-- Laws of numbers. Assumes nothing.
use mathlib.Core.Path.{◌≡◌, refl, ap, sym, ◌∙◌}
use mathlib.Core.Bool.{Bool, true, false, not, cond, ◌&&◌, ◌||◌}
use mathlib.Core.List.{List, [], ◌∷◌}
use Prim.Native.Nat.{ℕ, ◌+◌, ◌*◌, ◌-◌, ◌<◌, ◌≤◌, min}
use native.Mathlib.Omega.{arith}
use lib.ListN.{length, drop, get_or}
use lib.Dec.{eqb}
use borrow.Author.Tests.{eq-eqb, ne_eqb, eqb-true}
use Rattle.std.specs.Prelude.{Option, None, Some}
use Rattle.std.specs.List.{list_all as all}
use Rattle.lines.specs.Lists.{is_empty}
use Rattle.lines.specs.Bytes.{class_of, rank, is_digit, is_minus}
use Rattle.lines.specs.Lines.{is_number, value, Token, signed}
use Rattle.lines.specs.Scan.{cap, digits_in, shown, number_in}
use Rattle.lines.specs.declared.Class.TheVariants.{Digit}
use Rattle.lines.proofs.Here.{here, past}
use Rattle.lines.proofs.Classes.{is_held, held_is}

pub digit_from : (b : ℕ) → is_digit b ≡ true → 48 ≤ b
digit_from b e = (is_held Digit b e).0

pub digit_below : (b : ℕ) → is_digit b ≡ true → b - 48 < 10
digit_below b e = omega (arith, (is_held Digit b e).1)

pub zero_digit : is_digit 48 ≡ true
zero_digit = held_is Digit 48 (omega arith, omega arith)

-- a value above the cap stays above it
capped : (v : ℕ) (bs : List ℕ) → min cap (value v bs) ≡ min cap (value (min cap v) bs)
capped v [] = omega arith
capped v (b ∷ bs) =
    capped (v * 10 + (b - 48)) bs ∙ ap (λ w. min cap (value w bs)) (omega arith) ∙ sym (capped (min cap v * 10 + (b - 48)) bs)

-- the digits so far said v
unfoldable pub on : ℕ → List ℕ → Option ℕ
on v ds = cond (all is_digit ds) (Some (min cap (value v ds))) None

and_true : (t : Bool) → t && true ≡ t
and_true true = refl
and_true false = refl

and_false : (t : Bool) → t && false ≡ false
and_false true = refl
and_false false = refl

-- a digit in front
pub on_digit : (v b : ℕ) (ds : List ℕ) {w : ℕ} → is_digit b ≡ true → w ≡ min cap (v * 10 + (b - 48)) → on v (b ∷ ds) ≡ on w ds
unfolding on
on_digit v b ds {w} e f =
    ap (λ t. cond (t && all is_digit ds) (Some (min cap (value v (b ∷ ds)))) None) e
    ∙ ap (λ x. cond (all is_digit ds) (Some x) None) (capped (v * 10 + (b - 48)) ds ∙ ap (λ x. min cap (value x ds)) (sym f))

pub on_none : (v : ℕ) → v ≤ cap → Some v ≡ on v []
unfolding on
on_none v l = ap Some (omega arith)

pub zero_alone : Some 0 ≡ digits_in (48 ∷ [])
unfolding digits_in
zero_alone = ap (λ t. cond (t && true && (not (eqb 48 48) || true)) (Some 0) None) (sym zero_digit)

pub first_on : (b : ℕ) (ds : List ℕ) → (b ≡ 48 → ⊥) → on 0 (b ∷ ds) ≡ digits_in (b ∷ ds)
unfolding digits_in on
first_on b ds e =
    ap (λ t. cond t (Some (min cap (value 0 (b ∷ ds)))) None)
    (sym (ap (λ t. is_digit b && all is_digit ds && (not t || is_empty ds)) (ne_eqb b 48 e) ∙ and_true (is_digit b && all is_digit ds)))

first_other : (b : ℕ) (ds : List ℕ) → is_digit b ≡ false → None ≡ digits_in (b ∷ ds)
unfolding digits_in
first_other b ds e = sym (ap (λ t. cond (t && all is_digit ds && (not (eqb b 48) || is_empty ds)) (Some (min cap (value 0 (b ∷ ds)))) None) e)

module _ (bs : List ℕ) (i : ℕ) where
  pub on_past : (v : ℕ) → length bs ≤ i → v ≤ cap → Some v ≡ on v (drop i bs)
  on_past v h l = rw (past bs i h) (on_none v l)

  pub on_stop : (v : ℕ) → i < length bs → is_digit (get_or bs i 0) ≡ false → None ≡ on v (drop i bs)
  unfolding on
  on_stop v h e =
      sym (ap (on v) (here bs i h) ∙ ap (λ t. cond (t && all is_digit (drop (i + 1) bs)) (Some (min cap (value v (get_or bs i 0 ∷ drop (i + 1) bs)))) None) e)

  pub on_go : (v : ℕ) {w : ℕ} → i < length bs → is_digit (get_or bs i 0) ≡ true → w ≡ min cap (v * 10 + (get_or bs i 0 - 48)) → on v (drop i bs) ≡ on w (drop (i + 1) bs)
  on_go v h e f = ap (on v) (here bs i h) ∙ on_digit v (get_or bs i 0) (drop (i + 1) bs) e f

  pub digits_none : length bs ≤ i → None ≡ digits_in (drop i bs)
  unfolding digits_in
  digits_none h = rw (past bs i h)

  pub digits_zero : i < length bs → get_or bs i 0 ≡ 48 → i + 1 ≡ length bs → Some 0 ≡ digits_in (drop i bs)
  digits_zero h e l = rw (here bs i h, e, past bs (i + 1) (omega arith)) zero_alone

  pub digits_led : i < length bs → get_or bs i 0 ≡ 48 → (i + 1 ≡ length bs → ⊥) → None ≡ digits_in (drop i bs)
  unfolding digits_in
  digits_led h e l =
      rw (here bs i h, e, here bs (i + 1) (omega arith))
      (ap (λ t. cond t (Some (min cap (value 0 (48 ∷ get_or bs (i + 1) 0 ∷ drop (i + 1 + 1) bs)))) None) (sym (and_false (is_digit 48 && all is_digit (get_or bs (i + 1) 0 ∷ drop (i + 1 + 1) bs)))))

  pub digits_on : i < length bs → (get_or bs i 0 ≡ 48 → ⊥) → on 0 (drop i bs) ≡ digits_in (drop i bs)
  digits_on h e = rw (here bs i h) (first_on (get_or bs i 0) (drop (i + 1) bs) e)

-- NUMBERS, by what the digits say
value_of : (t : Bool) (n v : ℕ) → cond t (Some (min cap n)) None ≡ Some v → (t ≡ true) × (v ≡ min cap n)
value_of true n v e = (refl, cc)
value_of false n v e = absurd (let z : ◌≡◌ {A = ℕ} 0 1 = cc in omega arith)

bad_of : (t : Bool) (n : ℕ) → cond t (Some (min cap n)) None ≡ None → t ≡ false
bad_of true n e = absurd (let z : ◌≡◌ {A = ℕ} 0 1 = cc in omega arith)
bad_of false n e = refl

module _ (w : List ℕ) {d : Option ℕ} (h : d ≡ digits_in w) where
  pub number_digits : {v : ℕ} → d ≡ Some v → Some (2 * v) ≡ number_in w
  unfolding number_in digits_in
  number_digits {v} e =
      let k = value_of (is_number w) (value 0 w) v (sym h ∙ e) in
      sym (ap (λ t. shown (cond t (Token.number (value 0 w)) (signed w))) k.0 ∙ ap (λ n. Some (2 * n)) (sym k.1))

  no_digits : d ≡ None → number_in w ≡ shown (signed w)
  unfolding number_in digits_in
  no_digits e = ap (λ t. shown (cond t (Token.number (value 0 w)) (signed w))) (bad_of (is_number w) (value 0 w) (sym h ∙ e))

  pub number_empty : d ≡ None → length w ≡ 0 → None ≡ number_in w
  number_empty e l = sym (no_digits e ∙ go w l)
    where
      go : (w : List ℕ) → length w ≡ 0 → shown (signed w) ≡ None
      go [] l = refl
      go (b ∷ bs) l = absurd (let k = l in omega arith)

  pub number_other : d ≡ None → is_minus (get_or w 0 0) ≡ false → None ≡ number_in w
  number_other e l = sym (no_digits e ∙ go w l)
    where
      go : (w : List ℕ) → is_minus (get_or w 0 0) ≡ false → shown (signed w) ≡ None
      go [] l = refl
      go (b ∷ bs) l = ap (λ t. shown (cond (t && is_number bs && not (eqb (value 0 bs) 0)) (Token.minus (value 0 bs)) (Token.word (b ∷ bs)))) l

  module _ (e : d ≡ None) (m : is_minus (get_or w 0 0) ≡ true) (l : length w ≡ 0 → ⊥) {f : Option ℕ} (g : f ≡ digits_in (drop 1 w)) where
    signs : (w : List ℕ) → is_minus (get_or w 0 0) ≡ true → (length w ≡ 0 → ⊥)
        → shown (signed w) ≡ cond (is_number (drop 1 w) && not (eqb (value 0 (drop 1 w)) 0)) (Some (2 * min cap (value 0 (drop 1 w)) + 1)) None
    signs [] m l = absurd (l refl)
    signs (b ∷ bs) m l =
        ap (λ t. shown (cond (t && is_number bs && not (eqb (value 0 bs) 0)) (Token.minus (value 0 bs)) (Token.word (b ∷ bs)))) m
        ∙ go (is_number bs && not (eqb (value 0 bs) 0))
      where
        go : (t : Bool) → shown (cond t (Token.minus (value 0 bs)) (Token.word (b ∷ bs))) ≡ cond t (Some (2 * min cap (value 0 bs) + 1)) None
        go true = refl
        go false = refl

    pub number_sign : f ≡ None → None ≡ number_in w
    unfolding digits_in
    number_sign k =
        sym (no_digits e ∙ signs w m l
        ∙ ap (λ t. cond (t && not (eqb (value 0 (drop 1 w)) 0)) (Some (2 * min cap (value 0 (drop 1 w)) + 1)) None) (bad_of (is_number (drop 1 w)) (value 0 (drop 1 w)) (sym g ∙ k)))

    pub number_minus_zero : {v : ℕ} → f ≡ Some v → v ≡ 0 → None ≡ number_in w
    unfolding digits_in
    number_minus_zero {v} k z =
        let q = value_of (is_number (drop 1 w)) (value 0 (drop 1 w)) v (sym g ∙ k) in
        sym (no_digits e ∙ signs w m l
        ∙ ap (λ t. cond (is_number (drop 1 w) && not t) (Some (2 * min cap (value 0 (drop 1 w)) + 1)) None) (eq-eqb (value 0 (drop 1 w)) 0 (omega (arith, q.1)))
        ∙ ap (λ t. cond t (Some (2 * min cap (value 0 (drop 1 w)) + 1)) None) (and_false (is_number (drop 1 w))))

    pub number_minus : {v : ℕ} → f ≡ Some v → (v ≡ 0 → ⊥) → Some (2 * v + 1) ≡ number_in w
    unfolding digits_in
    number_minus {v} k z =
        let q = value_of (is_number (drop 1 w)) (value 0 (drop 1 w)) v (sym g ∙ k) in
        sym (no_digits e ∙ signs w m l
        ∙ ap (λ t. cond (t && not (eqb (value 0 (drop 1 w)) 0)) (Some (2 * min cap (value 0 (drop 1 w)) + 1)) None) q.0
        ∙ ap (λ t. cond (not t) (Some (2 * min cap (value 0 (drop 1 w)) + 1)) None) (ne_eqb (value 0 (drop 1 w)) 0 (λ y. z (q.1 ∙ ap (min cap) y)))
        ∙ ap (λ n. Some (2 * n + 1)) (sym q.1))

-- a minus and a number other than 0
pub number_signed : (b : ℕ) (ds : List ℕ) {v : ℕ} → is_minus b ≡ true → digits_in ds ≡ Some v → (v ≡ 0 → ⊥) → Some (2 * v + 1) ≡ number_in (b ∷ ds)
number_signed b ds m f z =
    number_minus (b ∷ ds) (first_other b ds (ap (λ n. eqb n 2) (eqb-true (rank (class_of b)) 3 m))) refl m (λ l. let k = l in omega arith) refl f z

-- what is read is at most the cap
pub digits_capped : (w : List ℕ) {d : Option ℕ} {v : ℕ} → d ≡ digits_in w → d ≡ Some v → v ≤ cap
unfolding digits_in
digits_capped w {d} {v} h e = let k = value_of (is_number w) (value 0 w) v (sym h ∙ e) in omega (arith, k.1)
