-- Laws of a number that is read in one walk. Assumes nothing.
use mathlib.Core.Path.{◌≡◌, refl, ap, ap₂, sym, ◌∙◌}
use mathlib.Core.Bool.{Bool, true, false, not, cond}
use mathlib.Core.List.{List, [], ◌∷◌}
use mathlib.Core.Logic.{◌⊎◌, inl, inr}
use Prim.Native.Nat.{ℕ, suc, ◌+◌, ◌*◌, ◌-◌, ◌<◌, ◌≤◌, min}
use native.Mathlib.Omega.{arith}
use lib.ListN.{length, take, drop, get_or, get_or-eq_default}
use lib.Dec.{eqb, leb}
use borrow.Author.Tests.{eqb-true, eqb-false, ne_eqb, leb-true, leb-false}
use Rattle.std.specs.Prelude.{Option, None, Some}
use Rattle.std.specs.Bool.{then_some}
use Rattle.lines.specs.Bytes.{class_of, rank, is_blank, is_digit, is_minus}
use Rattle.lines.specs.declared.Class.TheVariants.{Minus}
use Rattle.lines.specs.declared.Run.TheVariants.{Word}
use Rattle.lines.specs.Scan.{cap, passes, run, digits_in, number_in, start_at, literal_at}
use Rattle.lines.proofs.Here.{here, pair_of}
use Rattle.lines.proofs.Classes.{held_not}
use Rattle.lines.proofs.Runs.{run_past, run_stop, run_go, starts}
use Rattle.lines.proofs.Numbers.{digit_below, on, on_digit, on_none, zero_alone, first_on, number_digits, number_signed, digits_capped}
use Rattle.lines.proofs.Words.{literal_read}

-- the word from a place on
unfoldable pub word_from : List ℕ → ℕ → List ℕ
word_from bs i = take (run (passes Word) (drop i bs)) (drop i bs)

digit_passes : (b : ℕ) → is_digit b ≡ true → passes Word b ≡ true
digit_passes b e = ap (λ n. not (eqb n 0)) (eqb-true (rank (class_of b)) 2 e)

-- the word from a place on is the number v, and e is the place after it
abbrev pub NumberAt : List ℕ → ℕ → ℕ → ℕ → Type 0
NumberAt bs from v e = (e ≡ from + run (passes Word) (drop from bs)) × (digits_in (take (e - from) (drop from bs)) ≡ Some v)

-- what the reader of a number tells
abbrev pub Tells : List ℕ → ℕ → Option (ℕ × ℕ) → Type 0
Tells bs from r = (v e : ℕ) → r ≡ Some (v, e) → NumberAt bs from v e

-- what the reader of a plain token tells
abbrev pub Says : List ℕ → ℕ → Option (ℕ × ℕ) → Type 0
Says bs at r = (x e : ℕ) → r ≡ Some (x, e) → literal_at bs at ≡ Some (x, e)

sign_small : (t : Bool) {g : ℕ} → g ≡ cond t 1 0 → g ≤ 1
sign_small true m = omega arith
sign_small false m = omega arith

module _ (bs : List ℕ) where
  -- a word ends at a blank
  pub ends_at : (i : ℕ) → i < length bs → is_blank (get_or bs i 0) ≡ eqb (run (passes Word) (drop i bs)) 0
  ends_at i h = go (is_blank (get_or bs i 0)) refl
    where
      go : (t : Bool) → is_blank (get_or bs i 0) ≡ t → t ≡ eqb (run (passes Word) (drop i bs)) 0
      go true e = sym (ap (λ n. eqb n 0) (run_stop (passes Word) bs i h (ap not e)))
      go false e = let r = run_go (passes Word) bs i h (ap not e) in sym (ne_eqb (run (passes Word) (drop i bs)) 0 (λ q. omega arith))

  pub ends_past : (i : ℕ) → length bs ≤ i → true ≡ eqb (run (passes Word) (drop i bs)) 0
  ends_past i h = sym (ap (λ n. eqb n 0) (run_past (passes Word) bs i h))

  pub ends_told : (i : ℕ) {t : Bool} → ((i < length bs) × (t ≡ is_blank (get_or bs i 0))) ⊎ ((length bs ≤ i) × (t ≡ true)) → t ≡ eqb (run (passes Word) (drop i bs)) 0
  ends_told i (inl k) = k.1 ∙ ends_at i k.0
  ends_told i (inr k) = k.1 ∙ ends_past i k.0

  word_digit : (i : ℕ) → i < length bs → is_digit (get_or bs i 0) ≡ true → word_from bs i ≡ get_or bs i 0 ∷ word_from bs (i + 1)
  unfolding word_from
  word_digit i h e = ap₂ take (run_go (passes Word) bs i h (digit_passes (get_or bs i 0) e)) (here bs i h)

  word_none : (i : ℕ) → run (passes Word) (drop i bs) ≡ 0 → word_from bs i ≡ []
  unfolding word_from
  word_none i h = ap (λ n. take n (drop i bs)) h

  module _ (from : ℕ) where
    -- the digits before i say v; if that is 0, they are a number only if the word ends here
    pub record Walked (v i : ℕ) : Type 0 where
      pub small : v < cap
      pub ends : i + run (passes Word) (drop i bs) ≡ from + run (passes Word) (drop from bs)
      pub digits : (0 < v) ⊎ (run (passes Word) (drop i bs) ≡ 0) → on v (word_from bs i) ≡ digits_in (word_from bs from)

    pub walk_first : from < length bs → is_digit (get_or bs from 0) ≡ true → Walked (get_or bs from 0 - 48) (from + 1)
    walk_first h e =
        let r = run_go (passes Word) bs from h (digit_passes (get_or bs from 0) e) in
        record {
          small = omega (arith, digit_below (get_or bs from 0) e);
          ends = omega arith;
          digits = λ k. go k (eqb (get_or bs from 0) 48) refl ∙ sym (ap digits_in (word_digit from h e));
        }
      where
        v : ℕ
        v = get_or bs from 0 - 48

        go : (0 < v) ⊎ (run (passes Word) (drop (from + 1) bs) ≡ 0) → (t : Bool) → eqb (get_or bs from 0) 48 ≡ t → on v (word_from bs (from + 1)) ≡ digits_in (get_or bs from 0 ∷ word_from bs (from + 1))
        go k false z =
            sym (on_digit 0 (get_or bs from 0) (word_from bs (from + 1)) e (omega (arith, digit_below (get_or bs from 0) e)))
            ∙ first_on (get_or bs from 0) (word_from bs (from + 1)) (eqb-false (get_or bs from 0) 48 z)
        go (inl k) true z = absurd (omega (arith, eqb-true (get_or bs from 0) 48 z))
        go (inr k) true z =
            let q = eqb-true (get_or bs from 0) 48 z in
            ap₂ (λ b w. on (b - 48) w) q (word_none (from + 1) k) ∙ sym (on_none 0 (omega arith)) ∙ zero_alone
            ∙ sym (ap₂ (λ b ds. digits_in (b ∷ ds)) q (word_none (from + 1) k))

    pub walk_on : {v i : ℕ} → Walked v i → i < length bs → is_digit (get_or bs i 0) ≡ true → (0 < v) × (v < 10000000) → Walked (v * 10 + (get_or bs i 0 - 48)) (i + 1)
    walk_on {v} {i} k h e g =
        let r = run_go (passes Word) bs i h (digit_passes (get_or bs i 0) e) in
        let d = digit_below (get_or bs i 0) e in
        let f : v * 10 + (get_or bs i 0 - 48) ≡ min cap (v * 10 + (get_or bs i 0 - 48)) = omega (arith, g.1) in
        record {
          small = omega (arith, g.1);
          ends = omega (arith, k.ends);
          digits = λ _. sym (on_digit v (get_or bs i 0) (word_from bs (i + 1)) e f) ∙ sym (ap (on v) (word_digit i h e)) ∙ k.digits (inl g.0);
        }

    tells : {v i : ℕ} → i ≡ from + run (passes Word) (drop from bs) → digits_in (word_from bs from) ≡ Some v → Tells bs from (Some (v, i))
    unfolding word_from
    tells {v} {i} k d w e q =
        let x : e - from ≡ run (passes Word) (drop from bs) = omega (arith, the_place) in
        (sym the_place ∙ k, ap (λ n. digits_in (take n (drop from bs))) x ∙ d ∙ ap Some the_value)
      where
        the_place : i ≡ e
        the_place = (pair_of q).1

        the_value : v ≡ w
        the_value = (pair_of q).0

    walk_ends : {v i : ℕ} → Walked v i → run (passes Word) (drop i bs) ≡ 0 → Tells bs from (Some (v, i))
    walk_ends {v} {i} k r =
        tells (omega (arith, k.ends)) (sym (k.digits (inr r)) ∙ ap (on v) (word_none i r) ∙ sym (on_none v (omega (arith, k.small))))

    pub walk_blank : {v i : ℕ} → Walked v i → i < length bs → is_blank (get_or bs i 0) ≡ true → Tells bs from (Some (v, i))
    walk_blank {v} {i} k h e = walk_ends k (run_stop (passes Word) bs i h (ap not e))

    pub walk_past : {v i : ℕ} → Walked v i → length bs ≤ i → Tells bs from (Some (v, i))
    walk_past {v} {i} k h = walk_ends k (run_past (passes Word) bs i h)

  -- a number is no empty word
  number_long : (from : ℕ) {v e : ℕ} → NumberAt bs from v e → run (passes Word) (drop from bs) ≡ 0 → ⊥
  unfolding digits_in
  number_long from {v} {e} k z =
      let x : e - from ≡ 0 = omega (arith, k.0) in
      let q : None ≡ Some v = sym (ap (λ n. digits_in (take n (drop from bs))) x) ∙ k.1 in
      let z : ◌≡◌ {A = ℕ} 0 1 = cc in omega arith

  number_within : (from : ℕ) {v e : ℕ} → NumberAt bs from v e → from < length bs
  number_within from {v} {e} k = go (leb (length bs) from) refl
    where
      go : (t : Bool) → leb (length bs) from ≡ t → from < length bs
      go true l = absurd (number_long from k (run_past (passes Word) bs from (leb-true (length bs) from l)))
      go false l = leb-false (length bs) from l

  -- a blank is skipped
  pub blank_skipped : (at : ℕ) → at < length bs → is_blank (get_or bs at 0) ≡ true → start_at bs (at + 1) ≡ start_at bs at
  unfolding start_at
  blank_skipped at h e = omega (arith, run_go is_blank bs at h e)

  -- past the end there is no minus
  past_end : (s : ℕ) → length bs ≤ s → is_minus (get_or bs s 0) ≡ false
  past_end s h = held_not Minus (get_or bs s 0) (λ q. omega (arith, get_or-eq_default bs 0 h))

  pub no_minus : (s : ℕ) → length bs ≤ s → ◌≡◌ {A = ℕ} 0 (cond (is_minus (get_or bs s 0)) 1 0)
  no_minus s h = sym (ap (λ t. cond t 1 0) (past_end s h))

  pub minus_told : (s : ℕ) {t : Bool} → ((s < length bs) × (t ≡ is_minus (get_or bs s 0))) ⊎ ((length bs ≤ s) × (t ≡ false)) → t ≡ is_minus (get_or bs s 0)
  minus_told s (inl k) = k.1
  minus_told s (inr k) = k.1 ∙ sym (past_end s k.0)

  -- a token that may start at s; g is its sign
  module _ (s : ℕ) {g : ℕ} (m : g ≡ cond (is_minus (get_or bs s 0)) 1 0) where
    -- the place after the sign
    pub sign_fits : {n : ℕ} → length bs ≤ n → s ≤ n → s + g ≤ n
    sign_fits {n} l k = go (leb (length bs) s) refl
      where
        go : (t : Bool) → leb (length bs) s ≡ t → s + g ≤ n
        go true h = omega (arith, m, no_minus s (leb-true (length bs) s h))
        go false h = omega (arith, leb-false (length bs) s h, sign_small (is_minus (get_or bs s 0)) m)

    -- its code fits
    pub code_fits : {v e : ℕ} → NumberAt bs (s + g) v e → 2 * v + g ≤ 2 * cap + 1
    code_fits {v} {e} k = omega (arith, digits_capped (take (e - (s + g)) (drop (s + g) bs)) refl k.1, sign_small (is_minus (get_or bs s 0)) m)

    -- it does start at s
    here_starts : {v e : ℕ} → NumberAt bs (s + g) v e → (s < length bs) × (is_blank (get_or bs s 0) ≡ false)
    here_starts {v} {e} k = (omega (arith, number_within (s + g) k), go (is_minus (get_or bs s 0)) refl m)
      where
        go : (t : Bool) → is_minus (get_or bs s 0) ≡ t → g ≡ cond t 1 0 → is_blank (get_or bs s 0) ≡ false
        go true q m = ap (λ n. eqb n 0) (eqb-true (rank (class_of (get_or bs s 0))) 3 q)
        go false q m =
            let p : s + g ≡ s = omega arith in
            let n : NumberAt bs s v e = rw p at k in
            ends_at s (number_within s n) ∙ ne_eqb (run (passes Word) (drop s bs)) 0 (number_long s n)

  -- the next token, s is its start and g its sign
  module _ (at : ℕ) {s : ℕ} (h : s ≡ at + run is_blank (drop at bs)) (l : s < length bs) where
    literal_walked : {g v e : ℕ} → g ≡ cond (is_minus (get_or bs s 0)) 1 0 → NumberAt bs (s + g) v e → g ≤ v → Some (2 * v + g, e) ≡ literal_at bs at
    literal_walked {g} {v} {e} m k z = go (is_minus (get_or bs s 0)) refl m
      where
        go : (t : Bool) → is_minus (get_or bs s 0) ≡ t → g ≡ cond t 1 0 → Some (2 * v + g, e) ≡ literal_at bs at
        go true q m =
            let p : s + g ≡ s + 1 = omega arith in
            let n : NumberAt bs (s + 1) v e = rw p at k in
            let r = run_go (passes Word) bs s l (ap not (starts bs at h l)) in
            let u : e ≡ s + run (passes Word) (drop s bs) = omega (arith, n.0) in
            let x : e - s ≡ suc (e - (s + 1)) = omega (arith, n.0) in
            let w : take (e - s) (drop s bs) ≡ get_or bs s 0 ∷ take (e - (s + 1)) (drop (s + 1) bs) = ap₂ take x (here bs s l) in
            ap (λ i. Some (2 * v + i, e)) m
            ∙ literal_read bs at h u (number_signed (get_or bs s 0) (take (e - (s + 1)) (drop (s + 1) bs)) q n.1 (λ y. omega arith) ∙ sym (ap number_in w)) refl
        go false q m =
            let p : s + g ≡ s = omega arith in
            let n : NumberAt bs s v e = rw p at k in
            let x : 2 * v + g ≡ 2 * v = omega arith in
            ap (λ i. Some (i, e)) x ∙ literal_read bs at h n.0 (number_digits (take (e - s) (drop s bs)) refl n.1) refl

  pub plain_told : (at : ℕ) {s g v e : ℕ} → s ≡ at + run is_blank (drop at bs) → g ≡ cond (is_minus (get_or bs s 0)) 1 0 → NumberAt bs (s + g) v e → {r : Option (ℕ × ℕ)} → r ≡ then_some {T = ℕ × ℕ} (leb g v) (2 * v + g, e) → Says bs at r
  plain_told at {s} {g} {v} {e} h m k {r} w x y q = go (leb g v) refl (sym w ∙ q)
    where
      go : (t : Bool) → leb g v ≡ t → then_some {T = ℕ × ℕ} t (2 * v + g, e) ≡ Some (x, y) → literal_at bs at ≡ Some (x, y)
      go true z q = sym (literal_walked at h (omega (arith, number_within (s + g) k)) m k (leb-true g v z)) ∙ q
      go false z q = absurd (let z : ◌≡◌ {A = ℕ} 0 1 = cc in omega arith)

  pub plain_walked : (at s : ℕ) {g v e : ℕ} → start_at bs s ≡ start_at bs at → g ≡ cond (is_minus (get_or bs s 0)) 1 0 → NumberAt bs (s + g) v e → g ≤ v → Says bs at (Some (2 * v + g, e))
  unfolding start_at
  plain_walked at s {g} {v} {e} a m k =
      let b = here_starts s m k in
      let h : s ≡ at + run is_blank (drop at bs) = omega (arith, run_stop is_blank bs s b.0 b.1) in
      λ z x y q. sym (literal_walked at h b.0 m k z) ∙ q
