-- Laws of words and tokens from a place on. Assumes nothing.
use mathlib.Core.Path.{◌≡◌, refl, ap, ap₂, sym, ◌∙◌}
use mathlib.Core.Bool.{Bool, true, false, not, cond, ◌&&◌, false≢true}
use mathlib.Core.List.{List, [], ◌∷◌, map}
use mathlib.Core.Logic.{◌⊎◌, inl, inr}
use Prim.Native.Nat.{ℕ, ◌+◌, ◌*◌, ◌-◌, ◌<◌, ◌≤◌, min}
use native.Mathlib.Omega.{arith}
use lib.ListN.{length, take, drop, length-drop}
use lib.Dec.{eqb, leb, ltb}
use borrow.Author.Tests.{lt-ltb, le-ltb, leb-true, leb-false, ltb-true, ltb-false, eqb-true, eqb-false, not-true}
use Rattle.std.specs.Bool.{then_some}
use Rattle.std.specs.Prelude.{Option, None, Some}
use Rattle.lines.specs.Lists.{is_empty}
use Rattle.lines.specs.Bytes.{is_blank, is_minus, same_bytes}
use Rattle.lines.specs.Lines.{is_number, value, signed, words_of, Token, number, minus, word, token_of}
use Rattle.lines.specs.declared.Run.TheVariants.{Word}
use Rattle.lines.specs.Scan.{cap, passes, run, shown, number_in, start_at, end_at, word_at, tokens_from, ended_at, literal_of, literal_at, word_is}
use Rattle.lines.proofs.Here.{past, pair_of}
use Rattle.lines.proofs.Runs.{run_le, run_go, none_left, skipped, starts, one_word}

-- what a token is, by what it shows
shown_literal : (t : Token) (e x : ℕ) → shown t ≡ Some x → literal_of t e ≡ Some (x, e)
shown_literal (number n) e x p = let q : 2 * min cap n ≡ x = cc in ap (λ y. Some (y, e)) q
shown_literal (minus n) e x p = let q : 2 * min cap n + 1 ≡ x = cc in ap (λ y. Some (y, e)) q
shown_literal (word w) e x p = absurd (let z : ◌≡◌ {A = ℕ} 0 1 = cc in omega arith)

bad_literal : (t : Token) (e : ℕ) → shown t ≡ None → literal_of t e ≡ None
bad_literal (number n) e p = absurd (let z : ◌≡◌ {A = ℕ} 0 1 = cc in omega arith)
bad_literal (minus n) e p = absurd (let z : ◌≡◌ {A = ℕ} 0 1 = cc in omega arith)
bad_literal (word w) e p = refl

module _ (bs : List ℕ) (at : ℕ) {s : ℕ} (h : s ≡ at + run is_blank (drop at bs)) where
  pub start : start_at bs at ≡ s
  unfolding start_at
  start = sym h

  no_word : length bs ≤ s → word_at bs at ≡ []
  unfolding word_at run
  no_word l = rw (start, past bs s l)

  pub tokens_end : length bs ≤ s → tokens_from bs at ≡ []
  unfolding tokens_from
  tokens_end l = ap (map token_of) (none_left bs at h l)

  pub code_none : length bs ≤ s → None ≡ number_in (word_at bs at)
  unfolding number_in
  code_none l = sym (ap (λ w. shown (token_of w)) (no_word l))

  pub literal_none : length bs ≤ s → None ≡ literal_at bs at
  unfolding literal_at
  literal_none l = sym (ap (λ w. literal_of (token_of w) (end_at bs at)) (no_word l))

  module _ {e : ℕ} (k : e ≡ s + run (passes Word) (drop s bs)) where
    pub ends : end_at bs at ≡ e
    unfolding end_at
    ends = ap (λ n. n + run (passes Word) (drop n bs)) start ∙ sym k

    the_word_lem : word_at bs at ≡ take (e - s) (drop s bs)
    unfolding word_at
    the_word_lem = let q : run (passes Word) (drop s bs) ≡ e - s = omega arith in ap (λ n. take (run (passes Word) (drop n bs)) (drop n bs)) start ∙ ap (λ n. take n (drop s bs)) q

    pub code_read : {n : Option ℕ} → n ≡ number_in (take (e - s) (drop s bs)) → n ≡ number_in (word_at bs at)
    code_read f = f ∙ ap number_in (sym the_word_lem)

    pub word_within : s < length bs → e ≤ length bs
    word_within l = omega (arith, run_le (passes Word) (drop s bs), length-drop s bs)

    pub word_long : s < length bs → s < e
    word_long l = omega (arith, run_go (passes Word) bs s l (ap not (starts bs at h l)))

    pub tokens_next : s < length bs → tokens_from bs at ≡ token_of (take (e - s) (drop s bs)) ∷ tokens_from bs e
    unfolding tokens_from
    tokens_next l =
        let q : run (passes Word) (drop s bs) ≡ e - s = omega arith in
        ap (map token_of) (skipped bs at h ∙ one_word bs at h l)
        ∙ ap₂ (λ x y. token_of (take x (drop s bs)) ∷ map token_of (words_of (drop y bs))) q (sym k)

    module _ {n : Option ℕ} (f : n ≡ number_in (take (e - s) (drop s bs))) where
      is_shown : n ≡ shown (token_of (take (e - s) (drop s bs)))
      unfolding number_in
      is_shown = f

      literal_is : literal_at bs at ≡ literal_of (token_of (take (e - s) (drop s bs))) e
      unfolding literal_at
      literal_is = ap₂ (λ w n. literal_of (token_of w) n) the_word_lem ends

      pub literal_read : {x : ℕ} → n ≡ Some x → Some (x, e) ≡ literal_at bs at
      literal_read {x} g = sym (literal_is ∙ shown_literal (token_of (take (e - s) (drop s bs))) e x (sym is_shown ∙ g))

      pub literal_other : n ≡ None → None ≡ literal_at bs at
      literal_other g = sym (literal_is ∙ bad_literal (token_of (take (e - s) (drop s bs))) e (sym is_shown ∙ g))

    pub word_told : {r : Bool} (w : List ℕ) → s < length bs → r ≡ same_bytes (take (e - s) (drop s bs)) w → then_some r e ≡ word_is bs at w
    unfolding word_is
    word_told {r} w l f =
        let q : same_bytes (word_at bs at) w ≡ r = ap (λ x. same_bytes x w) the_word_lem ∙ sym f in
        sym (ap₂ (λ x y. cond (x && y) (Some (end_at bs at)) None) (ap (λ n. ltb n (length bs)) start ∙ lt-ltb s (length bs) l) q ∙ ap (λ n. cond r (Some n) None) ends ∙ go r)
      where
        go : (t : Bool) → cond t (Some e) None ≡ then_some t e
        go true = refl
        go false = refl

  pub word_none : (w : List ℕ) → length bs ≤ s → None ≡ word_is bs at w
  unfolding word_is
  word_none w l = sym (ap (λ x. cond (x && same_bytes (word_at bs at) w) (Some (end_at bs at)) None) (ap (λ n. ltb n (length bs)) start ∙ le-ltb s (length bs) l))

  pub ended_is : leb (length bs) s ≡ ended_at bs at
  unfolding ended_at
  ended_is = go (leb (length bs) s) refl
    where
      go : (t : Bool) → leb (length bs) s ≡ t → t ≡ is_empty (tokens_from bs at)
      go true e = sym (ap is_empty (tokens_end (leb-true (length bs) s e)))
      go false e = sym (ap is_empty (tokens_next refl (leb-false (length bs) s e)))

and_left : (a b : Bool) → a && b ≡ true → a ≡ true
and_left true b e = refl
and_left false b e = e

and_right : (a b : Bool) → a && b ≡ true → b ≡ true
and_right true b e = e
and_right false b e = absurd (false≢true e)

pub same_bytes_lem : (v w : List ℕ) → same_bytes v w ≡ true → v ≡ w
same_bytes_lem [] [] e = refl
same_bytes_lem [] (y ∷ ys) e = absurd (false≢true e)
same_bytes_lem (x ∷ xs) [] e = absurd (false≢true e)
same_bytes_lem (x ∷ xs) (y ∷ ys) e = ap₂ (λ a b. a ∷ b) (eqb-true x y (and_left (eqb x y) (same_bytes xs ys) e)) (same_bytes_lem xs ys (and_right (eqb x y) (same_bytes xs ys) e))

-- what the reader of a literal tells of the tokens
abbrev pub Coded : Token → ℕ → Type 0
Coded (number n) x = x ≡ 2 * min cap n
Coded (minus n) x = (x ≡ 2 * min cap n + 1) × (n ≡ 0 → ⊥)
Coded (word w) x = ⊥

pub record Told (bs : List ℕ) (at x e : ℕ) : Type 0 where
  pub token : Token
  pub first : tokens_from bs at ≡ token ∷ tokens_from bs e
  pub code : Coded token x
  pub further : at < e
  pub within : e ≤ length bs

pub never_zero : (w : List ℕ) (n : ℕ) → token_of w ≡ minus n → n ≡ 0 → ⊥
never_zero w n e z = go w (past_number (is_number w) e)
  where
    past_number : (t : Bool) → cond t (number (value 0 w)) (signed w) ≡ minus n → signed w ≡ minus n
    past_number true e = absurd (let z : ◌≡◌ {A = ℕ} 0 1 = cc in omega arith)
    past_number false e = e

    test : (v : ℕ) (r : List ℕ) (x t : Bool) → x && not (eqb v 0) ≡ t → cond t (minus v) (word r) ≡ minus n → ⊥
    test v r x true a p = let q : v ≡ n = cc in eqb-false v 0 (not-true (eqb v 0) (and_right x (not (eqb v 0)) a)) (q ∙ z)
    test v r x false a p = let z : ◌≡◌ {A = ℕ} 0 1 = cc in omega arith

    go : (w : List ℕ) → signed w ≡ minus n → ⊥
    go [] p = let z : ◌≡◌ {A = ℕ} 0 1 = cc in omega arith
    go (b ∷ bs) p = test (value 0 bs) (b ∷ bs) (is_minus b && is_number bs) (is_minus b && is_number bs && not (eqb (value 0 bs) 0)) refl p

literal_code : (t : Token) (x e y : ℕ) → ((n : ℕ) → t ≡ minus n → n ≡ 0 → ⊥) → literal_of t e ≡ Some (x, y) → Coded t x × (e ≡ y)
literal_code (number n) x e y f p = let q = pair_of p in (sym q.0, q.1)
literal_code (minus n) x e y f p = let q = pair_of p in ((sym q.0, f n refl), q.1)
literal_code (word w) x e y f p = absurd (let z : ◌≡◌ {A = ℕ} 0 1 = cc in omega arith)

module _ (bs : List ℕ) (at : ℕ) where
  after_start : at ≤ start_at bs at
  unfolding start_at
  after_start = omega arith

  pub the_start : start_at bs at ≡ at + run is_blank (drop at bs)
  unfolding start_at
  the_start = refl

  pub the_end : end_at bs at ≡ start_at bs at + run (passes Word) (drop (start_at bs at) bs)
  unfolding end_at
  the_end = refl

  -- the next token, by its code and its end
  pub literal_by_code : {n : Option ℕ} → n ≡ number_in (word_at bs at) → n ≡ None → None ≡ literal_at bs at
  literal_by_code f = literal_other bs at the_start the_end (f ∙ ap number_in (the_word_lem bs at the_start the_end))

  pub literal_by_both : {n : Option ℕ} {x e : ℕ} → n ≡ number_in (word_at bs at) → e ≡ end_at bs at → n ≡ Some x → Some (x, e) ≡ literal_at bs at
  literal_by_both {n} {x} f k g = ap (λ e. Some (x, e)) k ∙ literal_read bs at the_start the_end (f ∙ ap number_in (the_word_lem bs at the_start the_end)) g

  pub literal_told : {x e : ℕ} → literal_at bs at ≡ Some (x, e) → Told bs at x e
  unfolding literal_at
  literal_told {x} {e} p = go (leb (length bs) (start_at bs at)) refl
    where
      go : (t : Bool) → leb (length bs) (start_at bs at) ≡ t → Told bs at x e
      go true l = absurd (let q = literal_none bs at the_start (leb-true (length bs) (start_at bs at) l) in let z : ◌≡◌ {A = ℕ} 0 1 = cc in omega arith)
      go false l =
          let s : start_at bs at < length bs = leb-false (length bs) (start_at bs at) l in
          let k = literal_code (token_of (word_at bs at)) x (end_at bs at) e (never_zero (word_at bs at)) p in
          let w = word_long bs at the_start the_end s in
          let v = word_within bs at the_start the_end s in
          record {
            token = token_of (word_at bs at);
            first = tokens_next bs at the_start the_end s ∙ ap₂ (λ x y. token_of x ∷ tokens_from bs y) (sym (the_word_lem bs at the_start the_end)) k.1;
            code = k.0;
            further = omega (arith, after_start, k.1);
            within = omega (arith, k.1);
          }

  pub literal_lost : literal_at bs at ≡ None → (tokens_from bs at ≡ []) ⊎ ((w : List ℕ) × (ts : List Token) × (tokens_from bs at ≡ word w ∷ ts))
  unfolding literal_at
  literal_lost p = go (leb (length bs) (start_at bs at)) refl
    where
      bad : (t : Token) → literal_of t (end_at bs at) ≡ None → (w : List ℕ) × (t ≡ word w)
      bad (number n) e = absurd (let z : ◌≡◌ {A = ℕ} 0 1 = cc in omega arith)
      bad (minus n) e = absurd (let z : ◌≡◌ {A = ℕ} 0 1 = cc in omega arith)
      bad (word w) e = (w, refl)

      go : (t : Bool) → leb (length bs) (start_at bs at) ≡ t → (tokens_from bs at ≡ []) ⊎ ((w : List ℕ) × (ts : List Token) × (tokens_from bs at ≡ word w ∷ ts))
      go true l = inl (tokens_end bs at the_start (leb-true (length bs) (start_at bs at) l))
      go false l =
          let k = bad (token_of (word_at bs at)) p in
          inr (
            k.0,
            tokens_from bs (end_at bs at),
            tokens_next bs at the_start the_end (leb-false (length bs) (start_at bs at) l)
                ∙ ap (λ t. t ∷ tokens_from bs (end_at bs at)) (ap token_of (sym (the_word_lem bs at the_start the_end)) ∙ k.1),
          )

  -- a word that was found
  pub word_found : (w : List ℕ) {e : ℕ} → word_is bs at w ≡ Some e → (tokens_from bs at ≡ token_of w ∷ tokens_from bs e) × (e ≤ length bs)
  unfolding word_is
  word_found w {e} p = go (ltb (start_at bs at) (length bs)) refl (same_bytes (word_at bs at) w) refl p
    where
      go : (t : Bool) → ltb (start_at bs at) (length bs) ≡ t → (u : Bool) → same_bytes (word_at bs at) w ≡ u → cond (t && u) (Some (end_at bs at)) None ≡ Some e
          → (tokens_from bs at ≡ token_of w ∷ tokens_from bs e) × (e ≤ length bs)
      go false l u f q = absurd (let z : ◌≡◌ {A = ℕ} 0 1 = cc in omega arith)
      go true l false f q = absurd (let z : ◌≡◌ {A = ℕ} 0 1 = cc in omega arith)
      go true l true f q =
          let s : start_at bs at < length bs = ltb-true (start_at bs at) (length bs) l in
          let k : end_at bs at ≡ e = cc in
          let v = word_within bs at the_start the_end s in
          (tokens_next bs at the_start the_end s ∙ ap₂ (λ x y. token_of x ∷ tokens_from bs y) (sym (the_word_lem bs at the_start the_end) ∙ same_bytes_lem (word_at bs at) w f) k, omega arith)

  pub word_missed : (w : List ℕ) → word_is bs at w ≡ None → (tokens_from bs at ≡ []) ⊎ ((v : List ℕ) × (ts : List Token) × (tokens_from bs at ≡ token_of v ∷ ts) × (same_bytes v w ≡ false))
  unfolding word_is
  word_missed w p = go (ltb (start_at bs at) (length bs)) refl (same_bytes (word_at bs at) w) refl p
    where
      go : (t : Bool) → ltb (start_at bs at) (length bs) ≡ t → (u : Bool) → same_bytes (word_at bs at) w ≡ u → cond (t && u) (Some (end_at bs at)) None ≡ None
          → (tokens_from bs at ≡ []) ⊎ ((v : List ℕ) × (ts : List Token) × (tokens_from bs at ≡ token_of v ∷ ts) × (same_bytes v w ≡ false))
      go false l u f q = inl (tokens_end bs at the_start (ltb-false (start_at bs at) (length bs) l))
      go true l false f q =
          let s : start_at bs at < length bs = ltb-true (start_at bs at) (length bs) l in
          inr (word_at bs at, tokens_from bs (end_at bs at), tokens_next bs at the_start the_end s ∙ ap (λ x. token_of x ∷ tokens_from bs (end_at bs at)) (sym (the_word_lem bs at the_start the_end)), f)
      go true l true f q = absurd (let z : ◌≡◌ {A = ℕ} 0 1 = cc in omega arith)
