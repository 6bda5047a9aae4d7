-- Laws of the beginning of a line, and of equal words. Assumes nothing.
use mathlib.Core.Path.{◌≡◌, refl, ap, ap₂, sym, ◌∙◌}
use mathlib.Core.Bool.{Bool, true, false, not, cond, ◌&&◌, ◌||◌}
use mathlib.Core.List.{List, [], ◌∷◌, map}
use mathlib.Core.Option.{none, some}
use Prim.Native.Nat.{ℕ, zero, suc, ◌+◌, ◌-◌, ◌<◌, ◌≤◌}
use native.Mathlib.Omega.{arith}
use lib.ListN.{length, take, drop, get_or, length-drop}
use lib.Seq.{length-take-le}
use lib.Dec.{eqb, leb}
use lib.Pointwise.{pointwise}
use borrow.Author.Tests.{eq-eqb, ne_eqb, le-leb, lt-leb, leb-true, leb-false, eqb-true, eqb-false}
use Rattle.lines.specs.Bytes.{is_blank, same_bytes}
use Rattle.lines.specs.Lines.{Token, token_of, tokens_of, read_line}
use Rattle.lines.specs.declared.Run.TheVariants.{Word}
use Rattle.lines.specs.declared.Head.{Head}
use Rattle.lines.specs.Scan.{passes, run, start_at, end_at, tokens_from, head_of}
use Rattle.lines.proofs.Here.{here}
use Rattle.lines.proofs.Runs.{run_go, none_left, skipped, starts, one_word}
use Rattle.lines.proofs.Words.{start, ends, word_long, word_within, tokens_next, the_start, the_end}

module _ (bs : List ℕ) {s : ℕ} (h : s ≡ 0 + run is_blank (drop 0 bs)) where
  abbrev pick : Bool → Bool → Head
  pick x y = cond x Head.Skipped (cond y (Head.Letter (get_or bs (start_at bs 0) 0) (end_at bs 0)) Head.Other)

  pub head_blank : length bs ≤ s → Head.Skipped ≡ head_of bs
  unfolding head_of
  head_blank l = sym (ap (λ t. pick (t || eqb (get_or bs (start_at bs 0) 0) 99) (eqb (end_at bs 0) (start_at bs 0 + 1))) (ap (leb (length bs)) (start bs 0 h) ∙ le-leb (length bs) s l))

  within : s < length bs → leb (length bs) (start_at bs 0) ≡ false
  within l = ap (leb (length bs)) (start bs 0 h) ∙ lt-leb (length bs) s l

  pub head_comment : s < length bs → get_or bs s 0 ≡ 99 → Head.Skipped ≡ head_of bs
  unfolding head_of
  head_comment l c =
      sym (ap₂ (λ t u. pick (t || u) (eqb (end_at bs 0) (start_at bs 0 + 1))) (within l)
      (ap (λ n. eqb (get_or bs n 0) 99) (start bs 0 h) ∙ eq-eqb (get_or bs s 0) 99 c))

  module _ (l : s < length bs) (c : get_or bs s 0 ≡ 99 → ⊥) {r : Bool} (k : r ≡ eqb (run (passes Word) (drop (s + 1) bs)) 0) where
    head_read : head_of bs ≡ cond (eqb (end_at bs 0) (start_at bs 0 + 1)) (Head.Letter (get_or bs (start_at bs 0) 0) (end_at bs 0)) Head.Other
    unfolding head_of
    head_read =
        ap₂ (λ t u. pick (t || u) (eqb (end_at bs 0) (start_at bs 0 + 1))) (within l)
        (ap (λ n. eqb (get_or bs n 0) 99) (start bs 0 h) ∙ ne_eqb (get_or bs s 0) 99 c)

    goes : run (passes Word) (drop s bs) ≡ suc (run (passes Word) (drop (s + 1) bs))
    goes = run_go (passes Word) bs s l (ap not (starts bs 0 h l))

    pub head_one : r ≡ true → Head.Letter (get_or bs s 0) (s + 1) ≡ head_of bs
    head_one q =
        let e : s + 1 ≡ s + run (passes Word) (drop s bs) = omega (arith, goes, eqb-true (run (passes Word) (drop (s + 1) bs)) 0 (sym k ∙ q)) in
        sym (head_read ∙ ap₂ (λ x y. cond (eqb x (y + 1)) (Head.Letter (get_or bs y 0) x) Head.Other) (ends bs 0 h e) (start bs 0 h)
        ∙ ap (λ t. cond t (Head.Letter (get_or bs s 0) (s + 1)) Head.Other) (eq-eqb (s + 1) (s + 1) refl))

    pub head_more : r ≡ false → Head.Other ≡ head_of bs
    head_more q =
        let e : ℕ = s + run (passes Word) (drop s bs) in
        let n = eqb-false (run (passes Word) (drop (s + 1) bs)) 0 (sym k ∙ q) in
        sym (head_read ∙ ap₂ (λ x y. cond (eqb x (y + 1)) (Head.Letter (get_or bs y 0) x) Head.Other) (ends bs 0 h refl) (start bs 0 h)
        ∙ ap (λ t. cond t (Head.Letter (get_or bs s 0) e) Head.Other) (ne_eqb e (s + 1) (λ y. n (omega (arith, goes)))))

-- equal words
pub same_pointwise : (a b : List ℕ) → pointwise eqb a b ≡ same_bytes a b
same_pointwise [] [] = refl
same_pointwise [] (y ∷ ys) = refl
same_pointwise (x ∷ xs) [] = refl
same_pointwise (x ∷ xs) (y ∷ ys) = ap (λ t. eqb x y && t) (same_pointwise xs ys)

-- what the beginning tells of the tokens
module _ (bs : List ℕ) where
  first_byte : (n : ℕ) (l : List ℕ) → 0 < n → get_or (take n l) 0 0 ≡ get_or l 0 0
  first_byte zero l h = absurd (let k = h in omega arith)
  first_byte (suc n) [] h = refl
  first_byte (suc n) (x ∷ l) h = refl

  read_none : length bs ≤ start_at bs 0 → read_line bs ≡ none
  read_none l = ap tokens_of (none_left bs 0 (the_start bs 0) l)

  begins : start_at bs 0 < length bs → read_line bs ≡ cond (eqb (get_or bs (start_at bs 0) 0) 99) none (some (tokens_from bs 0))
  unfolding tokens_from
  begins l =
      let s = start_at bs 0 in
      let n = run (passes Word) (drop s bs) in
      let w = skipped bs 0 (the_start bs 0) ∙ one_word bs 0 (the_start bs 0) l in
      let q : 0 < n = omega (arith, word_long bs 0 (the_start bs 0) (the_end bs 0) l, the_end bs 0) in
      let f : get_or (take n (drop s bs)) 0 0 ≡ get_or bs s 0 = first_byte n (drop s bs) q ∙ ap (λ l. get_or l 0 0) (here bs s l) in
      ap tokens_of w ∙ ap₂ (λ x y. cond (eqb x 99) none (some (map token_of y))) f (sym w)

  pub head_skipped : head_of bs ≡ Head.Skipped → read_line bs ≡ none
  unfolding head_of
  head_skipped p = go (leb (length bs) (start_at bs 0)) refl (eqb (get_or bs (start_at bs 0) 0) 99) refl (eqb (end_at bs 0) (start_at bs 0 + 1)) p
    where
      go : (t : Bool) → leb (length bs) (start_at bs 0) ≡ t → (u : Bool) → eqb (get_or bs (start_at bs 0) 0) 99 ≡ u → (v : Bool)
          → cond (t || u) Head.Skipped (cond v (Head.Letter (get_or bs (start_at bs 0) 0) (end_at bs 0)) Head.Other) ≡ Head.Skipped → read_line bs ≡ none
      go true l u c v q = read_none (leb-true (length bs) (start_at bs 0) l)
      go false l true c v q = begins (leb-false (length bs) (start_at bs 0) l) ∙ ap (λ x. cond x none (some (tokens_from bs 0))) c
      go false l false c true q = absurd (let z : ◌≡◌ {A = ℕ} 0 1 = cc in omega arith)
      go false l false c false q = absurd (let z : ◌≡◌ {A = ℕ} 0 1 = cc in omega arith)

  pub head_letter : {b e : ℕ} → head_of bs ≡ Head.Letter b e → (read_line bs ≡ some (tokens_from bs 0)) × (tokens_from bs 0 ≡ token_of (b ∷ []) ∷ tokens_from bs e) × (e ≤ length bs)
  unfolding head_of
  head_letter {b} {e} p = go (leb (length bs) (start_at bs 0)) refl (eqb (get_or bs (start_at bs 0) 0) 99) refl (eqb (end_at bs 0) (start_at bs 0 + 1)) refl p
    where
      go : (t : Bool) → leb (length bs) (start_at bs 0) ≡ t → (u : Bool) → eqb (get_or bs (start_at bs 0) 0) 99 ≡ u → (v : Bool) → eqb (end_at bs 0) (start_at bs 0 + 1) ≡ v
          → cond (t || u) Head.Skipped (cond v (Head.Letter (get_or bs (start_at bs 0) 0) (end_at bs 0)) Head.Other) ≡ Head.Letter b e
          → (read_line bs ≡ some (tokens_from bs 0)) × (tokens_from bs 0 ≡ token_of (b ∷ []) ∷ tokens_from bs e) × (e ≤ length bs)
      go true l u c v d q = absurd (let z : ◌≡◌ {A = ℕ} 0 1 = cc in omega arith)
      go false l true c v d q = absurd (let z : ◌≡◌ {A = ℕ} 0 1 = cc in omega arith)
      go false l false c false d q = absurd (let z : ◌≡◌ {A = ℕ} 0 1 = cc in omega arith)
      go false l false c true d q =
          let s : start_at bs 0 < length bs = leb-false (length bs) (start_at bs 0) l in
          let x : get_or bs (start_at bs 0) 0 ≡ b = cc in
          let y : end_at bs 0 ≡ e = cc in
          let n : end_at bs 0 - start_at bs 0 ≡ 1 = omega (arith, eqb-true (end_at bs 0) (start_at bs 0 + 1) d) in (
            begins s ∙ ap (λ x. cond x none (some (tokens_from bs 0))) c,
            tokens_next bs 0 (the_start bs 0) (the_end bs 0) s
                ∙ ap₂ (λ w k. token_of w ∷ tokens_from bs k) (ap₂ take n (here bs (start_at bs 0) s) ∙ ap (λ k. k ∷ []) x) y,
            omega (arith, word_within bs 0 (the_start bs 0) (the_end bs 0) s),
          )

  pub head_other : head_of bs ≡ Head.Other → (w : List ℕ) × (ts : List Token) × (read_line bs ≡ some (tokens_from bs 0)) × (tokens_from bs 0 ≡ token_of w ∷ ts) × (length w ≡ 1 → ⊥)
  unfolding head_of
  head_other p = go (leb (length bs) (start_at bs 0)) refl (eqb (get_or bs (start_at bs 0) 0) 99) refl (eqb (end_at bs 0) (start_at bs 0 + 1)) refl p
    where
      go : (t : Bool) → leb (length bs) (start_at bs 0) ≡ t → (u : Bool) → eqb (get_or bs (start_at bs 0) 0) 99 ≡ u → (v : Bool) → eqb (end_at bs 0) (start_at bs 0 + 1) ≡ v
          → cond (t || u) Head.Skipped (cond v (Head.Letter (get_or bs (start_at bs 0) 0) (end_at bs 0)) Head.Other) ≡ Head.Other
          → (w : List ℕ) × (ts : List Token) × (read_line bs ≡ some (tokens_from bs 0)) × (tokens_from bs 0 ≡ token_of w ∷ ts) × (length w ≡ 1 → ⊥)
      go true l u c v d q = absurd (let z : ◌≡◌ {A = ℕ} 0 1 = cc in omega arith)
      go false l true c v d q = absurd (let z : ◌≡◌ {A = ℕ} 0 1 = cc in omega arith)
      go false l false c true d q = absurd (let z : ◌≡◌ {A = ℕ} 0 1 = cc in omega arith)
      go false l false c false d q =
          let s : start_at bs 0 < length bs = leb-false (length bs) (start_at bs 0) l in
          let e : end_at bs 0 ≤ length bs = word_within bs 0 (the_start bs 0) (the_end bs 0) s in
          let g : start_at bs 0 < end_at bs 0 = word_long bs 0 (the_start bs 0) (the_end bs 0) s in
          let f : end_at bs 0 - start_at bs 0 ≤ length (drop (start_at bs 0) bs) = omega (arith, length-drop (start_at bs 0) bs) in (
            take (end_at bs 0 - start_at bs 0) (drop (start_at bs 0) bs),
            tokens_from bs (end_at bs 0),
            begins s ∙ ap (λ x. cond x none (some (tokens_from bs 0))) c,
            tokens_next bs 0 (the_start bs 0) (the_end bs 0) s,
            λ k. eqb-false (end_at bs 0) (start_at bs 0 + 1) d (omega (arith, length-take-le (end_at bs 0 - start_at bs 0) (drop (start_at bs 0) bs) f)),
          )
