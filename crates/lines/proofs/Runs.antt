-- Laws of runs: lines and words. Assumes nothing.
use mathlib.Core.Path.{◌≡◌, refl, ap, ap₂, sym, ◌∙◌}
use mathlib.Core.Bool.{Bool, true, false, not, cond, ◌&&◌, ◌||◌, true≢false}
use mathlib.Core.List.{List, [], ◌∷◌, ◌++◌}
use mathlib.Core.Logic.{◌⊎◌, inl, inr}
use lib.Dec.{eqb, leb}
use borrow.Author.Tests.{eqb-false, leb-true, leb-false}
use Rattle.lines.specs.declared.Class.TheVariants.{LineEnd}
use Rattle.lines.proofs.Classes.{held_not, and_true}
use Prim.Native.Nat.{ℕ, zero, suc, ◌+◌, ◌-◌, ◌<◌, ◌≤◌, max}
use native.Mathlib.Omega.{arith}
use lib.ListN.{length, take, drop, get_or, length-drop, length-append}
use lib.Seq.{drop-drop, drop-append_seam, get_or-drop}
use Rattle.std.specs.List.{filter as keep}
use Rattle.lines.specs.Lists.{is_empty}
use Rattle.lines.specs.Bytes.{is_line_end, is_blank}
use Rattle.lines.specs.Lines.{split, longer, lines_of, words_of}
use Rattle.lines.specs.declared.Run.TheVariants.{Line, Word}
use Rattle.lines.specs.Scan.{passes, run}
use Rattle.std.specs.Prelude.{fold}
use Rattle.std.proofs.lemmas.List.{take_rest}
use Rattle.lines.proofs.Here.{here, past}

module _ (p : ℕ → Bool) where
  pub run_le : (bs : List ℕ) → run p bs ≤ length bs
  unfolding run
  run_le [] = omega arith
  run_le (b ∷ bs) = go (p b) (run_le bs)
    where
      go : (t : Bool) → run p bs ≤ length bs → cond t (suc (run p bs)) 0 ≤ suc (length bs)
      go true h = omega arith
      go false h = omega arith

  module _ (bs : List ℕ) (i : ℕ) where
    pub run_past : length bs ≤ i → run p (drop i bs) ≡ 0
    unfolding run
    run_past h = rw (past bs i h)

    pub run_stop : i < length bs → p (get_or bs i 0) ≡ false → run p (drop i bs) ≡ 0
    unfolding run
    run_stop h e = rw (here bs i h, e)

    -- the run is at its end
    pub none_past : length bs ≤ i → i ≡ i + run p (drop i bs)
    none_past h = omega (arith, run_past h)

    pub none_here : i < length bs → p (get_or bs i 0) ≡ false → i ≡ i + run p (drop i bs)
    none_here h e = omega (arith, run_stop h e)

    pub run_go : i < length bs → p (get_or bs i 0) ≡ true → run p (drop i bs) ≡ suc (run p (drop (i + 1) bs))
    unfolding run
    run_go h e = rw (here bs i h, e)

-- a walk from a place on, which stands at i, passed all that is left: it ends at the end, or where it began beyond it
pub run_whole : (p : ℕ → Bool) (bs : List ℕ) (at : ℕ) {i r : ℕ} → at + run p (drop at bs) ≡ i + run p (drop i bs) → length bs ≤ i → (at ≤ length bs → i ≤ length bs)
    → r ≡ max at (length bs) → r ≡ at + run p (drop at bs)
run_whole p bs at {i} {r} e l h q = go (leb (length bs) at) refl
  where
    go : (t : Bool) → leb (length bs) at ≡ t → r ≡ at + run p (drop at bs)
    go true f = let k = leb-true (length bs) at f in let z = run_past p bs at k in omega arith
    go false f = let k = leb-false (length bs) at f in let m = h (omega arith) in let z = run_past p bs i l in omega arith

pub or_false : (x y : Bool) → x || y ≡ false → (x ≡ false) × (y ≡ false)
or_false true y e = absurd (true≢false e)
or_false false y e = (refl, e)

-- LINES
pub after : List ℕ → List (List ℕ)
after [] = []
after (b ∷ bs) = lines_of bs

pub lines_run : (bs : List ℕ) → lines_of bs ≡ take (run (passes Line) bs) bs ∷ after (drop (run (passes Line) bs) bs)
unfolding run after
lines_run [] = refl
lines_run (b ∷ bs) = go (is_line_end b) (lines_run bs)
  where
    go : (t : Bool) → lines_of bs ≡ take (run (passes Line) bs) bs ∷ after (drop (run (passes Line) bs) bs)
        → elim t [ true ↦ [] ∷ lines_of bs | false ↦ longer b (lines_of bs) ] ≡ take (cond (not t) (suc (run (passes Line) bs)) 0) (b ∷ bs) ∷ after (drop (cond (not t) (suc (run (passes Line) bs)) 0) (b ∷ bs))
    go true h = refl
    go false h = ap (longer b) h

module _ (bs : List ℕ) (at : ℕ) {e : ℕ} (h : e ≡ at + run (passes Line) (drop at bs)) where
  back : e - at ≡ run (passes Line) (drop at bs)
  back = omega arith

  pub line_first : lines_of (drop at bs) ≡ take (e - at) (drop at bs) ∷ after (drop e bs)
  line_first = rw (back, h, ← drop-drop (run (passes Line) (drop at bs)) at bs) (lines_run (drop at bs))

  pub line_last : length bs ≤ e → lines_of (drop at bs) ≡ take (e - at) (drop at bs) ∷ []
  unfolding after
  line_last l = line_first ∙ ap (λ t. take (e - at) (drop at bs) ∷ after t) (past bs e l)

  pub line_next : e < length bs → lines_of (drop at bs) ≡ take (e - at) (drop at bs) ∷ lines_of (drop (e + 1) bs)
  unfolding after
  line_next l = line_first ∙ ap (λ t. take (e - at) (drop at bs) ∷ after t) (here bs e l)

  pub line_within : at ≤ length bs → e ≤ length bs
  line_within l = omega (arith, run_le (passes Line) (drop at bs), length-drop at bs)

-- BLOCKS OF BYTES
-- a test of each byte says that the run is over all of them
pub run_all : (p : ℕ → Bool) (bs : List ℕ) (t : Bool) → fold (λ a b. a && p b) t bs ≡ true → (t ≡ true) × (run p bs ≡ length bs)
unfolding run
run_all p [] t e = (e, refl)
run_all p (b ∷ bs) t e =
    let h = run_all p bs (t && p b) e in
    let k = and_true t (p b) h.0 in
    (k.0, ap (λ q. cond q (suc (run p bs)) 0) k.1 ∙ ap suc h.1)

pub run_none : (p : ℕ → Bool) (bs : List ℕ) (t : Bool) → fold (λ a b. a || p b) t bs ≡ false → (t ≡ false) × (run (λ b. not (p b)) bs ≡ length bs)
unfolding run
run_none p [] t e = (e, refl)
run_none p (b ∷ bs) t e =
    let h = run_none p bs (t || p b) e in
    let k = or_false t (p b) h.0 in
    (k.0, ap (λ q. cond (not q) (suc (run (λ b. not (p b)) bs)) 0) k.1 ∙ ap suc h.1)

module _ (p : ℕ → Bool) where
  -- the run goes on over n bytes from i on
  abbrev pub Over : List ℕ → ℕ → ℕ → Type 0
  Over bs i n = run p (drop i bs) ≡ n + run p (drop (i + n) bs)

  module _ (bs : List ℕ) (i : ℕ) where
    pub over_byte : (n : ℕ) → Over bs i n → i + n < length bs → p (get_or bs (i + n) 0) ≡ true → Over bs i (n + 1)
    over_byte n o h e =
        let q : i + n + 1 ≡ i + (n + 1) = omega arith in
        o ∙ ap (λ m. n + m) (run_go p bs (i + n) h e ∙ ap (λ m. suc (run p (drop m bs))) q) ∙ omega arith

  -- the run after some of its bytes
  run_within : (bs : List ℕ) (j : ℕ) → j ≤ run p bs → run p (drop j bs) ≡ run p bs - j
  unfolding run
  run_within bs zero h = omega arith
  run_within [] (suc j) h = omega arith
  run_within (b ∷ bs) (suc j) h = go (p b) h (run_within bs j)
    where
      go : (t : Bool) → suc j ≤ cond t (suc (run p bs)) 0 → (j ≤ run p bs → run p (drop j bs) ≡ run p bs - j) → run p (drop j bs) ≡ cond t (suc (run p bs)) 0 - suc j
      go true l r = r (omega arith) ∙ omega arith
      go false l r = absurd (omega arith)

  run_append : (xs ys : List ℕ) → run p xs ≡ length xs → run p (xs ++ ys) ≡ length xs + run p ys
  unfolding run
  run_append [] ys e = omega arith
  run_append (x ∷ xs) ys e = go (p x) refl e (run_append xs ys)
    where
      go : (t : Bool) → p x ≡ t → cond t (suc (run p xs)) 0 ≡ suc (length xs) → (run p xs ≡ length xs → run p (xs ++ ys) ≡ length xs + run p ys)
          → cond t (suc (run p (xs ++ ys))) 0 ≡ suc (length xs) + run p ys
      go true q e r = let z = r (omega arith) in omega arith
      go false q e r = absurd (omega arith)

  run_front : (xs ys : List ℕ) → run p xs ≤ run p (xs ++ ys)
  unfolding run
  run_front [] ys = omega arith
  run_front (x ∷ xs) ys = go (p x) (run_front xs ys)
    where
      go : (t : Bool) → run p xs ≤ run p (xs ++ ys) → cond t (suc (run p xs)) 0 ≤ cond t (suc (run p (xs ++ ys))) 0
      go true h = omega arith
      go false h = omega arith

  pub run_take : (n : ℕ) (bs : List ℕ) → run p (take n bs) ≤ run p bs
  unfolding run
  run_take zero bs = omega arith
  run_take (suc n) [] = omega arith
  run_take (suc n) (b ∷ bs) = go (p b) (run_take n bs)
    where
      go : (t : Bool) → run p (take n bs) ≤ run p bs → cond t (suc (run p (take n bs))) 0 ≤ cond t (suc (run p bs)) 0
      go true h = omega arith
      go false h = omega arith

  -- the last eight bytes as a slice
  pub over_last : (bs : List ℕ) (i : ℕ) → 8 ≤ length bs → i ≡ length bs - 8 → run p (take (length bs - i) (drop i bs)) ≡ length (take (length bs - i) (drop i bs)) → Over bs i 8
  over_last bs i l h e =
      let q : run p (drop i bs) ≡ length (drop i bs) = rw (take_rest bs i) at e in
      let z = run_past p bs (i + 8) (omega arith) in
      omega (arith, length-drop i bs)

  -- a block of eight bytes from i on, and the bytes after it
  module _ (bs : List ℕ) (i : ℕ) (xs ys : List ℕ) (d : drop i bs ≡ xs ++ ys) (n : length xs ≡ 8) where
    pub block_next : (ys ≡ drop (i + 8) bs) × (i + 8 ≤ length bs)
    block_next =
        let e : drop 8 (xs ++ ys) ≡ ys = ap (λ m. drop m (xs ++ ys)) (sym n) ∙ drop-append_seam xs ys in
        let l = ap length d ∙ length-append xs ys in
        (sym e ∙ ap (drop 8) (sym d) ∙ drop-drop 8 i bs, omega (arith, l, length-drop i bs))

    pub block_over : run p xs ≡ length xs → run p (drop i bs) ≡ 8 + run p (drop (i + 8) bs)
    block_over e = ap (run p) d ∙ run_append xs ys e ∙ ap₂ (λ m l. m + run p l) n block_next.0

    pub block_within : (k : ℕ) → k ≤ run p xs → run p (drop i bs) ≡ k + run p (drop (i + k) bs)
    block_within k h =
        let f = run_front xs ys in
        let q = ap (run p) d in
        let r = run_within (drop i bs) k (omega arith) in
        let z = ap (run p) (drop-drop k i bs) in
        omega arith

  -- the last eight bytes belong to the run, and i is among them
  pub to_end : (bs : List ℕ) (i : ℕ) → 8 ≤ length bs → length bs - 8 ≤ i → i ≤ length bs → Over bs (length bs - 8) 8 → i + run p (drop i bs) ≡ length bs
  to_end bs i l h k o =
      let n = length bs - 8 in
      let q : n + (i - n) ≡ i = omega arith in
      let e = run_past p bs (n + 8) (omega arith) in
      let r = run_within (drop n bs) (i - n) (omega arith) in
      let d = ap (run p) (drop-drop (i - n) n bs ∙ ap (λ m. drop m bs) q) in
      omega (arith, r, d, o, e)

module _ (bs : List ℕ) (i : ℕ) where
  -- of j bytes, n stand before the line's end; more is 1 while none of them ends it
  pub record Counted (n more j : ℕ) : Type 0 where
    pub low : n ≤ j
    pub goes_on : (more ≡ 0) ⊎ (more ≡ 1) × (n ≡ j)
    pub over : Over (passes Line) bs i n

  pub counted_on : {n more j next : ℕ} → Counted n more j → i + j < length bs → next ≡ cond (is_line_end (get_or bs (i + j) 0)) 0 more → Counted (n + next) next (j + 1)
  counted_on {n} {more} {j} {next} k h q = go (is_line_end (get_or bs (i + j) 0)) refl q k.goes_on
    where
      still : next ≡ 0 → Counted (n + next) next (j + 1)
      still z =
          let s : n ≡ n + next = omega arith in
          record { low = omega (arith, k.low); goes_on = inl z; over = rw s at k.over }

      go : (t : Bool) → is_line_end (get_or bs (i + j) 0) ≡ t → next ≡ cond t 0 more → (more ≡ 0) ⊎ (more ≡ 1) × (n ≡ j) → Counted (n + next) next (j + 1)
      go true e z m = still z
      go false e z (inl m) = still (z ∙ m)
      go false e z (inr m) =
          let s : n + 1 ≡ n + next = omega (arith, m.0) in
          let w : i + n ≡ i + j = omega (arith, m.1) in
          let b : passes Line (get_or bs (i + n) 0) ≡ true = ap (λ x. passes Line (get_or bs x 0)) w ∙ ap not e in
          record {
            low = omega (arith, k.low, m.0);
            goes_on = inr (z ∙ m.0, omega (arith, m.0, m.1));
            over = rw s at (over_byte (passes Line) bs i n k.over (omega (arith, m.1)) b);
          }

-- the same from the front
pub counted_front : (bs : List ℕ) {n more j next : ℕ} → Counted bs 0 n more j → j < length bs → next ≡ cond (is_line_end (get_or bs j 0)) 0 more → Counted bs 0 (n + next) next (j + 1)
counted_front bs {n} {more} {j} k h q = let z : j ≡ 0 + j = omega arith in counted_on bs 0 k (omega arith) (q ∙ ap (λ m. cond (is_line_end (get_or bs m 0)) 0 more) z)

-- WORDS
front : ℕ → List (List ℕ) → List (List ℕ)
front b [] = []
front b (w ∷ ws) = (b ∷ w) ∷ ws

longer_front : (b c : ℕ) (ws : List (List ℕ)) → keep (λ w. not (is_empty w)) (longer b (longer c ws)) ≡ front b (keep (λ w. not (is_empty w)) (longer c ws))
unfolding front
longer_front b c [] = refl
longer_front b c (w ∷ ws) = refl

words_blank : (b : ℕ) (bs : List ℕ) → is_blank b ≡ true → words_of (b ∷ bs) ≡ words_of bs
words_blank b bs e = ap (λ (t : Bool). keep (λ w. not (is_empty w)) (elim t as (λ _. List (List ℕ)) [ true ↦ [] ∷ split is_blank bs | false ↦ longer b (split is_blank bs) ])) e

words_text : (b : ℕ) (bs : List ℕ) → is_blank b ≡ false → words_of (b ∷ bs) ≡ keep (λ w. not (is_empty w)) (longer b (split is_blank bs))
words_text b bs e = ap (λ (t : Bool). keep (λ w. not (is_empty w)) (elim t as (λ _. List (List ℕ)) [ true ↦ [] ∷ split is_blank bs | false ↦ longer b (split is_blank bs) ])) e

words_run : (b : ℕ) (bs : List ℕ) → keep (λ w. not (is_empty w)) (longer b (split is_blank bs)) ≡ (b ∷ take (run (passes Word) bs) bs) ∷ words_of (drop (run (passes Word) bs) bs)
unfolding run front
words_run b [] = refl
words_run b (c ∷ bs) = go (is_blank c) refl (words_run c bs)
  where
    go : (t : Bool) → is_blank c ≡ t
        → keep (λ w. not (is_empty w)) (longer c (split is_blank bs)) ≡ (c ∷ take (run (passes Word) bs) bs) ∷ words_of (drop (run (passes Word) bs) bs)
        → keep (λ w. not (is_empty w)) (longer b (elim t [ true ↦ [] ∷ split is_blank bs | false ↦ longer c (split is_blank bs) ])) ≡ (b ∷ take (cond (not t) (suc (run (passes Word) bs)) 0) (c ∷ bs)) ∷ words_of (drop (cond (not t) (suc (run (passes Word) bs)) 0) (c ∷ bs))
    go true e h = ap (λ ws. (b ∷ []) ∷ ws) (sym (words_blank c bs e))
    go false e h = longer_front b c (split is_blank bs) ∙ ap (front b) h

words_skip : (bs : List ℕ) → words_of bs ≡ words_of (drop (run is_blank bs) bs)
unfolding run
words_skip [] = refl
words_skip (b ∷ bs) = go (is_blank b) refl (words_skip bs)
  where
    go : (t : Bool) → is_blank b ≡ t → words_of bs ≡ words_of (drop (run is_blank bs) bs) → words_of (b ∷ bs) ≡ words_of (drop (cond t (suc (run is_blank bs)) 0) (b ∷ bs))
    go true e h = words_blank b bs e ∙ h
    go false e h = refl

-- after a run the test fails
run_ends : (p : ℕ → Bool) (bs : List ℕ) → run p bs < length bs → p (get_or bs (run p bs) 0) ≡ false
unfolding run
run_ends p [] h = absurd (let g = h in omega arith)
run_ends p (b ∷ bs) h = go (p b) refl (run_ends p bs) h
  where
    go : (t : Bool) → p b ≡ t → (run p bs < length bs → p (get_or bs (run p bs) 0) ≡ false) → cond t (suc (run p bs)) 0 < suc (length bs) → p (get_or (b ∷ bs) (cond t (suc (run p bs)) 0) 0) ≡ false
    go true e r g = r (omega arith)
    go false e r g = e

module _ (bs : List ℕ) (at : ℕ) where
  -- the next word starts at s
  module _ {s : ℕ} (h : s ≡ at + run is_blank (drop at bs)) where
    pub skipped : words_of (drop at bs) ≡ words_of (drop s bs)
    skipped = words_skip (drop at bs) ∙ ap words_of (drop-drop (run is_blank (drop at bs)) at bs ∙ ap (λ n. drop n bs) (sym h))

    pub none_left : length bs ≤ s → words_of (drop at bs) ≡ []
    none_left l = skipped ∙ ap words_of (past bs s l)

    pub starts : s < length bs → is_blank (get_or bs s 0) ≡ false
    starts l =
        ap is_blank (ap (λ n. get_or bs n 0) h ∙ sym (get_or-drop at bs (run is_blank (drop at bs)) 0))
        ∙ run_ends is_blank (drop at bs) (omega (arith, length-drop at bs))

    pub one_word : s < length bs → words_of (drop s bs) ≡ take (run (passes Word) (drop s bs)) (drop s bs) ∷ words_of (drop (s + run (passes Word) (drop s bs)) bs)
    one_word l =
        let e : drop s bs ≡ get_or bs s 0 ∷ drop (s + 1) bs = here bs s l in
        let b : is_blank (get_or bs s 0) ≡ false = starts l in
        let r : run (passes Word) (drop s bs) ≡ suc (run (passes Word) (drop (s + 1) bs)) = run_go (passes Word) bs s l (ap not b) in
        let q : s + 1 + run (passes Word) (drop (s + 1) bs) ≡ s + run (passes Word) (drop s bs) = omega arith in
        let w = words_run (get_or bs s 0) (drop (s + 1) bs) in
        ap words_of e ∙ words_text (get_or bs s 0) (drop (s + 1) bs) b ∙ w
        ∙ ap₂ (λ x y. x ∷ words_of y) (sym (ap₂ take r e)) (drop-drop (run (passes Word) (drop (s + 1) bs)) (s + 1) bs ∙ ap (λ n. drop n bs) q)

-- a block of bytes, none of which is byte 10
module _ (bs : List ℕ) (i : ℕ) where
  -- whether one of n + 1 bytes is byte 10
  abbrev ends_within : ℕ → Bool
  ends_within zero = eqb (get_or bs i 0) 10
  ends_within (suc n) = ends_within n || eqb (get_or bs (i + suc n) 0) 10

  byte_passed : (j : ℕ) → j < length bs → eqb (get_or bs j 0) 10 ≡ false → run (passes Line) (drop j bs) ≡ suc (run (passes Line) (drop (j + 1) bs))
  byte_passed j h e = run_go (passes Line) bs j h (ap not (held_not LineEnd (get_or bs j 0) (eqb-false (get_or bs j 0) 10 e)))

  pub block_passed : (n : ℕ) → i + suc n ≤ length bs → ends_within n ≡ false → run (passes Line) (drop i bs) ≡ suc n + run (passes Line) (drop (i + suc n) bs)
  block_passed zero h e = byte_passed i (omega arith) e ∙ omega arith
  block_passed (suc n) h e =
      let k = or_false (ends_within n) (eqb (get_or bs (i + suc n) 0) 10) e in
      let p : i + suc n + 1 ≡ i + suc (suc n) = omega arith in
      let r = byte_passed (i + suc n) (omega arith) k.1 ∙ ap (λ m. suc (run (passes Line) (drop m bs))) p in
      block_passed n (omega arith) k.0 ∙ ap (λ m. suc n + m) r ∙ omega arith
