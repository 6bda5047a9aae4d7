-- Laws of the lines of a file: how many there are, where each starts, and its bytes. Assumes nothing.
use mathlib.Core.Path.{◌≡◌, refl, ap, sym, ◌∙◌, subst}
use mathlib.Core.Bool.{Bool, true, false, not, cond}
use mathlib.Core.List.{List, [], ◌∷◌}
use mathlib.Core.Logic.{◌⊎◌, inl, inr}
use Prim.Native.Nat.{ℕ, zero, suc, ◌+◌, ◌-◌, ◌<◌, ◌≤◌}
use native.Mathlib.Omega.{arith}
use lib.ListN.{length, take, drop, get_or}
use lib.Seq.{drop-drop}
use borrow.Author.Tests.{eq-eqb, ne_eqb}
use denote.Ref.{Bor}
use Rattle.std.specs.List.{filter as keep}
use Rattle.lines.specs.Bytes.{is_line_end}
use Rattle.lines.specs.Lines.{longer, lines_of, line_at}
use Rattle.lines.specs.declared.Run.TheVariants.{Line}
use Rattle.lines.specs.Scan.{passes, run}
use Rattle.lines.specs.Parts.{after_ends, line_start, file_of}
use Rattle.lines.proofs.Here.{here, past}
use Rattle.lines.proofs.Runs.{lines_run, line_within}

-- the count of bytes 10
abbrev ends : List ℕ → ℕ
ends bs = length (keep is_line_end bs)

-- the definitions at a byte, by whether it is byte 10
abbrev kept : Bool → ℕ → List ℕ → List ℕ
kept t b bs = cond t (b ∷ bs) bs

abbrev parted : Bool → ℕ → List (List ℕ) → List (List ℕ)
parted t b parts = elim t [ true ↦ [] ∷ parts | false ↦ longer b parts ]

abbrev passed : Bool → ℕ → ℕ → ℕ
passed t m n = elim t [ true ↦ suc m | false ↦ suc n ]

-- HOW MANY LINES THERE ARE
length_longer : (b : ℕ) (parts : List (List ℕ)) → 1 ≤ length parts → length (longer b parts) ≡ length parts
length_longer b [] h = absurd (let k = h in omega arith)
length_longer b (part ∷ parts) h = refl

pub lines_count : (bs : List ℕ) → length (lines_of bs) ≡ length (keep is_line_end bs) + 1
lines_count [] = refl
lines_count (b ∷ bs) = go (is_line_end b) (lines_count bs)
  where
    go : (t : Bool) → length (lines_of bs) ≡ ends bs + 1 → length (parted t b (lines_of bs)) ≡ length (kept t b (keep is_line_end bs)) + 1
    go true h = omega arith
    go false h = length_longer b (lines_of bs) (omega arith) ∙ h

-- WHERE A LINE STARTS
ends_within : (n : ℕ) (bs : List ℕ) → after_ends n bs ≤ length bs
unfolding after_ends
ends_within zero bs = omega arith
ends_within (suc n) [] = omega arith
ends_within (suc n) (b ∷ bs) = go (is_line_end b) (ends_within n bs) (ends_within (suc n) bs)
  where
    go : (t : Bool) → after_ends n bs ≤ length bs → after_ends (suc n) bs ≤ length bs → passed t (after_ends n bs) (after_ends (suc n) bs) ≤ suc (length bs)
    go true h k = omega arith
    go false h k = omega arith

-- as many bytes 10 stand before the place
ends_before : (n : ℕ) (bs : List ℕ) → n ≤ ends bs → ends (take (after_ends n bs) bs) ≡ n
unfolding after_ends
ends_before zero bs h = refl
ends_before (suc n) [] h = absurd (let k = h in omega arith)
ends_before (suc n) (b ∷ bs) h = go (is_line_end b) refl (ends_before n bs) (ends_before (suc n) bs) h
  where
    go : (t : Bool) → is_line_end b ≡ t → (n ≤ ends bs → ends (take (after_ends n bs) bs) ≡ n)
        → (suc n ≤ ends bs → ends (take (after_ends (suc n) bs) bs) ≡ suc n)
        → suc n ≤ length (kept t b (keep is_line_end bs)) → ends (take (passed t (after_ends n bs) (after_ends (suc n) bs)) (b ∷ bs)) ≡ suc n
    go true e f g h = ap (λ t. length (kept t b (keep is_line_end (take (after_ends n bs) bs)))) e ∙ ap suc (f (omega arith))
    go false e f g h = ap (λ t. length (kept t b (keep is_line_end (take (after_ends (suc n) bs) bs)))) e ∙ g h

-- with fewer bytes 10 it is the end
ends_few : (n : ℕ) (bs : List ℕ) → ends bs < n → after_ends n bs ≡ length bs
unfolding after_ends
ends_few zero bs h = absurd (let k = h in omega arith)
ends_few (suc n) [] h = refl
ends_few (suc n) (b ∷ bs) h = go (is_line_end b) (ends_few n bs) (ends_few (suc n) bs) h
  where
    go : (t : Bool) → (ends bs < n → after_ends n bs ≡ length bs) → (ends bs < suc n → after_ends (suc n) bs ≡ length bs)
        → length (kept t b (keep is_line_end bs)) < suc n → passed t (after_ends n bs) (after_ends (suc n) bs) ≡ suc (length bs)
    go true f g h = ap suc (f (omega arith))
    go false f g h = ap suc (g h)

-- one byte 10 further
next : ℕ → List ℕ → ℕ
next n [] = 0
next n (b ∷ bs) = suc (after_ends n bs)

ends_run : (n : ℕ) (bs : List ℕ) → after_ends (suc n) bs ≡ run (passes Line) bs + next n (drop (run (passes Line) bs) bs)
unfolding after_ends run next
ends_run n [] = refl
ends_run n (b ∷ bs) = go (is_line_end b) (ends_run n bs)
  where
    go : (t : Bool) → after_ends (suc n) bs ≡ run (passes Line) bs + next n (drop (run (passes Line) bs) bs)
        → passed t (after_ends n bs) (after_ends (suc n) bs) ≡ cond (not t) (suc (run (passes Line) bs)) 0 + next n (drop (cond (not t) (suc (run (passes Line) bs)) 0) (b ∷ bs))
    go true h = omega arith
    go false h = omega arith

-- "A line's number is the count of bytes 10 before it, plus 1."
pub line_number : (n : ℕ) (bs : List ℕ) → 1 ≤ n → n ≤ length (keep is_line_end bs) + 1 → length (keep is_line_end (take (line_start n bs) bs)) + 1 ≡ n
unfolding line_start
line_number zero bs l h = absurd (let k = l in omega arith)
line_number (suc n) bs l h = let e = ends_before n bs (omega arith) in omega arith

pub start_within : (n : ℕ) (bs : List ℕ) → line_start n bs ≤ length bs
unfolding line_start
start_within zero bs = omega arith
start_within (suc n) bs = ends_within n bs

-- A LINE'S BYTES
further : (b : ℕ) (parts : List (List ℕ)) (n : ℕ) → get_or (longer b parts) (suc n) [] ≡ get_or parts (suc n) []
further b [] n = refl
further b (part ∷ parts) n = refl

abbrev from : ℕ → List ℕ → List ℕ
from n bs = take (run (passes Line) (drop n bs)) (drop n bs)

nth_line : (n : ℕ) (bs : List ℕ) → get_or (lines_of bs) n [] ≡ from (after_ends n bs) bs
unfolding after_ends run
nth_line zero bs = ap (λ l. get_or l 0 []) (lines_run bs)
nth_line (suc n) [] = refl
nth_line (suc n) (b ∷ bs) = go (is_line_end b) (nth_line n bs) (nth_line (suc n) bs)
  where
    go : (t : Bool) → get_or (lines_of bs) n [] ≡ from (after_ends n bs) bs → get_or (lines_of bs) (suc n) [] ≡ from (after_ends (suc n) bs) bs
        → get_or (parted t b (lines_of bs)) (suc n) [] ≡ from (passed t (after_ends n bs) (after_ends (suc n) bs)) (b ∷ bs)
    go true h k = h
    go false h k = further b (lines_of bs) n ∙ k

from_end : (bs : List ℕ) {n : ℕ} → n ≡ length bs → from n bs ≡ []
unfolding run
from_end bs {n} e = ap (λ l. take (run (passes Line) l) l) (past bs n (omega arith))

line_from : (n : ℕ) (bs : List ℕ) → line_at n bs ≡ from (line_start n bs) bs
unfolding line_start
line_from zero bs = sym (from_end bs refl)
line_from (suc n) bs = nth_line n bs

start_end : (n : ℕ) (bs : List ℕ) → (n ≡ 0) ⊎ (ends bs + 1 < n) → line_start n bs ≡ length bs
unfolding line_start
start_end zero bs h = refl
start_end (suc n) bs (inl e) = absurd (let k = e in omega arith)
start_end (suc n) bs (inr h) = ends_few n bs (omega arith)

-- "If the line is below 1 or above the count of bytes 10 plus 1, it is the empty part at the end."
pub no_line : (n : ℕ) (bs : List ℕ) → (n ≡ 0) ⊎ (length (keep is_line_end bs) + 1 < n) → (line_start n bs ≡ length bs) × (line_at n bs ≡ [])
no_line n bs h = let e = start_end n bs h in (e, line_from n bs ∙ from_end bs e)

-- the part from a line's start on
pub part_is : (n : ℕ) (bs : List ℕ) {at e : ℕ} → at ≡ line_start n bs → e ≡ at + run (passes Line) (drop at bs) → take (e - at) (drop at bs) ≡ line_at n bs
part_is n bs {at} {e} p q =
    let k : e - at ≡ run (passes Line) (drop at bs) = omega arith in
    ap (λ m. take m (drop at bs)) k ∙ ap (λ m. from m bs) p ∙ sym (line_from n bs)

-- THE WALK TO A LINE'S START: from this place on, this many bytes 10 are left to pass
pub record Left (bs : List ℕ) (line at left : ℕ) : Type 0 where
  pub within : at ≤ length bs
  pub same : line_start line bs ≡ at + after_ends left (drop at bs)

pub left_zero : (bs : List ℕ) (line : ℕ) → line ≡ 0 → length bs ≡ line_start line bs
left_zero bs line e = sym (start_end line bs (inl e))

pub left_start : (bs : List ℕ) (line : ℕ) → (line ≡ 0 → ⊥) → Left bs line 0 (line - 1)
unfolding line_start
left_start bs zero h = absurd (h refl)
left_start bs (suc n) h = let e : suc n - 1 ≡ n = omega arith in record { within = omega arith; same = ap (λ k. after_ends k bs) (sym e) ∙ omega arith }

module _ (bs : List ℕ) (line at left : ℕ) (g : Left bs line at left) where
  pub left_found : left ≤ 0 → at ≡ line_start line bs
  unfolding after_ends
  left_found h = let z : left ≡ 0 = omega arith in sym (g.same ∙ ap (λ k. at + after_ends k (drop at bs)) z ∙ omega arith)

  module _ {e : ℕ} (h : e ≡ at + run (passes Line) (drop at bs)) (l : 0 < left) where
    one_end : line_start line bs ≡ e + next (left - 1) (drop e bs)
    one_end =
        let k : left ≡ suc (left - 1) = omega arith in
        let d : drop (run (passes Line) (drop at bs)) (drop at bs) ≡ drop e bs = drop-drop (run (passes Line) (drop at bs)) at bs ∙ ap (λ n. drop n bs) (sym h) in
        let r = ends_run (left - 1) (drop at bs) ∙ ap (λ l. run (passes Line) (drop at bs) + next (left - 1) l) d in
        g.same ∙ ap (λ n. at + after_ends n (drop at bs)) k ∙ ap (λ n. at + n) r ∙ omega arith

    pub left_none : length bs ≤ e → length bs ≡ line_start line bs
    unfolding next
    left_none k =
        let w = line_within bs at h g.within in
        sym (one_end ∙ ap (λ l. e + next (left - 1) l) (past bs e k) ∙ omega arith)

    pub left_next : e < length bs → Left bs line (e + 1) (left - 1)
    unfolding next
    left_next k = record { within = omega arith; same = one_end ∙ ap (λ l. e + next (left - 1) l) (here bs e k) ∙ omega arith }

-- THE FILE: 1 means the formula, any other number the certificate; what is known of the file that is meant
module _ (P : Bor (List ℕ) → Type 0) (file : ℕ) (formula certificate : Bor (List ℕ)) where
  abbrev Of : Bool → Type 0
  Of t = P (cond t formula certificate)

  pub in_formula : file ≡ 1 → P formula → P (file_of file formula certificate)
  in_formula e h = subst Of (sym (eq-eqb file 1 e)) h

  pub in_certificate : (file ≡ 1 → ⊥) → P certificate → P (file_of file formula certificate)
  in_certificate e h = subst Of (sym (ne_eqb file 1 e)) h
