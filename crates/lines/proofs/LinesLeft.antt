-- Laws of the iterator over lines: what is left after a line. Assumes nothing.
use mathlib.Core.Path.{◌≡◌, refl, ap, sym, ◌∙◌}
use mathlib.Core.Bool.{Bool, true, false, cond}
use mathlib.Core.List.{List, [], ◌∷◌}
use Prim.Native.Nat.{ℕ, suc, ◌+◌, ◌-◌, ◌<◌, ◌≤◌}
use native.Mathlib.Omega.{arith}
use lib.Dec.{ltb}
use lib.ListN.{length, take, drop}
use borrow.Author.Tests.{lt-ltb, le-ltb, ltb-true, ltb-false}
use Rattle.lines.specs.declared.Run.TheVariants.{Line}
use Rattle.lines.specs.Lines.{lines_of}
use Rattle.lines.specs.Scan.{passes, run}
use Rattle.lines.specs.Bytes.{is_line_end}
use Rattle.lines.specs.Each.{lines_from, bytes_in}
use Rattle.lines.proofs.Runs.{line_last, line_next}

pub lines_past : (bs : List ℕ) (at : ℕ) → length bs < at → lines_from bs at ≡ []
lines_past bs at h = ap (λ t. cond t [] (lines_of (drop at bs))) (lt-ltb (length bs) at h)

pub lines_here : (bs : List ℕ) (at : ℕ) → at ≤ length bs → lines_from bs at ≡ lines_of (drop at bs)
lines_here bs at h = ap (λ t. cond t [] (lines_of (drop at bs))) (le-ltb (length bs) at h)

-- the line from the place `at` on, and the lines after it
pub lines_step : (bs : List ℕ) (at e : ℕ) → e ≡ at + run (passes Line) (drop at bs) → at ≤ length bs
    → lines_from bs at ≡ take (e - at) (drop at bs) ∷ lines_from bs (e + 1)
lines_step bs at e h l = lines_here bs at l ∙ go (ltb e (length bs)) refl
  where
    go : (t : Bool) → ltb e (length bs) ≡ t → lines_of (drop at bs) ≡ take (e - at) (drop at bs) ∷ lines_from bs (e + 1)
    go true k =
        let m = ltb-true e (length bs) k in
        line_next bs at h m ∙ ap (λ ls. take (e - at) (drop at bs) ∷ ls) (sym (lines_here bs (e + 1) (omega arith)))
    go false k =
        let m = ltb-false e (length bs) k in
        line_last bs at h m ∙ ap (λ ls. take (e - at) (drop at bs) ∷ ls) (sym (lines_past bs (e + 1) (omega arith)))

-- a file has one byte less
pub bytes_of_lines : (bs : List ℕ) → bytes_in (lines_of bs) ≡ length bs + 1
bytes_of_lines [] = refl
bytes_of_lines (b ∷ bs) = go (is_line_end b) (lines_of bs) (bytes_of_lines bs)
  where
    go : (t : Bool) (ls : List (List ℕ)) → bytes_in ls ≡ length bs + 1
        → bytes_in (elim t [ true ↦ [] ∷ ls | false ↦ elim ls [ [] ↦ (b ∷ []) ∷ [] | part ∷ parts ↦ (b ∷ part) ∷ parts ] ]) ≡ suc (length bs) + 1
    go true ls h = omega arith
    go false [] h = absurd (omega arith)
    go false (l ∷ ls) h = omega arith
