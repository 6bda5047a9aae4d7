use Rattle.std.proofs.Common.{◌≡◌, ℕ, ◌+◌, ◌≤◌, List, ◌++◌, rules, length, take, sym, ap, ◌∙◌, subst, le_refl, drop_at, length-take-le}
use Rattle.std.proofs.lemmas.Slice.{take-put_mid_below}
use Rattle.std.specs.Io.KnownBytes.{Consumes}
use Rattle.std.proofs.KnownBytes.{Consumes-trans}
use borrow.Rule.Slice.PartMut.{put_mid, post_of}
use lib.Seq.{take-add, take-append-le}
use Rattle.verdict.proofs.read_full.Goals as goal

-- what is read into the part after the first bytes stands after these
read_after : (a k n : ℕ) (xs ys : List ℕ) → a ≤ length xs → n ≤ length ys → take a xs ++ take n ys ≡ take (a + n) (put_mid a k xs ys)
read_after a k n xs ys within fits =
    let rest = post_of a k xs in
    let part = ap (take n) (drop_at (take a xs) (ys ++ rest) a (length-take-le a xs within)) ∙ take-append-le n ys rest fits in
    ap (λ l. l ++ take n ys) (sym (take-put_mid_below a k xs ys a (le_refl a) within))
    ∙ ap (λ l. take a (put_mid a k xs ys) ++ l) (sym part)
    ∙ sym (take-add a n (put_mid a k xs ys))

pub loop-done-preserved : goal.loop-done-preserved
loop-done-preserved g c = record {
  within = search rules;
  consumed = subst (Consumes _ _) (read_after _ _ _ _ _ c.loop-done.invariant.within c.in-Ok.ensures.bound.0)
      (Consumes-trans _ _ _ _ _ c.loop-done.invariant.consumed c.in-Ok.ensures.bytes.0);
}
