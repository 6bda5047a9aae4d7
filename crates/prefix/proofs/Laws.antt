-- WHAT THE PREFIX TABLE SAYS IS WHAT THE PREFIX SAYS. Assumes nothing.
use mathlib.Core.Path.{◌≡◌, refl, ap, ap₂, sym, ◌∙◌}
use mathlib.Core.Bool.{Bool, true, false, cond, ◌&&◌}
use mathlib.Core.List.{List}
use Prim.Native.Nat.{ℕ, zero, suc, ◌+◌, ◌-◌, ◌<◌, ◌≤◌}
use native.Mathlib.Omega.{arith}
use lib.IntN.{ℤ}
use lib.Dec.{eqb, ltb}
use borrow.Author.Tests.{ne_eqb, eqb-true, lt-ltb, ltb-true, ltb-false}
use Rattle.std.proofs.Common.{Some, None}
use Rattle.cells.specs.Cells.{cell_at}
use Rattle.rules.specs.Basics.{is_in}
use Rattle.rules.specs.Formula.{Formula, bound, universal, existential, depends_on}
use Rattle.rules.proofs.Kit.{and_l, and_r, and_i, by_yes, not_f, same_test}
use Rattle.prefix.specs.Prefix.{entry, is_universal, is_existential, dependency, narrower, mark_from, Shows}
pub use Rattle.prefix.specs.Prefix.{Told}
use Rattle.prefix.proofs.Marks.{odd, even, mark_in, universal_bound, existential_bound, universal_mark, existential_mark, depends_mark}

module _ (p : List ℤ) (n : ℕ) (f : Formula) (t : Told p n f) where
  -- variable 0 is never bound
  zeroth : mark_from 0 f.prefix 0 ≡ 0
  zeroth =
      eqb-true (mark_from 0 f.prefix 0) 0
      (not_f (eqb (mark_from 0 f.prefix 0) 0)
      (mark_in 0 f.prefix 0 ∙ by_yes (is_in (bound f) 0) (λ h. let r = (t.ranged 0 h).0 in omega arith)))

  pub word_mark : (v : ℕ) → v ≤ n → entry p v ≡ mark_from 0 f.prefix v
  unfolding entry Shows
  word_mark zero h = sym zeroth
  word_mark (suc v) h =
      let e : v + 1 ≡ suc v = omega arith in
      let d : suc v - 1 ≡ v = omega arith in
      ap₂ (λ b i. cond b 0 (cell_at p i)) (ne_eqb (suc v) 0 (λ z. omega arith)) d ∙ t.shows v (omega arith) ∙ ap (mark_from 0 f.prefix) e

  -- a bound variable is in the table
  pub universal_ranged : (v : ℕ) → universal f v ≡ true → v ≤ n
  universal_ranged v h = (t.ranged v (universal_bound f v h)).1

  pub existential_ranged : (v : ℕ) → existential f v ≡ true → v ≤ n
  existential_ranged v h = (t.ranged v (existential_bound f v h)).1

  pub told_universal : (v : ℕ) → v ≤ n → is_universal (entry p) v ≡ universal f v
  unfolding is_universal
  told_universal v h = ap odd (word_mark v h) ∙ sym (universal_mark f t.once v)

  pub told_existential : (v : ℕ) → v ≤ n → is_existential (entry p) v ≡ existential f v
  unfolding is_existential
  told_existential v h = ap even (word_mark v h) ∙ sym (existential_mark f t.once v)

  pub told_depends : (e u : ℕ) → e ≤ n → u ≤ n → dependency (entry p) e u ≡ depends_on f e u
  unfolding dependency is_universal
  told_depends e u h k =
      ap₂ (λ x y. cond (odd x) (ltb x y) false) (word_mark u k) (word_mark e h)
      ∙ and_cond (odd (mark_from 0 f.prefix u)) (ltb (mark_from 0 f.prefix u) (mark_from 0 f.prefix e)) ∙ sym (depends_mark f t.once e u)
    where
      and_cond : (a b : Bool) → cond a b false ≡ a && b
      and_cond true b = refl
      and_cond false b = refl

-- DEPENDENCY SETS: of universals
pub depends_universal : (w : ℕ → ℕ) (e u : ℕ) → is_universal w u && dependency w e u ≡ dependency w e u
unfolding dependency
depends_universal w e u = go (is_universal w u)
  where
    go : (x : Bool) → x && cond x (ltb (w u) (w e)) false ≡ cond x (ltb (w u) (w e)) false
    go true = refl
    go false = refl

-- the narrower of one is itself
pub narrower_none : (w : ℕ → ℕ) (f : ℕ) → narrower w None f ≡ f
unfolding narrower
narrower_none w f = refl

-- and it depends on what both depend on
pub narrower_depends : (w : ℕ → ℕ) (e f u : ℕ) → dependency w (narrower w (Some e) f) u ≡ dependency w e u && dependency w f u
unfolding dependency narrower
narrower_depends w e f u = go (is_universal w u) (ltb (w e) (w f)) refl
  where
    left : ℕ → Bool
    left v = ltb (w u) (w v)

    less : (v : ℕ) → left v ≡ true → w u < w v
    less v = ltb-true (w u) (w v)

    go : (x t : Bool) → ltb (w e) (w f) ≡ t → cond x (left (cond t e f)) false ≡ cond x (left e) false && cond x (left f) false
    go false t l = refl
    go true true l =
        same_test (left e) (left e && left f)
        (λ p. let a = less e p in let b = ltb-true (w e) (w f) l in and_i (left e) (left f) p (lt-ltb (w u) (w f) (omega arith))) (and_l (left e) (left f))
    go true false l =
        same_test (left f) (left e && left f)
        (λ p. let a = less f p in let b = ltb-false (w e) (w f) l in and_i (left e) (left f) (lt-ltb (w u) (w e) (omega arith)) p) (and_r (left e) (left f))
