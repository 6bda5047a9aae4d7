-- Laws of walks along a clause, at its end and at a code, and of the answers on the way. Assumes nothing.
use mathlib.Core.Path.{◌≡◌, refl, sym, ◌∙◌, ap, fun_ext}
use mathlib.Core.Bool.{Bool, true, false, cond, not, ◌&&◌, ◌||◌, and-true}
use mathlib.Core.List.{List, [], ◌∷◌}
use Prim.Native.Nat.{ℕ, zero, suc, ◌+◌}
use native.Mathlib.Omega.{arith}
use lib.Dec.{eqb, leb}
use lib.ListN.{get_or, set}
use lib.Seq.{get_or-set_other}
use borrow.Author.Tests.{eqb-true, eqb-false, ne_eqb}
use Rattle.std.specs.List.{list_all as all}
use Rattle.cells.proofs.Laws.{zero_there, first_code}
use Rattle.resolvents.specs.declared.Strays.{Strays}
use Rattle.resolvents.specs.Marks.{each, raise, lacks, covered, meet, stray}

-- ONE MARK CHANGED
raise_there : (b : ℕ) (s : List ℕ) (i : ℕ) → get_or (set s i (raise b (get_or s i 0))) i 0 ≡ raise b (get_or s i 0)
unfolding raise
raise_there b [] i = refl
raise_there b (x ∷ s) zero = refl
raise_there b (x ∷ s) (suc i) = raise_there b s i

raise_none : (b v : ℕ) → eqb (raise b v) 0 ≡ eqb v 0
unfolding raise
raise_none b v = go (eqb v 0) refl (leb b v)
  where
    go : (t : Bool) → eqb v 0 ≡ t → (u : Bool) → eqb (cond (t || u) v (v + b)) 0 ≡ t
    go true e u = e
    go false e true = e
    go false e false = ne_eqb (v + b) 0 (λ q. eqb-false v 0 e (omega arith))

lacks_kept : (b : ℕ) (s : List ℕ) (i : ℕ) → lacks (set s i (raise b (get_or s i 0))) ≡ lacks s
unfolding lacks
lacks_kept b s i = fun_ext (λ z. go z (eqb z i) refl)
  where
    go : (z : ℕ) (t : Bool) → eqb z i ≡ t → eqb (get_or (set s i (raise b (get_or s i 0))) z 0) 0 ≡ eqb (get_or s z 0) 0
    go z true e =
        ap (λ k. eqb (get_or (set s k (raise b (get_or s k 0))) z 0) 0) (sym (eqb-true z i e)) ∙ ap (λ v. eqb v 0) (raise_there b s z)
        ∙ raise_none b (get_or s z 0)
    go z false e = ap (λ v. eqb v 0) (get_or-set_other s i z (raise b (get_or s i 0)) 0 (eqb-false z i e))

covered_kept : (s : List ℕ) (i : ℕ) → not (eqb (get_or s i 0) 1) ≡ true → (ys : List ℕ) → covered (set s i 0) ys ≡ covered s ys
unfolding covered
covered_kept s i h ys = ap (λ (p : ℕ → Bool). all p ys) (fun_ext (λ z. go z (eqb z i) refl))
  where
    go : (z : ℕ) (t : Bool) → eqb z i ≡ t → not (eqb (get_or (set s i 0) z 0) 1) ≡ not (eqb (get_or s z 0) 1)
    go z true e =
        let q = sym (eqb-true z i e) in
        ap (λ k. not (eqb (get_or (set s k 0) z 0) 1)) q ∙ ap (λ v. not (eqb v 1)) (zero_there s z) ∙ sym (ap (λ k. not (eqb (get_or s k 0) 1)) (sym q) ∙ h)
    go z false e = ap (λ v. not (eqb v 1)) (get_or-set_other s i z 0 0 (eqb-false z i e))

-- A WALK
module _ (rest : List ℕ) where
  module _ (e : rest ≡ []) where
    pub each_end : (f : ℕ → ℕ) (s : List ℕ) → each f rest s ≡ s
    unfolding each
    each_end f s = ap (λ x. each f x s) e

    pub covered_end : (a : Bool) (s : List ℕ) → (a && covered s rest) ≡ a
    unfolding covered
    covered_end a s = ap (λ x. a && covered s x) e ∙ and-true a

    pub stray_end : (out : ℕ → Bool) (p : Strays) → stray out rest p ≡ p
    unfolding stray
    stray_end out p = ap (λ x. stray out x p) e

  module _ (y : ℕ) (rest' : List ℕ) (e : rest ≡ y ∷ rest') where
    -- where the code's index is i
    module _ (s : List ℕ) (i : ℕ) (q : i ≡ y) where
      pub each_more : (f : ℕ → ℕ) (v : ℕ) → v ≡ f (get_or s i 0) → each f rest' (set s i v) ≡ each f rest s
      unfolding each
      each_more f v h =
          ap (λ w. each f rest' (set s i w)) h ∙ ap (λ k. each f rest' (set s k (f (get_or s k 0)))) q ∙ sym (ap (λ x. each f x s) e)

      pub covered_more : (a : Bool) → (a && not (eqb (get_or s i 0) 1) && covered (set s i 0) rest') ≡ (a && covered s rest)
      unfolding covered
      covered_more a = go a (not (eqb (get_or s i 0) 1)) refl ∙ ap (λ k. a && (not (eqb (get_or s k 0) 1) && covered s rest')) q ∙ sym (ap (λ x. a && covered s x) e)
        where
          go : (a t : Bool) → not (eqb (get_or s i 0) 1) ≡ t → (a && t && covered (set s i 0) rest') ≡ (a && (t && covered s rest'))
          go true true h = covered_kept s i h rest'
          go true false h = refl
          go false t h = refl

      pub stray_more : (b v : ℕ) (p r : Strays) → v ≡ raise b (get_or s i 0) → r ≡ meet (eqb (get_or s i 0) 0) p y → stray (lacks (set s i v)) rest' r ≡ stray (lacks s) rest p
      unfolding stray lacks
      stray_more b v p r h k =
          ap (λ w. stray (lacks (set s i w)) rest' r) h ∙ ap (λ (t : ℕ → Bool). stray t rest' r) (lacks_kept b s i) ∙ ap (stray (lacks s) rest') k
          ∙ ap (λ n. stray (lacks s) rest' (meet (eqb (get_or s n 0) 0) p y)) q ∙ sym (ap (λ x. stray (lacks s) x p) e)

-- the end of a walk and a code more
pub ruleset walks = (each_end, each_more, covered_end, covered_more, stray_end, stray_more, first_code)
