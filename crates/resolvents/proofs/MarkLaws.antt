-- Laws of marks: what they say of the clause and its parents, and that they go. Assumes nothing.
use mathlib.Core.Path.{◌≡◌, refl, sym, ◌∙◌, ap, fun_ext}
use mathlib.Core.Bool.{Bool, true, false, cond, not, ◌&&◌, ◌||◌, false≢true}
use mathlib.Core.List.{List, [], ◌∷◌}
use Prim.Native.Nat.{ℕ, ◌+◌, ◌<◌}
use native.Mathlib.Omega.{arith}
use lib.Dec.{eqb, leb}
use lib.ListN.{length, get_or, set, replicate, length-set, length-replicate}
use lib.Seq.{get_or-set_same, get_or-set_other}
use borrow.Author.Tests.{eqb-true, eqb-false, le-leb}
use Rattle.cells.proofs.Laws.{get_or_zeros}
use Rattle.std.specs.List.{list_all as all}
use Rattle.rules.specs.Basics.{is_in}
use Rattle.rules.proofs.Kit.{or_l, or_r, same_test, all_in, in_all_lem}
use Rattle.resolvents.specs.Marks.{Clear, each, to, raise, lacks, in_all, covered}
use Rattle.resolvents.proofs.DecisionLaws.{in_is}

-- EACH MARK OF A LIST CHANGED, by a change that a second time changes nothing
module _ (f : ℕ → ℕ) where
  each_length : (xs s : List ℕ) → length (each f xs s) ≡ length s
  unfolding each
  each_length [] s = refl
  each_length (x ∷ xs) s = each_length xs (set s x (f (get_or s x 0))) ∙ length-set s x (f (get_or s x 0))

  module _ (twice : (v : ℕ) → f (f v) ≡ f v) where
    each_at : (xs s : List ℕ) (y : ℕ) → (is_in xs y ≡ true → y < length s) → get_or (each f xs s) y 0 ≡ cond (is_in xs y) (f (get_or s y 0)) (get_or s y 0)
    unfolding each
    each_at [] s y h = refl
    each_at (x ∷ xs) s y h = go (eqb y x) refl (each_at xs (set s x (f (get_or s x 0))) y inside)
      where
        inside : is_in xs y ≡ true → y < length (set s x (f (get_or s x 0)))
        inside q = omega (arith, length-set s x (f (get_or s x 0)), h (or_r (eqb y x) (is_in xs y) q))

        again : (i : Bool) (v : ℕ) → cond i (f (f v)) (f v) ≡ f v
        again true v = twice v
        again false v = refl

        go : (t : Bool) → eqb y x ≡ t → {r : ℕ} → r ≡ cond (is_in xs y) (f (get_or (set s x (f (get_or s x 0))) y 0)) (get_or (set s x (f (get_or s x 0))) y 0)
            → r ≡ cond (t || is_in xs y) (f (get_or s y 0)) (get_or s y 0)
        go true e m =
            m ∙ ap (λ z. cond (is_in xs y) (f (get_or (set s z (f (get_or s z 0))) y 0)) (get_or (set s z (f (get_or s z 0))) y 0)) (sym (eqb-true y x e))
            ∙ ap (λ v. cond (is_in xs y) (f v) v) (get_or-set_same s y (f (get_or s y 0)) 0 (h (or_l (eqb y x) (is_in xs y) e)))
            ∙ again (is_in xs y) (get_or s y 0)
        go false e m = m ∙ ap (λ v. cond (is_in xs y) (f v) v) (get_or-set_other s x y (f (get_or s x 0)) 0 (eqb-false y x e))

raise_twice : (b v : ℕ) → raise b (raise b v) ≡ raise b v
unfolding raise
raise_twice b v = go (eqb v 0 || leb b v) refl
  where
    go : (t : Bool) → (eqb v 0 || leb b v) ≡ t → raise b (cond t v (v + b)) ≡ cond t v (v + b)
    go true e = ap (λ x. cond x v (v + b)) e
    go false e = ap (λ x. cond x (v + b) (v + b + b)) (or_r (eqb (v + b) 0) (leb b (v + b)) (le-leb b (v + b) (omega arith)))

-- a new array is clear
pub clear_start : Clear (replicate 65536 0)
clear_start = record { long = length-replicate {A = ℕ} 65536 0; none = get_or_zeros 65536 }

-- THE CLAUSE MARKED, with the signs of its parents: the marks tell them apart
abbrev one : Bool → ℕ
one i = cond i 1 0

abbrev two : Bool → Bool → ℕ
two i j = cond j (raise 2 (one i)) (one i)

abbrev sum : Bool → Bool → Bool → ℕ
sum i j k = cond k (raise 4 (two i j)) (two i j)

one_lacks : (i : Bool) → eqb (one i) 0 ≡ not i
one_lacks true = refl
one_lacks false = refl

two_lacks : (i j : Bool) → eqb (two i j) 0 ≡ not i
unfolding raise
two_lacks true true = refl
two_lacks true false = refl
two_lacks false true = refl
two_lacks false false = refl

sum_all : (i j k : Bool) → eqb (sum i j k) 7 ≡ (i && j && k)
unfolding raise
sum_all true true true = refl
sum_all true true false = refl
sum_all true false true = refl
sum_all true false false = refl
sum_all false true true = refl
sum_all false true false = refl
sum_all false false true = refl
sum_all false false false = refl

sum_covered : (i j k : Bool) → i ≡ true → not (eqb (sum i j k) 1) ≡ (j || k)
unfolding raise
sum_covered true true true e = refl
sum_covered true true false e = refl
sum_covered true false true e = refl
sum_covered true false false e = refl
sum_covered false j k e = absurd (false≢true e)

sum_gone : (i j k : Bool) → cond i 0 (sum i j k) ≡ 0
unfolding raise
sum_gone true j k = refl
sum_gone false true true = refl
sum_gone false true false = refl
sum_gone false false true = refl
sum_gone false false false = refl

-- every code of the list is below 65536
abbrev pub Small : List ℕ → Type 0
Small xs = (y : ℕ) → is_in xs y ≡ true → y < 65536

module _ (c d e s : List ℕ) (clear : Clear s) (small-c : Small c) (small-d : Small d) (small-e : Small e) where
  abbrev s₁ : List ℕ
  s₁ = each (to 1) c s

  abbrev s₂ : List ℕ
  s₂ = each (raise 2) d s₁

  abbrev s₃ : List ℕ
  s₃ = each (raise 4) e s₂

  long₁ : length s₁ ≡ 65536
  long₁ = each_length (to 1) c s ∙ clear.long

  long₂ : length s₂ ≡ 65536
  long₂ = each_length (raise 2) d s₁ ∙ long₁

  long₃ : length s₃ ≡ 65536
  long₃ = each_length (raise 4) e s₂ ∙ long₂

  at₁ : (y : ℕ) → get_or s₁ y 0 ≡ one (is_in c y)
  at₁ y = each_at (to 1) (λ _. refl) c s y (λ q. omega (arith, small-c y q, clear.long)) ∙ ap (cond (is_in c y) 1) (clear.none y)

  at₂ : (y : ℕ) → get_or s₂ y 0 ≡ two (is_in c y) (is_in d y)
  at₂ y =
      each_at (raise 2) (raise_twice 2) d s₁ y (λ q. omega (arith, small-d y q, long₁)) ∙ ap (λ v. cond (is_in d y) (raise 2 v) v) (at₁ y)

  at₃ : (y : ℕ) → get_or s₃ y 0 ≡ sum (is_in c y) (is_in d y) (is_in e y)
  at₃ y =
      each_at (raise 4) (raise_twice 4) e s₂ y (λ q. omega (arith, small-e y q, long₂)) ∙ ap (λ v. cond (is_in e y) (raise 4 v) v) (at₂ y)

  pub lacks_d : lacks s₁ ≡ (λ y. not (is_in c y))
  unfolding lacks
  lacks_d = fun_ext (λ y. ap (λ v. eqb v 0) (at₁ y) ∙ one_lacks (is_in c y))

  pub lacks_e : lacks s₂ ≡ (λ y. not (is_in c y))
  unfolding lacks
  lacks_e = fun_ext (λ y. ap (λ v. eqb v 0) (at₂ y) ∙ two_lacks (is_in c y) (is_in d y))

  pub in_all_three : in_all s₃ ≡ (λ y. is_in c y && is_in d y && is_in e y)
  unfolding in_all
  in_all_three = fun_ext (λ y. ap (λ v. eqb v 7) (at₃ y) ∙ sum_all (is_in c y) (is_in d y) (is_in e y))

  pub covered_is : covered s₃ c ≡ all (λ y. is_in d y || is_in e y) c
  unfolding covered
  covered_is =
      same_test (covered s₃ c) (all (λ y. is_in d y || is_in e y) c)
      (λ h. in_all_lem (λ y. is_in d y || is_in e y) c λ y m. sym (here y (in_is c y m)) ∙ all_in (λ z. not (eqb (get_or s₃ z 0) 1)) h m)
      (λ h. in_all_lem (λ y. not (eqb (get_or s₃ y 0) 1)) c λ y m. here y (in_is c y m) ∙ all_in (λ z. is_in d z || is_in e z) h m)
    where
      here : (y : ℕ) → is_in c y ≡ true → not (eqb (get_or s₃ y 0) 1) ≡ (is_in d y || is_in e y)
      here y q = ap (λ v. not (eqb v 1)) (at₃ y) ∙ sum_covered (is_in c y) (is_in d y) (is_in e y) q

  -- and unmarked again
  pub clear_again : Clear (each (to 0) c s₃)
  clear_again = record {
    long = each_length (to 0) c s₃ ∙ long₃;
    none = λ y. each_at (to 0) (λ _. refl) c s₃ y (λ q. omega (arith, small-c y q, long₃))
        ∙ ap (cond (is_in c y) 0) (at₃ y) ∙ sum_gone (is_in c y) (is_in d y) (is_in e y);
  }
