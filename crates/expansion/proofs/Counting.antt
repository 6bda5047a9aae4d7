-- Lists without repeats, one within the other, are as long as each other exactly if the other is within the one. Assumes nothing.
use mathlib.Core.Path.{◌≡◌, refl, ap, sym, ◌∙◌}
use mathlib.Core.Bool.{Bool, true, false, not, cond}
use mathlib.Core.List.Memᴰ
use mathlib.Core.List.{List, [], ◌∷◌}
use Prim.Native.Nat.{ℕ, suc, ◌<◌, ◌≤◌}
use native.Mathlib.Omega.{arith}
use lib.Dec.{eqb}
use lib.ListN.{length}
use borrow.Author.Tests.{eq-eqb, ne_eqb, eqb-true}
use Rattle.std.specs.List.{list_all as all, filter as keep}
use Rattle.rules.specs.Basics.{is_in, distinct}
use Rattle.rules.proofs.Kit.{clear, by_no, not_of_f, eqb_self, either, In, in_all_lem, all_in, keep_in, same_test}
use Rattle.rules.proofs.Distinct.{in_is_in, is_in_in, distinct_cons, distinct_new, distinct_tail}

abbrev Within : List ℕ → List ℕ → Type 0
Within A K = (k : ℕ) → In k A → In k K

-- a list loses an element at least by a test that one of its elements fails
keep_most : (p : ℕ → Bool) (K : List ℕ) → length (keep p K) ≤ length K
keep_most p [] = omega arith
keep_most p (k ∷ K) = go (p k) (keep_most p K)
  where
    go : (b : Bool) → length (keep p K) ≤ length K → length {A = ℕ} (cond b (k ∷ keep p K) (keep p K)) ≤ suc (length K)
    go true h = omega arith
    go false h = omega arith

keep_fewer : (p : ℕ → Bool) (K : List ℕ) (a : ℕ) → In a K → p a ≡ false → length (keep p K) < length K
keep_fewer p [] a i e = absurd (Memᴰ.not-nil i)
keep_fewer p (k ∷ K) a i e =
    either (λ q. here (p k) (sym (ap p q) ∙ e) (keep_most p K)) (λ j. there (p k) (keep_fewer p K a j e)) (Memᴰ.cases_cons i)
  where
    here : (b : Bool) → b ≡ false → length (keep p K) ≤ length K → length {A = ℕ} (cond b (k ∷ keep p K) (keep p K)) < suc (length K)
    here true f h = absurd (clear refl f)
    here false f h = omega arith

    there : (b : Bool) → length (keep p K) < length K → length {A = ℕ} (cond b (k ∷ keep p K) (keep p K)) < suc (length K)
    there true h = omega arith
    there false h = omega arith

-- a list without repeats is no longer than a list that it is within
within_length : (A K : List ℕ) → distinct A ≡ true → Within A K → length A ≤ length K
within_length [] K d h = omega arith
within_length (a ∷ A) K d h =
    let r = within_length A (keep other K) (distinct_tail a A d) (λ k i. keep_in other (h k (Memᴰ.tail i)) (apart k i)) in
    let l = keep_fewer other K a (h a (Memᴰ.head refl)) (ap not (eqb_self a)) in omega arith
  where
    other : ℕ → Bool
    other k = not (eqb a k)

    apart : (k : ℕ) → In k A → other k ≡ true
    apart k i = not_of_f (ne_eqb a k (λ e. distinct_new a A d (Memᴰ.cast e i)))

pub same_count : (A K : List ℕ) → distinct A ≡ true → distinct K ≡ true → Within A K → eqb (length K) (length A) ≡ all (is_in A) K
same_count A K d e h =
    same_test (eqb (length K) (length A)) (all (is_in A) K)
    (λ q. let z : length K ≡ length A = eqb-true (length K) (length A) q in
    in_all_lem (is_in A) K λ k i. by_no (is_in A k) λ n.
    let l = within_length (k ∷ A) K (distinct_cons k A (λ j. clear (in_is_in A k j) n) d)
    (λ j o. either (λ q. Memᴰ.cast q i) (h j) (Memᴰ.cases_cons o)) in
    omega arith)
    (λ q. let l = within_length A K d h in
    let m = within_length K A e (λ k i. is_in_in A k (all_in (is_in A) q i)) in
    eq-eqb (length K) (length A) (omega arith))
