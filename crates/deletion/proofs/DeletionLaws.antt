-- Laws of deletions. Assumes nothing.
use mathlib.Core.Path.{◌≡◌, refl, sym, ◌∙◌, ap, ap₂}
use mathlib.Core.Bool.{Bool, true, false, ◌&&◌, ◌||◌}
use mathlib.Core.List.Memᴰ
use mathlib.Core.List.{List, [], ◌∷◌, map}
use Prim.Native.Nat.{ℕ, zero, suc, ◌≤◌, ◌<◌}
use native.Mathlib.Omega.{arith}
use Rattle.std.specs.Prelude.{Option, Some, None, MatchOption}
use lib.Dec.{eqb, leb}
use lib.IntN.{ℤ}
use lib.ListN.{length, get_or, take}
use borrow.Author.Tests.{eq-eqb, leb-true, leb-false}
use Rattle.cells.proofs.Laws.{kept_self}
use Rattle.std.specs.List.{list_all as all, list_any as any}
use Rattle.rules.specs.Basics.{is_in, without_first}
use Rattle.rules.specs.Literals.{Lit, Lits, within, same_set, holds}
use Rattle.rules.specs.Codes.{code_of, lit_of}
use Rattle.rules.proofs.Kit.{In, clear, and_l, and_r, by_yes, or_l, or_r, or_cases, or_fl, or_fr, either, all_in, in_all_lem, in_any, any_in, eqb_eq, eqb_self, same_test}
use Rattle.rules.proofs.CodesLaw.{lit_code}
use Rattle.clauses.specs.Standing.{stands, NoneIn, clause_at, standing, literals, marks_need, removed}
use Rattle.trail.specs.Trail.{off, Trailed, Assumed}
use Rattle.deletion.specs.Deletions.{Listed, MoreBy, same_as, there, NoneBelow, NoneThere, Earliest, Deleted}
use Rattle.trail.proofs.TrailLaws.{trailed_assume, assumed_off, assumed_more, assumed_fewer, assumed_kept, assumed_last}
use Rattle.clauses.proofs.StandingLaws.{chosen, standing_out, removed_kept, removed_filled, removed_any, removed_standing}
use Rattle.clauses.proofs.MemberLaws.{in_map, map_in, any_map, holds_lit}

-- THE SAME SET, by marks
in_take : (tr : List ℕ) (n k : ℕ) → k < n → k < length tr → In (get_or tr k 0) (take n tr)
in_take [] n k h g = absurd (omega arith)
in_take (x ∷ tr) zero k h g = absurd (omega arith)
in_take (x ∷ tr) (suc n) zero h g = Memᴰ.head refl
in_take (x ∷ tr) (suc n) (suc k) h g = Memᴰ.tail (in_take tr n k (omega arith) (omega arith))

take_in : (tr : List ℕ) (n x : ℕ) → In x (take n tr) → (k : ℕ) × (k < n) × (x ≡ get_or tr k 0)
take_in tr zero x m = absurd (Memᴰ.not-nil m)
take_in [] (suc n) x m = absurd (Memᴰ.not-nil m)
take_in (y ∷ tr) (suc n) x m = either {D = (k : ℕ) × (k < suc n) × (x ≡ get_or (y ∷ tr) k 0)} (λ e. (0, omega arith, e))
    (λ i. let s = take_in tr n x i in (suc s.0, omega (arith, s.1), s.2)) (Memᴰ.cases_cons m)

is_in_lem : (c : List ℕ) (l : ℕ) → In l c → is_in c l ≡ true
is_in_lem c l m = in_any (eqb l) m (eqb_self l)

in_is : (c : List ℕ) (l : ℕ) → is_in c l ≡ true → In l c
in_is c l h = let s = any_in (eqb l) c h in Memᴰ.cast (eqb_eq l s.0 s.2) s.1

marked_is : (f tr : List ℕ) (n : ℕ) → Listed f tr n → (l : ℕ) → off f l ≡ is_in (take n tr) l
marked_is f tr n h l = same_test (off f l) (is_in (take n tr) l)
    (λ e. let k = h.trailed.listed l e in is_in_lem (take n tr) l (Memᴰ.cast (sym k.2)
    (in_take tr n k.0 k.1 (omega (arith, k.1, h.trailed.shape.room, h.trailed.long)))))
    (λ e. let k = take_in tr n l (in_is (take n tr) l e) in ap (off f) k.2 ∙ h.marked k.0 k.1)

all_same : (p q : ℕ → Bool) → ((l : ℕ) → p l ≡ q l) → (d : List ℕ) → all p d ≡ all q d
all_same p q e [] = refl
all_same p q e (l ∷ d) = ap₂ (λ a b. a && b) (e l) (all_same p q e d)

within_lits : (c d : List ℕ) → within (map lit_of c) (map lit_of d) ≡ all (is_in d) c
within_lits [] d = refl
within_lits (l ∷ c) d = ap₂ (λ a b. a && b) (holds_lit d l) (within_lits c d)

-- by the two tests of the code
pub same_by : (f tr : List ℕ) (n : ℕ) → Listed f tr n → (d : List ℕ) → {a b : Bool} → a ≡ all (off f) d → b ≡ all (is_in d) (take n tr)
    → (a && b) ≡ same_as (take n tr) d
unfolding same_as
same_by f tr n h d {a} {b} e q =
    and_turned a b
    ∙ ap₂ (λ (x y : Bool). x && y) (q ∙ sym (within_lits (take n tr) d)) (e ∙ all_same (off f) (is_in (take n tr)) (marked_is f tr n h) d ∙ sym (within_lits d (take n tr)))
  where
    and_turned : (a b : Bool) → (a && b) ≡ (b && a)
    and_turned true true = refl
    and_turned true false = refl
    and_turned false true = refl
    and_turned false false = refl

-- WITHOUT THE FIRST that passes
module _ {A : Type 0} (p : A → Bool) where
  without_none : (xs : List A) → any p xs ≡ false → without_first p xs ≡ xs
  without_none [] h = refl
  without_none (x ∷ xs) h =
      ap (chosen x xs (without_first p xs)) (or_fl (p x) (any p xs) h) ∙ ap (λ ys. x ∷ ys) (without_none xs (or_fr (p x) (any p xs) h))

module _ {A B : Type 0} (g : A → B) (p : B → Bool) where
  without_map : (xs : List A) → map g (without_first (λ x. p (g x)) xs) ≡ without_first p (map g xs)
  without_map [] = refl
  without_map (x ∷ xs) = go (p (g x)) (without_map xs)
    where
      go : (b : Bool) → map g (without_first (λ x. p (g x)) xs) ≡ without_first p (map g xs)
          → map g (chosen x xs (without_first (λ x. p (g x)) xs) b) ≡ chosen (g x) (map g xs) (without_first p (map g xs)) b
      go true e = refl
      go false e = ap (λ ys. g x ∷ ys) e

-- THE DELETION
module _ (c : List ℕ) (t ms : List ℤ) (count : ℕ) where
  abbrev test : Lits → Bool
  test = same_set (map lit_of c)

  none_any : NoneBelow (same_as c) t ms count → any test (literals (standing t ms count)) ≡ false
  unfolding NoneBelow same_as
  none_any b = any_map (map lit_of) test (standing t ms count) ∙ by_yes (any (same_as c) (standing t ms count)) (λ h.
      let s = any_in (same_as c) (standing t ms count) h in
      let o = standing_out t ms count s.0 s.1 in
      clear (ap (same_as c) (sym o.3) ∙ s.2) (b o.0 o.1 o.2))

  deleted_none : NoneBelow (same_as c) t ms count → Deleted c t ms ms count false
  deleted_none b = record {
    kept = λ s q. kept_self (marks_need s) ms;
    filled = λ s f. f;
    answer = sym (none_any b);
    standing_then = sym (without_none test (literals (standing t ms count)) (none_any b));
  }

  deleted_at : (k : ℕ) → k < count → stands t ms k ≡ true → same_as c (clause_at t ms k) ≡ true → NoneBelow (same_as c) t ms k
      → Deleted c t ms (removed k ms) count true
  unfolding NoneBelow same_as
  deleted_at k lt on same b = record {
    kept = λ s q. removed_kept t ms k s (omega arith);
    filled = λ s f. removed_filled t ms k s f;
    answer = sym (any_map (map lit_of) test (standing t ms count) ∙ removed_any (same_as c) t ms k on same b count lt);
    standing_then = ap literals (removed_standing (same_as c) t ms k on same b count lt) ∙ without_map (map lit_of) test (standing t ms count);
  }

  -- none of the same set below n
  none_below : (n : ℕ) → NoneThere c t ms 0 n → NoneBelow (same_as c) t ms n
  unfolding NoneThere NoneBelow
  none_below n h k lt on = sym (ap (λ b. b && same_as c (clause_at t ms k)) on) ∙ h k (omega arith) lt

  pub none_deleted : NoneThere c t ms 0 count → Deleted c t ms ms count false
  none_deleted h = deleted_none (none_below count h)

  pub one_deleted : (k : ℕ) → (k < count) × (there c t ms k ≡ true) × NoneThere c t ms 0 k → Deleted c t ms (removed k ms) count true
  one_deleted k h = deleted_at k h.0 (and_l (stands t ms k) (same_as c (clause_at t ms k)) h.1) (and_r (stands t ms k) (same_as c (clause_at t ms k)) h.1) (none_below k h.2)

-- THE SEARCH, four places at a time
module _ (c : List ℕ) (t ms : List ℤ) where
  pub there_start : NoneThere c t ms 0 0
  unfolding NoneThere
  there_start j a b = absurd (omega arith)

  pub earliest_is : (k n : ℕ) (r : Option ℕ)
      → MatchOption r ((j : ℕ) → k ≤ j → j < n → there c t ms j ≡ false)
      (λ i. (k ≤ i) × (i < n) × (there c t ms i ≡ true) × ((j : ℕ) → k ≤ j → j < i → there c t ms j ≡ false))
      → Earliest c t ms k n r
  unfolding NoneThere
  earliest_is k n None h = h
  earliest_is k n (Some i) h = (h.1, h.2, h.3)

  pub there_none : (k n : ℕ) → NoneIn t ms k n → NoneThere c t ms k n
  unfolding NoneThere NoneIn
  there_none k n h j a b = ap (λ x. x && same_as c (clause_at t ms j)) (h j a b)

  pub there_more : (k m d n e : ℕ) → NoneThere c t ms k m → NoneThere c t ms d n → d ≤ m → e ≤ n → NoneThere c t ms k e
  unfolding NoneThere
  there_more k m d n e h g low high j a b = go (leb m j) refl
    where
      go : (x : Bool) → leb m j ≡ x → there c t ms j ≡ false
      go true q = let i = leb-true m j q in g j (omega arith) (omega arith)
      go false q = h j a (leb-false m j q)

  pub earliest_after : (k m d n : ℕ) → NoneThere c t ms k m → d ≤ m → (r : Option ℕ) → Earliest c t ms d n r → Earliest c t ms k n r
  earliest_after k m d n h low None f = there_more k m d n n h f low (omega arith)
  earliest_after k m d n h low (Some i) f = (f.0, f.1, there_more k m d i i h f.2 low (omega arith))

-- LISTING the literals of the deleted clause, one by one
pub listed_start : (f t : List ℕ) → Trailed f t 0 → Listed f t 0
listed_start f t r = record { trailed = r; marked = λ k h. absurd (omega arith) }

module _ (f t : List ℕ) (n l : ℕ) (h : Listed f t n) (small : l < 65536) (f' t' : List ℕ) (n' : ℕ) (a : Assumed f t n l f' t' n') where
  marked_old : (k : ℕ) → k < n → off f' (get_or t' k 0) ≡ true
  marked_old k lt =
      ap (off f') (assumed_kept f t n l f' t' n' a k lt) ∙ assumed_more f t n l h.trailed small f' t' n' a (get_or t k 0) (h.marked k lt)

  marked_new : (k : ℕ) → k < n' → off f' (get_or t' k 0) ≡ true
  marked_new k lt = go (leb n k) refl
    where
      go : (b : Bool) → leb n k ≡ b → off f' (get_or t' k 0) ≡ true
      go true q = ap (off f') (assumed_last f t n l h.trailed f' t' n' a k (leb-true n k q) lt)
          ∙ assumed_off f t n l h.trailed small f' t' n' a
      go false q = marked_old k (leb-false n k q)

  pub listed_more : Listed f' t' n'
  listed_more = record { trailed = trailed_assume f t n l h.trailed small f' t' n' a; marked = marked_new }

  pub more_by : MoreBy l (take n t) (take n' t')
  unfolding MoreBy
  more_by x = same_test (is_in (take n' t') x) (is_in (take n t) x || eqb x l)
      (λ e. either (λ q. or_r (is_in (take n t) x) (eqb x l) (eq-eqb x l q)) (λ q. or_l (is_in (take n t) x) (eqb x l) (old x q))
      (assumed_fewer f t n l h.trailed small f' t' n' a x (marked_is f' t' n' listed_more x ∙ e)))
      (λ e. sym (marked_is f' t' n' listed_more x) ∙ either (λ q. assumed_more f t n l h.trailed small f' t' n' a x (marked_is f t n h x ∙ q))
      (λ q. ap (off f') (eqb_eq x l q) ∙ assumed_off f t n l h.trailed small f' t' n' a) (or_cases (is_in (take n t) x) (eqb x l) e))
    where
      old : (x : ℕ) → off f x ≡ true → is_in (take n t) x ≡ true
      old x q = sym (marked_is f t n h x) ∙ q

-- A DELETION BY THE LITERALS AS WRITTEN, of which the trail holds each once
any_same : {A : Type 0} (p q : A → Bool) → ((x : A) → p x ≡ q x) → (xs : List A) → any p xs ≡ any q xs
any_same p q e [] = refl
any_same p q e (x ∷ xs) = ap₂ (λ a b. a || b) (e x) (any_same p q e xs)

without_same : {A : Type 0} (p q : A → Bool) → ((x : A) → p x ≡ q x) → (xs : List A) → without_first p xs ≡ without_first q xs
without_same p q e [] = refl
without_same p q e (x ∷ xs) =
    ap (chosen x xs (without_first p xs)) (e x) ∙ ap (λ ys. chosen x xs ys (q x)) (without_same p q e xs)

all_lits : (p q : Lit → Bool) → ((l : Lit) → p l ≡ q l) → (d : Lits) → all p d ≡ all q d
all_lits p q e [] = refl
all_lits p q e (l ∷ d) = ap₂ (λ a b. a && b) (e l) (all_lits p q e d)

module _ (c c' : List ℕ) (e : (x : ℕ) → is_in c x ≡ is_in c' x) where
  holds_same : (l : Lit) → holds (map lit_of c) l ≡ holds (map lit_of c') l
  holds_same l =
      ap (holds (map lit_of c)) (sym (lit_code l)) ∙ holds_lit c (code_of l) ∙ e (code_of l) ∙ sym (holds_lit c' (code_of l))
      ∙ ap (holds (map lit_of c')) (lit_code l)

  within_same : (d : Lits) → within (map lit_of c) d ≡ within (map lit_of c') d
  within_same d = same_test (within (map lit_of c) d) (within (map lit_of c') d) (to c c' (λ x. sym (e x))) (to c' c e)
    where
      to : (a b : List ℕ) → ((x : ℕ) → is_in b x ≡ is_in a x) → within (map lit_of a) d ≡ true → within (map lit_of b) d ≡ true
      to a b q h = in_all_lem (holds d) (map lit_of b) (λ l i. let s = map_in lit_of l b i in
          all_in (holds d) h (Memᴰ.cast s.2 (in_map lit_of (in_is a s.0 (sym (q s.0) ∙ is_in_lem b s.0 s.1)))))

  same_listed : (d : Lits) → same_set (map lit_of c) d ≡ same_set (map lit_of c') d
  same_listed d =
      ap₂ (λ (a b : Bool). a && b) (within_same d) (all_lits (holds (map lit_of c)) (holds (map lit_of c')) holds_same d)

  pub deleted_as : (t ms ms' : List ℤ) (count : ℕ) (r : Bool) → Deleted c t ms ms' count r → Deleted c' t ms ms' count r
  deleted_as t ms ms' count r v = record {
    kept = v.kept;
    filled = v.filled;
    answer = v.answer ∙ any_same (same_set (map lit_of c)) (same_set (map lit_of c')) same_listed (literals (standing t ms count));
    standing_then = v.standing_then ∙ without_same (same_set (map lit_of c)) (same_set (map lit_of c')) same_listed (literals (standing t ms count));
  }
