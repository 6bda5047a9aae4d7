-- Laws of codes that are marked and listed, each once. Assumes nothing.
use mathlib.Core.Path.{◌≡◌, refl, ap, ap₂, sym, subst, ◌∙◌}
use mathlib.Core.Logic.{◌⊎◌, inl, inr}
use mathlib.Core.Bool.{Bool, true, false, cond, ◌||◌, ◌&&◌, or_comm, and_comm}
use mathlib.Core.List.Memᴰ
use mathlib.Core.List.{List, [], ◌∷◌, ◌++◌}
use Prim.Native.Nat.{ℕ, zero, suc, ◌+◌, ◌-◌, ◌<◌, ◌≤◌}
use native.Mathlib.Omega.{arith}
use native.Mathlib.Numerals.{add-one}
use lib.ListN.{length, get_or, set, length-set, replicate, get_or-eq_default, take}
use lib.Seq.{get_or-set_same, get_or-set_other, set_out}
use lib.Dec.{eqb, ltb}
use borrow.Author.Tests.{eq-eqb, ne_eqb, eqb-true, eqb-false, lt-ltb, le-ltb, ltb-true, ltb-false}
use Rattle.std.specs.List.{list_all, list_any, filter}
use Rattle.std.proofs.lemmas.List.Folds.{list_all_more, list_any_more}
use Rattle.std.proofs.lemmas.List.Filters.{length-filter_more}
use Rattle.std.specs.List.{list_all as all, filter as keep}
use Rattle.rules.specs.Basics.{is_in, distinct}
use Rattle.rules.proofs.Kit.{clear, and_l, and_r, either, In}
use Rattle.rules.proofs.Distinct.{in_is_in, is_in_in, distinct_cons}
use Rattle.copies.specs.Marks.{Unmarked}
use Rattle.cells.proofs.Laws.{get_or_zeros}
use Rattle.assignment.specs.Held.{listed, is_new, adding, joined, zeros, Held, Holds, Noted}

-- THE LIST IN AN ARRAY
listed_set : (h : List ℕ) (n k v : ℕ) → n ≤ k → listed (set h k v) n ≡ listed h n
unfolding listed
listed_set h zero k v l = refl
listed_set h (suc n) k v l = ap₂ (λ a b. a ∷ b) (get_or-set_other h k n v 0 (λ e. omega arith)) (listed_set h n k v (omega arith))

listed_more : (h : List ℕ) (n v : ℕ) → n < length h → listed (set h n v) (n + 1) ≡ v ∷ listed h n
unfolding listed
listed_more h n v l =
    let e : n + 1 ≡ suc n = omega arith in
    ap (listed (set h n v)) e ∙ ap₂ (λ a b. a ∷ b) (get_or-set_same h n v 0 l) (listed_set h n n v (omega arith))

-- the same places in the order in which they were filled
module _ (h : List ℕ) where
  pub all_filled : (p : ℕ → Bool) (n : ℕ) → n ≤ length h → list_all p (take n h) ≡ all p (listed h n)
  unfolding listed
  all_filled p zero l = refl
  all_filled p (suc n) l =
      rw (← add-one) (list_all_more p h n 0 (omega arith) ∙ and_comm (list_all p (take n h)) (p (get_or h n 0))
      ∙ ap (λ b. p (get_or h n 0) && b) (all_filled p n (omega arith)))

  pub count_filled : (p : ℕ → Bool) (n : ℕ) → n ≤ length h → length (filter p (take n h)) ≡ length (keep p (listed h n))
  unfolding listed
  count_filled p zero l = refl
  count_filled p (suc n) l = rw (← add-one) (length-filter_more p h n 0 (omega arith) ∙ go (p (get_or h n 0)) (count_filled p n (omega arith)))
    where
      go : (b : Bool) → length (filter p (take n h)) ≡ length (keep p (listed h n))
          → length (filter p (take n h)) + cond b 1 0 ≡ length {A = ℕ} (cond b (get_or h n 0 ∷ keep p (listed h n)) (keep p (listed h n)))
      go true e = omega arith
      go false e = omega arith

  pub in_filled : (n y : ℕ) → n ≤ length h → is_in (take n h) y ≡ is_in (listed h n) y
  unfolding listed
  in_filled zero y l = refl
  in_filled (suc n) y l =
      rw (← add-one) (list_any_more (eqb y) h n 0 (omega arith)
      ∙ or_comm (list_any (eqb y) (take n h)) (eqb y (get_or h n 0))
      ∙ ap (λ b. eqb y (get_or h n 0) || b) (in_filled n y (omega arith)))

pub listed_length : (h : List ℕ) (n : ℕ) → length (listed h n) ≡ n
unfolding listed
listed_length h zero = refl
listed_length h (suc n) = ap suc (listed_length h n)

-- PLACES WITHOUT A MARK
zeros_set : (k : ℕ) (vs : List ℕ) (i v : ℕ) → i < k → i < length vs → get_or vs i 0 ≡ 0 → (v ≡ 0 → ⊥) → zeros k (set vs i v) < zeros k vs
unfolding zeros
zeros_set zero vs i v l h e n = absurd (omega arith)
zeros_set (suc k) [] i v l h e n = absurd (omega arith)
zeros_set (suc k) (x ∷ vs) zero v l h e n = rw (ne_eqb v 0 n, eq-eqb x 0 e) (omega arith)
zeros_set (suc k) (x ∷ vs) (suc i) v l h e n = let z = zeros_set k vs i v (omega arith) (omega arith) e n in omega arith

zeros_all : (k : ℕ) (vs : List ℕ) → zeros k vs ≤ k
unfolding zeros
zeros_all zero vs = omega arith
zeros_all (suc k) [] = omega arith
zeros_all (suc k) (v ∷ vs) = let h = zeros_all k vs in go (eqb v 0) h
  where
    go : (b : Bool) → zeros k vs ≤ k → cond b 1 0 + zeros k vs ≤ suc k
    go true h = omega arith
    go false h = omega arith

-- a code that can be added
module _ (s : List ℕ) (y : ℕ) where
  pub new_is : y < 8194 → y < length s → eqb (get_or s y 0) 0 ≡ is_new s y
  unfolding is_new
  new_is h k = sym (ap₂ (λ a b. a && (b && eqb (get_or s y 0) 0)) (lt-ltb y 8194 h) (lt-ltb y (length s) k))

module _ (s : List ℕ) (y : ℕ) (e : is_new s y ≡ true) where
  pub new_low : y < 8194
  unfolding is_new
  new_low = ltb-true y 8194 (and_l (ltb y 8194) (ltb y (length s) && eqb (get_or s y 0) 0) e)

  new_rest : (ltb y (length s) && eqb (get_or s y 0) 0) ≡ true
  unfolding is_new
  new_rest = and_r (ltb y 8194) (ltb y (length s) && eqb (get_or s y 0) 0) e

  pub new_inside : y < length s
  new_inside = ltb-true y (length s) (and_l (ltb y (length s)) (eqb (get_or s y 0) 0) new_rest)

  new_bare : get_or s y 0 ≡ 0
  new_bare = eqb-true (get_or s y 0) 0 (and_r (ltb y (length s)) (eqb (get_or s y 0) 0) new_rest)

-- ONE CODE MORE
module _ (t : List ℕ) (y : ℕ) where
  adding_high : 8194 ≤ y → adding t y ≡ t
  unfolding adding
  adding_high h = ap (λ b. cond b (cond (is_in t y) t (y ∷ t)) t) (le-ltb y 8194 h)

  adding_old : y < 8194 → is_in t y ≡ true → adding t y ≡ t
  unfolding adding
  adding_old h e = ap₂ (λ b i. cond b (cond i t (y ∷ t)) t) (lt-ltb y 8194 h) e

  adding_new : y < 8194 → is_in t y ≡ false → adding t y ≡ y ∷ t
  unfolding adding
  adding_new h e = ap₂ (λ b i. cond b (cond i t (y ∷ t)) t) (lt-ltb y 8194 h) e

  adding_keeps : {z : ℕ} → In z t → In z (adding t y)
  unfolding adding
  adding_keeps {z} i = go (ltb y 8194) (is_in t y)
    where
      go : (b k : Bool) → In z (cond b (cond k t (y ∷ t)) t)
      go true true = i
      go true false = Memᴰ.tail i
      go false k = i

  adding_has : y < 8194 → In y (adding t y)
  adding_has h = go (is_in t y) refl
    where
      go : (k : Bool) → is_in t y ≡ k → In y (adding t y)
      go true e = adding_keeps (is_in_in t y e)
      go false e = subst (In y) (sym (adding_new h e)) (Memᴰ.head refl)

  adding_from : {z : ℕ} → In z (adding t y) → In z t ⊎ (z ≡ y)
  unfolding adding
  adding_from {z} i = go (ltb y 8194) (is_in t y) i
    where
      go : (b k : Bool) → In z (cond b (cond k t (y ∷ t)) t) → In z t ⊎ (z ≡ y)
      go true true j = inl j
      go true false j = either inr inl (Memᴰ.cases_cons j)
      go false k j = inl j

  adding_distinct : distinct t ≡ true → distinct (adding t y) ≡ true
  unfolding adding
  adding_distinct d = go (ltb y 8194) (is_in t y) refl
    where
      go : (b k : Bool) → is_in t y ≡ k → distinct (cond b (cond k t (y ∷ t)) t) ≡ true
      go true true e = d
      go true false e = distinct_cons y t (λ i. clear (in_is_in t y i) e) d
      go false k e = d

-- SEVERAL
pub joined_append : (t a b : List ℕ) → joined t (a ++ b) ≡ joined (joined t a) b
unfolding joined
joined_append t [] b = refl
joined_append t (y ∷ a) b = joined_append (adding t y) a b

joined_keeps : (t ys : List ℕ) {z : ℕ} → In z t → In z (joined t ys)
unfolding joined
joined_keeps t [] i = i
joined_keeps t (y ∷ ys) i = joined_keeps (adding t y) ys (adding_keeps t y i)

pub joined_has : (t ys : List ℕ) {z : ℕ} → In z ys → z < 8194 → In z (joined t ys)
unfolding joined
joined_has t [] i h = absurd (Memᴰ.not-nil i)
joined_has t (y ∷ ys) {z} i h =
    either (λ e. joined_keeps (adding t y) ys (subst (λ (k : ℕ). In z (adding t k)) e (adding_has t z h))) (λ j. joined_has (adding t y) ys j h)
    (Memᴰ.cases_cons i)

pub joined_from : (t ys : List ℕ) {z : ℕ} → In z (joined t ys) → In z t ⊎ In z ys
unfolding joined
joined_from t [] i = inl i
joined_from t (y ∷ ys) i =
    either (λ j. either inl (λ e. inr (Memᴰ.head e)) (adding_from t y j)) (λ j. inr (Memᴰ.tail j)) (joined_from (adding t y) ys i)

pub joined_distinct : (t ys : List ℕ) → distinct t ≡ true → distinct (joined t ys) ≡ true
unfolding joined
joined_distinct t [] d = d
joined_distinct t (y ∷ ys) d = joined_distinct (adding t y) ys (adding_distinct t y d)

-- what is there already
joined_known : (t ys : List ℕ) → ((y : ℕ) → In y ys → y < 8194 → In y t) → joined t ys ≡ t
unfolding joined
joined_known t [] h = refl
joined_known t (y ∷ ys) h =
    ap (λ (l : List ℕ). joined l ys) (go (ltb y 8194) refl) ∙ joined_known t ys (λ z i. h z (Memᴰ.tail i))
  where
    go : (b : Bool) → ltb y 8194 ≡ b → adding t y ≡ t
    go true e = let l = ltb-true y 8194 e in adding_old t y l (in_is_in t y (h y (Memᴰ.head refl) l))
    go false e = adding_high t y (ltb-false y 8194 e)

pub joined_twice : (t ys : List ℕ) → joined (joined t ys) ys ≡ joined t ys
joined_twice t ys = joined_known (joined t ys) ys (λ y i h. joined_has t ys i h)

-- THE ARRAYS
module _ (s h : List ℕ) (n : ℕ) (held : Held s h n) where
  abbrev t : List ℕ
  t = listed h n

  module _ (y : ℕ) where
    pub mark_is : eqb (get_or s y 0) 1 ≡ is_in t y
    mark_is = ap (λ k. eqb k 1) (held.marked y) ∙ go (is_in t y)
      where
        go : (b : Bool) → eqb (cond b 1 0) 1 ≡ b
        go true = refl
        go false = refl

    module _ (e : is_new s y ≡ true) where
      fresh : is_in t y ≡ false
      fresh = sym mark_is ∙ ap (λ k. eqb k 1) (new_bare s y e)

      fewer : zeros 8194 (set s y 1) < zeros 8194 s
      fewer = zeros_set 8194 s y 1 (new_low s y e) (new_inside s y e) (new_bare s y e) (λ z. omega arith)

      pub add_room : n < 8194
      add_room = let a = held.room in let b = fewer in omega arith

      after : listed (set h n y) (n + 1) ≡ y ∷ t
      after = listed_more h n y (let a = add_room in omega (arith, held.long_list))

      after_marked : (k : ℕ) → get_or (set s y 1) k 0 ≡ cond (eqb k y || is_in t k) 1 0
      after_marked k = go (eqb k y) refl
        where
          go : (b : Bool) → eqb k y ≡ b → get_or (set s y 1) k 0 ≡ cond (b || is_in t k) 1 0
          go true q = ap (λ j. get_or (set s y 1) j 0) (eqb-true k y q) ∙ get_or-set_same s y 1 0 (new_inside s y e)
          go false q = get_or-set_other s y k 1 0 (eqb-false k y q) ∙ held.marked k

      pub add_new : Holds (set s y 1) (set h n y) (n + 1) (adding t y)
      add_new = record {
        held = record {
          marked = λ k. after_marked k ∙ sym (ap (λ (ys : List ℕ). cond (is_in ys k) 1 0) after);
          room = let a = held.room in let b = fewer in omega arith;
          long = omega (arith, length-set s y 1, held.long);
          long_list = omega (arith, length-set h n y, held.long_list);
        };
        codes = after ∙ sym (adding_new t y (new_low s y e) fresh);
      }

    pub add_known : is_new s y ≡ false → Holds s h n (adding t y)
    add_known e = record { held = held; codes = sym (go (ltb y 8194) refl (is_in t y) refl) }
      where
        -- a code without a mark could be added
        bare : ltb y 8194 ≡ true → is_in t y ≡ false → is_new s y ≡ true
        bare l i =
            let k : y < 8194 = ltb-true y 8194 l in
            sym (new_is s y k (omega (arith, held.long))) ∙ eq-eqb (get_or s y 0) 0 (held.marked y ∙ ap (λ b. cond b 1 0) i)

        go : (b : Bool) → ltb y 8194 ≡ b → (i : Bool) → is_in t y ≡ i → adding t y ≡ t
        go false l i f = adding_high t y (ltb-false y 8194 l)
        go true l true f = adding_old t y (ltb-true y 8194 l) f
        go true l false f = absurd (clear (bare l f) e)

-- arrays without a mark hold nothing
pub holds_none : (s h : List ℕ) {n : ℕ} → Unmarked s → 8194 ≤ length h → n ≡ 0 → Holds s h n []
unfolding listed
holds_none s h u l e = subst (λ k. Holds s h k []) (sym e) (record {
  held = record {
    marked = u.none;
    room = omega (arith, zeros_all 8194 s);
    long = u.long;
    long_list = l;
  };
  codes = refl;
})

-- TAKING BACK: only the codes ys are marked in s still
pub record Left (s ys : List ℕ) : Type 0 where
  pub long : 8194 ≤ length s
  pub none : (y : ℕ) → is_in ys y ≡ false → get_or s y 0 ≡ 0

pub left_all : (s h : List ℕ) (n : ℕ) → n ≤ length h → Held s h n → Left s (take n h)
left_all s h n l held = record {
  long = held.long;
  none = λ y e. held.marked y ∙ ap (λ b. cond b 1 0) (sym (in_filled h n y l) ∙ e);
}

-- NOTES
pub noted_none : (size : ℕ → ℕ) (n : ℕ) → Noted size (replicate n 0)
unfolding Noted
noted_none size n e h = absurd (h (get_or_zeros n e))

module _ (size : ℕ → ℕ) (memo : List ℕ) (n : Noted size memo) (e : ℕ) where
  pub noted_read : {k : ℕ} → k ≡ get_or memo e 0 → (k ≡ 0 → ⊥) → k - 1 ≡ size e
  unfolding Noted
  noted_read q h = let z = n e (λ y. h (q ∙ y)) in omega arith

  noted_here : {s : ℕ} → s ≡ size e → Noted size (set memo e (s + 1))
  unfolding Noted
  noted_here {s} q k h = go (eqb k e) refl (ltb e (length memo)) refl
    where
      go : (b : Bool) → eqb k e ≡ b → (c : Bool) → ltb e (length memo) ≡ c → get_or (set memo e (s + 1)) k 0 ≡ size k + 1
      go true p true l =
          let r = eqb-true k e p in
          ap (λ j. get_or (set memo e (s + 1)) j 0) r ∙ get_or-set_same memo e (s + 1) 0 (ltb-true e (length memo) l)
          ∙ ap (λ j. j + 1) (q ∙ ap size (sym r))
      go true p false l =
          let r = eqb-true k e p in
          absurd (h (ap (λ (m : List ℕ). get_or m k 0) (set_out memo e (s + 1) (ltb-false e (length memo) l))
          ∙ ap (λ j. get_or memo j 0) r ∙ get_or-eq_default memo 0 (ltb-false e (length memo) l)))
      go false p c l =
          let o = get_or-set_other memo e k (s + 1) 0 (eqb-false k e p) in o ∙ n k (λ z. h (o ∙ z))

  pub noted_more : {s : ℕ} → s ≡ size e → {m : List ℕ} → m ≡ set memo e (s + 1) → Noted size m
  noted_more {s} q {m} p = let P : List ℕ → Type 0 = Noted size in subst P (sym p) (noted_here q)
