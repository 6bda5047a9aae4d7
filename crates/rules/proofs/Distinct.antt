-- Lists of numbers without repeats. Assumes nothing.
use mathlib.Core.Path.{◌≡◌, refl, sym}
use mathlib.Core.Bool.{Bool, true, false, not, cond}
use mathlib.Core.List.Memᴰ
use mathlib.Core.List.{List, [], ◌∷◌, ◌++◌}
use Prim.Native.Nat.{ℕ}
use lib.Dec.{eqb}
use Rattle.std.specs.List.{filter as keep}
use Rattle.rules.specs.Basics.{is_in, distinct}
use Rattle.rules.proofs.Kit.{clear, and_l, and_r, and_i, not_t, not_of_f, by_yes, eqb_eq, eqb_self, either, In, in_any, any_in, in_keep}

pub in_is_in : (ns : List ℕ) (n : ℕ) → In n ns → is_in ns n ≡ true
in_is_in ns n i = in_any (eqb n) i (eqb_self n)

pub is_in_in : (ns : List ℕ) (n : ℕ) → is_in ns n ≡ true → In n ns
is_in_in ns n h = let s = any_in (eqb n) ns h in Memᴰ.cast (eqb_eq n s.0 s.2) s.1

-- the head of a list without repeats is not in its tail
pub distinct_head : (n : ℕ) (ns : List ℕ) → distinct (n ∷ ns) ≡ true → is_in ns n ≡ false
distinct_head n ns d = not_t (is_in ns n) (and_l (not (is_in ns n)) (distinct ns) d)

pub distinct_tail : (n : ℕ) (ns : List ℕ) → distinct (n ∷ ns) ≡ true → distinct ns ≡ true
distinct_tail n ns d = and_r (not (is_in ns n)) (distinct ns) d

pub distinct_keep : (p : ℕ → Bool) (ns : List ℕ) → distinct ns ≡ true → distinct (keep p ns) ≡ true
distinct_keep p [] d = refl
distinct_keep p (n ∷ ns) d = go (p n) (distinct_keep p ns (distinct_tail n ns d))
  where
    go : (b : Bool) → distinct (keep p ns) ≡ true → distinct (cond b (n ∷ keep p ns) (keep p ns)) ≡ true
    go true r =
        and_i (not (is_in (keep p ns) n)) (distinct (keep p ns))
        (not_of_f (by_yes (is_in (keep p ns) n) λ h.
        clear (in_is_in ns n (in_keep p n ns (is_in_in (keep p ns) n h)).0) (distinct_head n ns d)))
        r
    go false r = r

-- no number twice, by membership
abbrev pub Disjoint : List ℕ → List ℕ → Type 0
Disjoint ms ns = (n : ℕ) → In n ms → In n ns → ⊥

pub distinct_cons : (n : ℕ) (ns : List ℕ) → (In n ns → ⊥) → distinct ns ≡ true → distinct (n ∷ ns) ≡ true
distinct_cons n ns new d = and_i (not (is_in ns n)) (distinct ns) (not_of_f (by_yes (is_in ns n) λ h. new (is_in_in ns n h))) d

pub distinct_new : (n : ℕ) (ns : List ℕ) → distinct (n ∷ ns) ≡ true → In n ns → ⊥
distinct_new n ns d i = clear (in_is_in ns n i) (distinct_head n ns d)

pub distinct_append : (ms ns : List ℕ) → distinct ms ≡ true → distinct ns ≡ true → Disjoint ms ns → distinct (ms ++ ns) ≡ true
distinct_append [] ns d e apart = e
distinct_append (m ∷ ms) ns d e apart =
    distinct_cons m (ms ++ ns)
    (λ i. either (distinct_new m ms d) (apart m (Memᴰ.head refl)) (Memᴰ.append_cases ms i))
    (distinct_append ms ns (distinct_tail m ms d) e λ n i j. apart n (Memᴰ.tail i) j)

pub append_distinct : (ms ns : List ℕ) → distinct (ms ++ ns) ≡ true → (distinct ms ≡ true) × (distinct ns ≡ true) × Disjoint ms ns
append_distinct [] ns d = (refl, d, λ n i j. Memᴰ.not-nil i)
append_distinct (m ∷ ms) ns d =
    let s = append_distinct ms ns (distinct_tail m (ms ++ ns) d) in
    let new = distinct_new m (ms ++ ns) d in (
      distinct_cons m ms (λ i. new (Memᴰ.append_left ns i)) s.0,
      s.1,
      λ n i j. either (λ e. new (Memᴰ.append_right ms (Memᴰ.cast (sym e) j))) (λ k. s.2 n k j) (Memᴰ.cases_cons i),
    )

pub distinct_swap : (ms ns : List ℕ) → distinct (ms ++ ns) ≡ true → distinct (ns ++ ms) ≡ true
distinct_swap ms ns d = let s = append_distinct ms ns d in distinct_append ns ms s.1 s.0 λ n i j. s.2 n j i
