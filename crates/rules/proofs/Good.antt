-- What propagation answers, with no order of units: stable exactly if a test on literals that is closed under the unit rule and holds no
-- literal with its negation holds the start. Code shows only that a literal it makes true is in every such test, or that its values are one.
use mathlib.Core.Path.{◌≡◌, refl, sym, ap, subst, ◌∙◌}
use mathlib.Core.Logic.{◌⊎◌, inl, inr}
use mathlib.Core.Bool.{Bool, true, false, not, ◌&&◌, ◌||◌, cond}
use mathlib.Core.List.Memᴰ
use mathlib.Core.List.{List, [], ◌∷◌, map}
use Prim.Native.Nat.{ℕ, zero, suc, ◌+◌, ◌≤◌, ◌<◌}
use native.Mathlib.Omega.{arith}
use lib.ListN.{length}
use Rattle.std.specs.List.{list_all as all}
use Rattle.rules.specs.Basics.{sum}
use Rattle.rules.specs.Literals.{Lit, pos, neg, Lits, negate, same, holds, both_signs}
use Rattle.rules.specs.declared.Outcome.{Outcome}
use Rattle.rules.specs.declared.Outcome.TheVariants.{Conflict, Stable}
use Rattle.rules.specs.Propagation.{Look, falsified, unit, nothing, not_false, look_at, look, or_else, seek, after, turns, propagate}
use Rattle.rules.proofs.Kit.{clear, and_i, and_l, and_r, not_t, not_of_f, by_no, decide, same_eq, same_self, negate_twice, either, In, all_in, in_all_lem, in_any, any_in, keep_in, in_keep, holds_in, in_holds, negate_other}

-- the unit rule at a clause: if each literal but l is false, l is true; a clause of false literals only makes every literal true
abbrev pub Closed : (Lit → Bool) → Lits → Type 0
Closed Q c = (l : Lit) → ((m : Lit) → In m c → (Q (negate m) ≡ true) ⊎ (m ≡ l)) → Q l ≡ true

pub record Good (S : List Lits) (Q : Lit → Bool) : Type 0 where
  pub consistent : (l : Lit) → Q l ≡ true → Q (negate l) ≡ true → ⊥
  pub closed : (c : Lits) → In c S → Closed Q c

-- Q holds every literal of A
abbrev pub Above : Lits → (Lit → Bool) → Type 0
Above A Q = (l : Lit) → In l A → Q l ≡ true

-- what a look at a clause says
abbrev pub Means : Lits → Lits → Look → Type 0
Means A c falsified = (m : Lit) → In m c → holds A (negate m) ≡ true
Means A c (unit l) =
    In l c × (holds A (negate l) ≡ false) × (holds A l ≡ false) × ((m : Lit) → In m c → (holds A (negate m) ≡ true) ⊎ (m ≡ l))
Means A c nothing = Closed (holds A) c

-- ns are the literals of c that are not false
module _ (A c : Lits) where
  look_at_means : (ns : Lits) → ((m : Lit) → In m ns → In m c × (holds A (negate m) ≡ false))
      → ((m : Lit) → In m c → (holds A (negate m) ≡ true) ⊎ In m ns) → Means A c (look_at A ns)
  look_at_means [] out back = λ m i. either (λ h. h) (λ k. absurd (Memᴰ.not-nil k)) (back m i)
  look_at_means (n ∷ ns) out back = go (all (same n) ns && not (holds A n)) refl
    where
      here : In n (n ∷ ns)
      here = Memᴰ.head refl

      only : (m : Lit) → all (same n) ns ≡ true → In m (n ∷ ns) → m ≡ n
      only m h k = either (λ e. e) (λ j. sym (same_eq n m (all_in (same n) h j))) (Memᴰ.cases_cons k)

      go : (b : Bool) → (all (same n) ns && not (holds A n)) ≡ b → Means A c (cond b (unit n) nothing)
      go true e = (
        (out n here).0,
        (out n here).1,
        not_t (holds A n) (and_r (all (same n) ns) (not (holds A n)) e),
        λ m i. either inl (λ k. inr (only m (and_l (all (same n) ns) (not (holds A n)) e) k)) (back m i),
      )
      go false e = λ l pre.
          let q : (m : Lit) → In m (n ∷ ns) → m ≡ l = λ m k. either (λ h. absurd (clear h (out m k).1)) (λ r. r) (pre m (out m k).0) in
          ap (holds A) (sym (q n here)) ∙ by_no (holds A n) (λ h. clear
          (and_i (all (same n) ns) (not (holds A n)) (in_all_lem (same n) ns λ m k. ap (same n) (q m (Memᴰ.tail k) ∙ sym (q n here)) ∙ same_self n) (not_of_f h)) e)

  pub look_means : Means A c (look A c)
  unfolding look
  look_means = look_at_means (not_false A c)
      (λ m k. let s = in_keep is_open m c k in (s.0, not_t (holds A (negate m)) s.1))
      (λ m i. either inl (λ h. inr (keep_in is_open i (not_of_f h))) (decide (holds A (negate m))))
    where
      is_open : Lit → Bool
      is_open l = not (holds A (negate l))

-- what a look at all the clauses finds
abbrev pub Finds : Lits → List Lits → Look → Type 0
Finds A S falsified = (c : Lits) × In c S × Means A c falsified
Finds A S (unit l) = (c : Lits) × In c S × Means A c (unit l)
Finds A S nothing = (c : Lits) → In c S → Closed (holds A) c

module _ (A c : Lits) (S : List Lits) where
  or_else_finds : (k r : Look) → Means A c k → Finds A S r → Finds A (c ∷ S) (or_else k r)
  or_else_finds falsified r h f = (c, Memᴰ.head refl, h)
  or_else_finds (unit l) r h f = (c, Memᴰ.head refl, h)
  or_else_finds nothing falsified h f = (f.0, Memᴰ.tail f.1, f.2)
  or_else_finds nothing (unit l) h f = (f.0, Memᴰ.tail f.1, f.2)
  or_else_finds nothing nothing h f = λ d i. either (λ q. subst (Closed (holds A)) (sym q) h) (f d) (Memᴰ.cases_cons i)

pub seek_finds : (A : Lits) (S : List Lits) → Finds A S (seek A S)
unfolding seek
seek_finds A [] = λ c i. absurd (Memᴰ.not-nil i)
seek_finds A (c ∷ S) = or_else_finds A c S (look A c) (seek A S) (look_means A c) (seek_finds A S)

pub apart : Stable ≡ Conflict → ⊥
apart e = let z : ◌≡◌ {A = ℕ} 0 1 = cc in omega arith

-- one more literal
pub in_cons : (l k : Lit) (A : Lits) → holds (k ∷ A) l ≡ true → (l ≡ k) ⊎ (holds A l ≡ true)
in_cons l k A h = either inl (λ i. inr (in_holds A l i)) (Memᴰ.cases_cons (holds_in (k ∷ A) l h))

abbrev pub Consistent : (Lit → Bool) → Type 0
Consistent Q = (l : Lit) → Q l ≡ true → Q (negate l) ≡ true → ⊥

consistent_cons : (k : Lit) (A : Lits) → Consistent (holds A) → holds A (negate k) ≡ false → Consistent (holds (k ∷ A))
consistent_cons k A co n l h g =
    either
    (λ e. either (λ q. negate_other l (q ∙ sym e)) (λ j. clear (ap (λ x. holds A (negate x)) (sym e) ∙ j) n) (in_cons (negate l) k A g))
    (λ i. either (λ q. clear (ap (holds A) (sym (ap negate q) ∙ negate_twice l) ∙ i) n) (co l i) (in_cons (negate l) k A g))
    (in_cons l k A h)

pub above_cons : (k : Lit) (A : Lits) (Q : Lit → Bool) → Q k ≡ true → Above A Q → Above (k ∷ A) Q
above_cons k A Q h a l i = either (λ e. ap Q e ∙ h) (a l) (Memᴰ.cases_cons i)

module _ (S : List Lits) (A : Lits) (Q : Lit → Bool) (g : Good S Q) (a : Above A Q) where
  -- what is false in A is false in Q
  holds_in_q : (l : Lit) → holds A l ≡ true → Q l ≡ true
  holds_in_q l h = a l (holds_in A l h)

  pub no_falsified : (c : Lits) → In c S → Means A c falsified → ⊥
  no_falsified c i h =
      g.consistent (pos 0) (g.closed c i (pos 0) λ m k. inl (holds_in_q (negate m) (h m k)))
      (g.closed c i (neg 0) λ m k. inl (holds_in_q (negate m) (h m k)))

  pub forced : (c : Lits) (l : Lit) → In c S → Means A c (unit l) → Q l ≡ true
  forced c l i h = g.closed c i l λ m k. either (λ e. inl (holds_in_q (negate m) e)) inr (h.3 m k)

-- a conflict refutes every good test above the start
after_conflict : (S : List Lits) (A : Lits) (r : Look) (k : Lit → Outcome) → Finds A S r → after r k ≡ Conflict
    → ((l : Lit) → k l ≡ Conflict → (Q : Lit → Bool) → Good S Q → Above (l ∷ A) Q → ⊥)
    → (Q : Lit → Bool) → Good S Q → Above A Q → ⊥
after_conflict S A falsified k f e more Q g a = no_falsified S A Q g a f.0 f.1 f.2
after_conflict S A (unit l) k f e more Q g a = more l e Q g (above_cons l A Q (forced S A Q g a f.0 l f.1 f.2) a)
after_conflict S A nothing k f e more Q g a = apart e

turns_conflict : (n : ℕ) (S : List Lits) (A : Lits) → turns n S A ≡ Conflict → (Q : Lit → Bool) → Good S Q → Above A Q → ⊥
unfolding turns
turns_conflict zero S A e Q g a = apart e
turns_conflict (suc n) S A e Q g a =
    after_conflict S A (seek A S) (λ l. turns n S (l ∷ A)) (seek_finds A S) e (λ l. turns_conflict n S (l ∷ A)) Q g a

-- how many literals of the clauses are not in A: each turn makes it less, so that the turns are enough
missing : Lits → Lits → ℕ
missing A [] = 0
missing A (l ∷ c) = cond (holds A l) 0 1 + missing A c

misses : Lits → List Lits → ℕ
misses A [] = 0
misses A (c ∷ S) = missing A c + misses A S

missing_le : (A c : Lits) → missing A c ≤ length c
unfolding missing
missing_le A [] = omega arith
missing_le A (l ∷ c) = go (holds A l) (missing_le A c)
  where
    go : (b : Bool) → missing A c ≤ length c → cond b 0 1 + missing A c ≤ suc (length c)
    go true h = omega arith
    go false h = omega arith

misses_le : (A : Lits) (S : List Lits) → misses A S ≤ sum (map length S)
unfolding misses
misses_le A [] = omega arith
misses_le A (c ∷ S) = omega (arith, missing_le A c, misses_le A S)

or_le : (a b : Bool) → cond (a || b) 0 1 ≤ cond b 0 1
or_le true true = omega arith
or_le true false = omega arith
or_le false b = omega arith

module _ (k : Lit) (A : Lits) where
  missing_cons : (c : Lits) → missing (k ∷ A) c ≤ missing A c
  unfolding missing
  missing_cons [] = omega arith
  missing_cons (l ∷ c) = omega (arith, missing_cons c, or_le (same l k) (holds A l))

  misses_cons : (S : List Lits) → misses (k ∷ A) S ≤ misses A S
  unfolding misses
  misses_cons [] = omega arith
  misses_cons (c ∷ S) = omega (arith, missing_cons c, misses_cons S)

  head_less : (l : Lit) (m n : ℕ) → m ≤ n → k ≡ l → holds A k ≡ false → cond (same l k || holds A l) 0 1 + m < cond (holds A l) 0 1 + n
  head_less l m n h e new =
      let p : same l k ≡ true = ap (λ x. same x k) (sym e) ∙ same_self k in
      let q : holds A l ≡ false = ap (holds A) (sym e) ∙ new in
      rw (p, q) (omega arith)

  missing_less : holds A k ≡ false → {c : Lits} → In k c → missing (k ∷ A) c < missing A c
  unfolding missing
  missing_less new (Memᴰ.head {x = l} {xs = c} e) =
      head_less l (missing (k ∷ A) c) (missing A c) (missing_cons c) e new
  missing_less new (Memᴰ.tail {x = l} {xs = c} i) =
      omega (arith, missing_less new i, or_le (same l k) (holds A l))

  misses_less : holds A k ≡ false → (c : Lits) → In k c → {S : List Lits} → In c S → misses (k ∷ A) S < misses A S
  unfolding misses
  misses_less new c i (Memᴰ.head {x = d} {xs = S} e) =
      omega (arith, missing_less new (subst (In k) e i), misses_cons S)
  misses_less new c i (Memᴰ.tail {x = d} {xs = S} j) = omega (arith, missing_cons d, misses_less new c i j)

-- a good test above A
abbrev pub Rests : List Lits → Lits → Type 0
Rests S A = (Q : Lit → Bool) × Good S Q × Above A Q

rests_less : (S : List Lits) (l : Lit) (A : Lits) → Rests S (l ∷ A) → Rests S A
rests_less S l A r = (r.0, r.1, λ m i. r.2 m (Memᴰ.tail i))

-- where the turns are enough, what is stable is good
after_stable : (S : List Lits) (A : Lits) (r : Look) (k : Lit → Outcome) → Finds A S r → Consistent (holds A) → after r k ≡ Stable
    → ((l : Lit) → misses (l ∷ A) S < misses A S → Consistent (holds (l ∷ A)) → k l ≡ Stable → Rests S (l ∷ A)) → Rests S A
after_stable S A falsified k f co e more = absurd (apart (sym e))
after_stable S A (unit l) k f co e more =
    rests_less S l A
    (more l (misses_less l A f.2.2 f.0 f.2.0 f.1) (consistent_cons l A co f.2.1) e)
after_stable S A nothing k f co e more = (holds A, record { consistent = co; closed = f }, in_holds A)

turns_stable : (n : ℕ) (S : List Lits) (A : Lits) → misses A S < n → Consistent (holds A) → turns n S A ≡ Stable → Rests S A
unfolding turns
turns_stable zero S A lt co e = absurd (omega arith)
turns_stable (suc n) S A lt co e =
    after_stable S A (seek A S) (λ l. turns n S (l ∷ A)) (seek_finds A S) co e
    (λ l fewer. turns_stable n S (l ∷ A) (omega arith))

-- both signs, as members
pub signs_in : (A : Lits) → both_signs A ≡ true → (l : Lit) × In l A × In (negate l) A
signs_in A h = let s = any_in (λ l. holds A (negate l)) A h in (s.0, s.1, holds_in A (negate s.0) s.2)

pub in_signs : (A : Lits) (l : Lit) → In l A → In (negate l) A → both_signs A ≡ true
in_signs A l i j = in_any (λ l. holds A (negate l)) i (in_holds A (negate l) j)

pub one_signed : (A : Lits) → both_signs A ≡ false → Consistent (holds A)
one_signed A h l p q = clear (in_signs A l (holds_in A l p) (holds_in A (negate l) q)) h

module _ (S : List Lits) (A : Lits) where
  pub conflict_no_good : propagate S A ≡ Conflict → (Q : Lit → Bool) → Good S Q → Above A Q → ⊥
  unfolding propagate
  conflict_no_good = go (both_signs A) refl
    where
      go : (b : Bool) → both_signs A ≡ b → cond b Conflict (turns (suc (sum (map length S))) S A) ≡ Conflict
          → (Q : Lit → Bool) → Good S Q → Above A Q → ⊥
      go true q e Q g a = let s = signs_in A q in g.consistent s.0 (a s.0 s.1) (a (negate s.0) s.2)
      go false q e Q g a = turns_conflict (suc (sum (map length S))) S A e Q g a

  pub stable_good : propagate S A ≡ Stable → Rests S A
  unfolding propagate
  stable_good = go (both_signs A) refl
    where
      go : (b : Bool) → both_signs A ≡ b → cond b Conflict (turns (suc (sum (map length S))) S A) ≡ Stable → Rests S A
      go true q e = absurd (apart (sym e))
      go false q e = turns_stable (suc (sum (map length S))) S A (omega (arith, misses_le A S)) (one_signed A q) e

  by_outcome : (P : Outcome → Type 0) → (propagate S A ≡ Conflict → P Conflict) → (propagate S A ≡ Stable → P Stable) → P (propagate S A)
  by_outcome P c s = go (propagate S A) refl
    where
      go : (o : Outcome) → propagate S A ≡ o → P o
      go Conflict e = c e
      go Stable e = s e

  -- a good test holds the start: stable
  pub is_stable : (Q : Lit → Bool) → Good S Q → Above A Q → propagate S A ≡ Stable
  is_stable Q g a = by_outcome (λ o. o ≡ Stable) (λ e. absurd (conflict_no_good e Q g a)) (λ e. refl)

  -- no good test holds the start: conflict
  pub is_conflict_lem : ((Q : Lit → Bool) → Good S Q → Above A Q → ⊥) → propagate S A ≡ Conflict
  is_conflict_lem none = by_outcome (λ o. o ≡ Conflict) (λ e. refl) (λ e. let r = stable_good e in absurd (none r.0 r.1 r.2))

-- as sets
abbrev pub Sub : Lits → Lits → Type 0
Sub A B = (l : Lit) → In l A → In l B

-- each clause of S stands in T, as a set of literals
abbrev pub Covered : List Lits → List Lits → Type 0
Covered S T = (c : Lits) → In c S → (d : Lits) × In d T × Sub c d × Sub d c

pub good_covered : (S T : List Lits) → Covered S T → (Q : Lit → Bool) → Good T Q → Good S Q
good_covered S T co Q g = record {
  consistent = g.consistent;
  closed = λ c i l pre. let x = co c i in g.closed x.0 x.1 l (λ m k. pre m (x.3 m k));
}

-- more clauses and a greater start keep a conflict
pub conflict_more : (S T : List Lits) (A B : Lits) → Covered S T → Sub A B → propagate S A ≡ Conflict → propagate T B ≡ Conflict
conflict_more S T A B co ab e =
    is_conflict_lem T B λ Q g a. conflict_no_good S A e Q (good_covered S T co Q g) (λ l i. a l (ab l i))

-- the answer depends on clauses and start as sets alone
pub propagate_sets : (S T : List Lits) (A B : Lits) → Covered S T → Covered T S → Sub A B → Sub B A → propagate S A ≡ propagate T B
propagate_sets S T A B st ts ab ba =
    by_outcome S A (λ o. o ≡ propagate T B)
    (λ e. sym (conflict_more S T A B st ab e))
    (λ e. by_outcome T B (λ o. Stable ≡ o) (λ e'. absurd (apart (sym e ∙ conflict_more T S B A ts ba e'))) (λ e'. refl))
