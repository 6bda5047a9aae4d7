-- Propagation, RUP, RAT and deletion are sound.
use mathlib.Core.Path.{◌≡◌, refl, sym, ap, ◌∙◌}
use mathlib.Core.Bool.{Bool, true, false, not, ◌&&◌, cond, false≢true}
use mathlib.Core.List.Memᴰ
use mathlib.Core.List.{List, [], ◌∷◌, ◌++◌, map}
use Prim.Native.Nat.{ℕ, zero, suc}
use lib.ListN.{length}
use Rattle.std.specs.List.{list_any as any, list_all as all, filter as keep}
use Rattle.lines.specs.Lists.{is_empty}
use Rattle.rules.specs.Basics.{without_first, sum}
use Rattle.rules.specs.Literals.{Lit, Lits, negate, same, holds, both_signs}
use Rattle.rules.specs.Propagation.{Look, falsified, unit, nothing, not_false, look_at, look, or_else, seek, after, turns, propagate, is_conflict, rup, less, rat}
use Rattle.rules.specs.declared.Outcome.{Outcome}
use Rattle.rules.specs.declared.Outcome.TheVariants.{Conflict}
use Rattle.rules.proofs.Kit.{clear, decide, and_l, and_r, and_i, or_l, or_fl, or_fr, not_t, not_of_f, by_no, by_yes, same_eq, either, In, all_in, in_all_lem, in_any, Some, any_in, keep_in, in_keep, holds_in, in_holds}
use Rattle.rules.proofs.Valuation.{Valuation, value, satisfied, all_satisfied, value_negate, making, making_self, making_keeps}

-- what a look says of a valuation that makes the clauses and the literals in hand true
abbrev Means : Valuation → Look → Type 0
Means α falsified = ⊥
Means α (unit l) = value α l ≡ true
Means α nothing = Unit {0}

module _ (α : Valuation) (t : Lits) (true-t : all (value α) t ≡ true) where
  -- a true literal is not false in t
  not_false_lem : (l : Lit) → value α l ≡ true → not (holds t (negate l)) ≡ true
  not_false_lem l h = not_of_f (by_yes (holds t (negate l)) λ e.
      clear (all_in (value α) true-t (holds_in t (negate l) e)) (value_negate α l ∙ ap not h))

  not_false_true : (c : Lits) → satisfied α c ≡ true → satisfied α (not_false t c) ≡ true
  not_false_true c h =
      let s = any_in (value α) c h in
      in_any (value α) (keep_in (λ l. not (holds t (negate l))) s.1 (not_false_lem s.0 s.2)) s.2

  cond_means : (b : Bool) (l : Lit) → (b ≡ true → value α l ≡ true) → Means α (cond b (unit l) nothing)
  cond_means true l h = h refl
  cond_means false l h = tt

  look_at_means : (c : Lits) → satisfied α c ≡ true → Means α (look_at t c)
  look_at_means [] h = false≢true h
  look_at_means (l ∷ ls) h = cond_means (all (same l) ls && not (holds t l)) l λ e.
      one (and_l (all (same l) ls) (not (holds t l)) e) (any_in (value α) (l ∷ ls) h)
    where
      one : all (same l) ls ≡ true → Some (value α) (l ∷ ls) → value α l ≡ true
      one q s =
          either
          (λ e. sym (ap (value α) e) ∙ s.2)
          (λ m. ap (value α) (same_eq l s.0 (all_in (same l) q m)) ∙ s.2)
          (Memᴰ.cases_cons s.1)

  look_means : (c : Lits) → satisfied α c ≡ true → Means α (look t c)
  unfolding look
  look_means c h = look_at_means (not_false t c) (not_false_true c h)

  or_means : (k r : Look) → Means α k → Means α r → Means α (or_else k r)
  or_means falsified r h g = h
  or_means (unit l) r h g = h
  or_means nothing r h g = g

  seek_means : (cs : List Lits) → all_satisfied α cs ≡ true → Means α (seek t cs)
  unfolding seek
  seek_means [] h = tt
  seek_means (c ∷ cs) h =
      or_means
      (look t c)
      (seek t cs)
      (look_means c (and_l (satisfied α c) (all_satisfied α cs) h))
      (seek_means cs (and_r (satisfied α c) (all_satisfied α cs) h))

after_means : (α : Valuation) (k : Look) (g : Lit → Outcome) → Means α k → is_conflict (after k g) ≡ true
    → ((l : Lit) → value α l ≡ true → is_conflict (g l) ≡ true → ⊥) → ⊥
after_means α falsified g m h go = m
after_means α (unit l) g m h go = go l m h
after_means α nothing g m h go = false≢true h

-- no valuation makes true the clauses and the literals from which propagation conflicts
turns_sound : (n : ℕ) (cs : List Lits) (t : Lits) (α : Valuation)
    → is_conflict (turns n cs t) ≡ true → all_satisfied α cs ≡ true → all (value α) t ≡ true → ⊥
unfolding turns
turns_sound zero cs t α h hc ht = false≢true h
turns_sound (suc n) cs t α h hc ht =
    after_means α (seek t cs) (λ l. turns n cs (l ∷ t)) (seek_means α t ht cs hc) h λ l hl hn.
    turns_sound n cs (l ∷ t) α hn hc (and_i (value α l) (all (value α) t) hl ht)

both_signs_sound : (t : Lits) (α : Valuation) → both_signs t ≡ true → all (value α) t ≡ true → ⊥
both_signs_sound t α h ht =
    let s = any_in (λ l. holds t (negate l)) t h in
    clear
    (all_in (value α) ht (holds_in t (negate s.0) s.2))
    (value_negate α s.0 ∙ ap not (all_in (value α) ht s.1))

pub propagate_sound : (cs : List Lits) (t : Lits) (α : Valuation)
    → is_conflict (propagate cs t) ≡ true → all_satisfied α cs ≡ true → all (value α) t ≡ true → ⊥
unfolding propagate
propagate_sound cs t α h hc ht = go (both_signs t) refl h
  where
    go : (b : Bool) → both_signs t ≡ b → is_conflict (cond b Conflict (turns (suc (sum (map length cs))) cs t)) ≡ true → ⊥
    go true e k = both_signs_sound t α e ht
    go false e k = turns_sound (suc (sum (map length cs))) cs t α k hc ht

-- the negations of a clause that is not true are true
negations_true : (α : Valuation) (c : Lits) → satisfied α c ≡ false → all (value α) (map negate c) ≡ true
negations_true α [] h = refl
negations_true α (l ∷ c) h =
    and_i
    (value α (negate l))
    (all (value α) (map negate c))
    (value_negate α l ∙ not_of_f (or_fl (value α l) (satisfied α c) h))
    (negations_true α c (or_fr (value α l) (satisfied α c) h))

-- RUP: every valuation that makes the standing clauses true makes the clause true
pub rup_sound : (cs : List Lits) (c : Lits) (α : Valuation) → rup cs c ≡ true → all_satisfied α cs ≡ true → satisfied α c ≡ true
unfolding rup
rup_sound cs c α h hc = by_no (satisfied α c) λ e. propagate_sound cs (map negate c) α h hc (negations_true α c e)

module _ (cs : List Lits) (l : Lit) (c : Lits) (α : Valuation) (hc : all_satisfied α cs ≡ true) (e : satisfied α (l ∷ c) ≡ false) where
  -- a true literal of d other than the negation of l keeps d true where l is made true
  stays : (d : Lits) (m : Lit) → In m d → same m (negate l) ≡ false → value α m ≡ true → satisfied (making α l) d ≡ true
  stays d m i n h = in_any (value (making α l)) i (making_keeps α l m n h)

  without : (d : Lits) → In d cs → holds d (negate l) ≡ false → satisfied (making α l) d ≡ true
  without d i n =
      let s = any_in (value α) d (all_in (satisfied α) hc i) in
      stays d s.0 s.1
      (by_yes (same s.0 (negate l)) λ q. clear (in_holds d (negate l) (Memᴰ.cast (sym (same_eq s.0 (negate l) q)) s.1)) n)
      s.2

  joined : (d : Lits) → Some (value α) ((l ∷ c) ++ less (negate l) d) → satisfied (making α l) d ≡ true
  joined d s =
      either
      (λ k. absurd (clear (in_any (value α) k s.2) e))
      (λ k. let q = in_keep (λ m. not (same m (negate l))) s.0 d k in
      stays d s.0 q.0 (not_t (same s.0 (negate l)) q.1) s.2)
      (Memᴰ.append_cases (l ∷ c) s.1)

  -- a standing clause stays true
  one_kept : all (λ d. rup cs ((l ∷ c) ++ less (negate l) d)) (keep (λ d. holds d (negate l)) cs) ≡ true
      → (d : Lits) → In d cs → satisfied (making α l) d ≡ true
  one_kept h d i =
      either
      (λ n. joined d (any_in (value α) ((l ∷ c) ++ less (negate l) d)
      (rup_sound cs ((l ∷ c) ++ less (negate l) d) α
      (all_in (λ d. rup cs ((l ∷ c) ++ less (negate l) d)) h (keep_in (λ d. holds d (negate l)) i n))
      hc)))
      (without d i)
      (decide (holds d (negate l)))

-- a valuation that makes the standing clauses and one more true
abbrev pub Model : List Lits → Lits → Type 0
Model cs c = (α : Valuation) × (all_satisfied α cs ≡ true) × (satisfied α c ≡ true)

-- RAT: where the clause is not true, its first literal made true keeps the standing clauses true
pub rat_sound : (cs : List Lits) (c : Lits) (α : Valuation) → rat cs c ≡ true → all_satisfied α cs ≡ true → Model cs c
unfolding rat
rat_sound cs [] α h hc = absurd (false≢true h)
rat_sound cs (l ∷ c) α h hc =
    either
    (λ e. (α, hc, e))
    (λ e. (
      making α l,
      in_all_lem (satisfied (making α l)) cs (one_kept cs l c α hc e h),
      or_l (value (making α l) l) (satisfied (making α l) c) (making_self α l),
    ))
    (decide (satisfied α (l ∷ c)))

-- a deletion keeps the others true
pub without_satisfied : (p : Lits → Bool) (cs : List Lits) (α : Valuation) → all_satisfied α cs ≡ true
    → all_satisfied α (without_first p cs) ≡ true
without_satisfied p [] α h = refl
without_satisfied p (d ∷ cs) α h =
    go (p d) (and_l (satisfied α d) (all_satisfied α cs) h) (and_r (satisfied α d) (all_satisfied α cs) h)
    (without_satisfied p cs α (and_r (satisfied α d) (all_satisfied α cs) h))
  where
    go : (b : Bool) → satisfied α d ≡ true → all_satisfied α cs ≡ true → all_satisfied α (without_first p cs) ≡ true
        → all_satisfied α (elim b as (λ _. List Lits) [ true ↦ cs | false ↦ d ∷ without_first p cs ]) ≡ true
    go true hd hc r = hc
    go false hd hc r = and_i (satisfied α d) (all_satisfied α (without_first p cs)) hd r

empty_false : (c : Lits) (α : Valuation) → is_empty c ≡ true → satisfied α c ≡ true → ⊥
empty_false [] α h k = false≢true k
empty_false (l ∷ c) α h k = false≢true h

-- where an empty clause stands, no valuation makes the standing clauses true
pub empty_stands : (cs : List Lits) (α : Valuation) → any is_empty cs ≡ true → all_satisfied α cs ≡ true → ⊥
empty_stands cs α h hc =
    let s = any_in is_empty cs h in
    empty_false s.0 α s.2 (all_in (satisfied α) hc s.1)
