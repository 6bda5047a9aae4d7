-- Laws of values and of the trail. Assumes nothing.
use mathlib.Core.Path.{◌≡◌, refl, sym, ◌∙◌, ap, ap₂}
use mathlib.Core.Logic.{◌⊎◌, inl, inr}
use mathlib.Core.Bool.{Bool, true, false, cond, not}
use mathlib.Core.List.{List, [], ◌∷◌}
use Prim.Native.Nat.{ℕ, zero, suc, ◌+◌, ◌-◌, ◌%◌, ◌≤◌, ◌<◌}
use native.Mathlib.Omega.{arith}
use lib.Dec.{eqb}
use lib.ListN.{length, get_or, set, replicate, length-set, length-replicate}
use lib.Seq.{get_or-set_same, get_or-set_other}
use borrow.Author.Tests.{eqb-true, eqb-false, eq-eqb, ne_eqb}
use Rattle.cells.proofs.Laws.{zero_there, get_or_zeros}
use Rattle.rules.specs.Codes.{flip}
use Rattle.rules.proofs.CodesLaw.{flip_twice}
use Rattle.rules.proofs.Kit.{clear, either}
use Rattle.trail.specs.declared.Trail.{Trail}
use Rattle.trail.specs.Trail.{off, truth, zeros, Trailed, Ready, ReadyIn, Assumed, Undone}

-- VALUES
pub small_mod : (l : ℕ) → l < 65536 → l % 65536 ≡ l
small_mod l h = omega (arith, h)

pub off_yes : (f : List ℕ) (l : ℕ) → (get_or f l 0 ≡ 0 → ⊥) → off f l ≡ true
unfolding off
off_yes f l n = ap not (ne_eqb (get_or f l 0) 0 n)

pub off_no : (f : List ℕ) (l : ℕ) → get_or f l 0 ≡ 0 → off f l ≡ false
unfolding off
off_no f l e = ap not (eq-eqb (get_or f l 0) 0 e)

pub no_off : (f : List ℕ) (l : ℕ) → off f l ≡ false → get_or f l 0 ≡ 0
no_off f l e = go (eqb (get_or f l 0) 0) refl
  where
    go : (b : Bool) → eqb (get_or f l 0) 0 ≡ b → get_or f l 0 ≡ 0
    go true q = eqb-true _ _ q
    go false q = absurd (clear (off_yes f l (eqb-false _ _ q)) e)

pub truth_flip : (f : List ℕ) (l : ℕ) → truth f (flip l) ≡ off f l
truth_flip f l = ap (off f) (flip_twice l)

pub flip_other : (l : ℕ) → flip l ≡ l → ⊥
unfolding flip
flip_other l e = omega arith

pub flip_small : (l : ℕ) → l < 65536 → flip l < 65536
unfolding flip
flip_small l h = omega arith

-- COUNTING
pub zeros_set : (vs : List ℕ) (i v : ℕ) → i < length vs → get_or vs i 0 ≡ 0 → (v ≡ 0 → ⊥) → zeros (set vs i v) < zeros vs
unfolding zeros
zeros_set [] i v h e n = absurd (omega arith)
zeros_set (x ∷ vs) zero v h e n = rw (ne_eqb v 0 n, eq-eqb x 0 e) (omega arith)
zeros_set (x ∷ vs) (suc i) v h e n = let z = zeros_set vs i v (omega arith) e n in omega arith

-- where no place is 0, every literal is false
pub zeros_none : (vs : List ℕ) (i : ℕ) → zeros vs ≤ 0 → i < length vs → get_or vs i 0 ≡ 0 → ⊥
unfolding zeros
zeros_none [] i z h e = omega arith
zeros_none (x ∷ vs) zero z h e = let y : ◌≡◌ {A = ℕ} (cond (eqb x 0) 1 0) 1 = ap {B = ℕ} (λ b. cond b 1 0) (eq-eqb x 0 e) in omega (arith, y, z)
zeros_none (x ∷ vs) (suc i) z h e = zeros_none vs i (omega arith) (omega arith) e

-- a trail as long as the array cannot be
pub never_full : (f t : List ℕ) (n : ℕ) → Ready f t n → 65536 ≤ n → ⊥
never_full f t n r h = r.apart 0 (gone 0 (omega arith)) (gone (flip 0) (flip_small 0 (omega arith)))
  where
    gone : (l : ℕ) → l < 65536 → off f l ≡ true
    gone l q = off_yes f l (zeros_none f l (omega (arith, r.trailed.shape.room)) (omega (arith, r.trailed.shape.long)))

cond_le : (b : Bool) → cond b 1 0 ≤ 1
cond_le true = omega arith
cond_le false = omega arith

zeros_unset : (vs : List ℕ) (i : ℕ) → zeros (set vs i 0) ≤ 1 + zeros vs
unfolding zeros
zeros_unset [] i = omega arith
zeros_unset (x ∷ vs) zero = omega (arith, cond_le (eqb 0 0), cond_le (eqb x 0))
zeros_unset (x ∷ vs) (suc i) = let z = zeros_unset vs i in omega arith

-- WHAT IS FALSE after a store, a literal made false
module _ (f : List ℕ) (l : ℕ) where
  off_set : (k : ℕ) → off (set f l 1) k ≡ true → (k ≡ l) ⊎ (off f k ≡ true)
  off_set k q = go (eqb k l) refl
    where
      go : (b : Bool) → eqb k l ≡ b → (k ≡ l) ⊎ (off f k ≡ true)
      go true z = inl (eqb-true k l z)
      go false z = inr (unfold off in (ap (λ (x : ℕ). not (eqb x 0)) (sym (get_or-set_other f l k 1 0 (eqb-false k l z))) ∙ q))

  off_same : l < length f → off (set f l 1) l ≡ true
  off_same h = off_yes (set f l 1) l (λ z. let y = sym (get_or-set_same f l 1 0 h) ∙ z in omega arith)

  off_kept : l < length f → (k : ℕ) → off f k ≡ true → off (set f l 1) k ≡ true
  off_kept h k q = go (eqb k l) refl
    where
      go : (b : Bool) → eqb k l ≡ b → off (set f l 1) k ≡ true
      go true z = ap (off (set f l 1)) (eqb-true k l z) ∙ off_same h
      go false z = unfold off in (ap (λ (x : ℕ). not (eqb x 0)) (get_or-set_other f l k 1 0 (eqb-false k l z)) ∙ q)

-- one that was not false lengthens the trail
pub assumed_up : (f t : List ℕ) (n l : ℕ) (f' t' : List ℕ) (n' : ℕ) → Assumed f t n l f' t' n' → off f l ≡ false → (n < 65536) × (n' ≡ n + 1)
assumed_up f t n l f' t' n' (inl a) e = absurd (clear a.0 e)
assumed_up f t n l f' t' n' (inr a) e = (a.1, a.4)

-- the trail before it stays
pub assumed_kept : (f t : List ℕ) (n l : ℕ) (f' t' : List ℕ) (n' : ℕ) → Assumed f t n l f' t' n' → (k : ℕ) → k < n → get_or t' k 0 ≡ get_or t k 0
assumed_kept f t n l f' t' n' (inl a) k h = ap (λ (x : List ℕ). get_or x k 0) a.2
assumed_kept f t n l f' t' n' (inr a) k h =
    ap (λ (x : List ℕ). get_or x k 0) a.3 ∙ get_or-set_other t n k l 0 (λ q. omega arith)

-- and it stands last
pub assumed_last : (f t : List ℕ) (n l : ℕ) → Trailed f t n → (f' t' : List ℕ) (n' : ℕ) → Assumed f t n l f' t' n' → (k : ℕ) → n ≤ k → k < n' → get_or t' k 0 ≡ l
assumed_last f t n l r f' t' n' (inl a) k h lt = absurd (omega (arith, a.3))
assumed_last f t n l r f' t' n' (inr a) k h lt =
    let q : k ≡ n = omega (arith, a.4) in
    ap₂ (λ (x : List ℕ) (i : ℕ). get_or x i 0) a.3 q ∙ get_or-set_same t n l 0 (omega (arith, a.1, r.long))

-- one literal more on the trail
module _ (f t : List ℕ) (n l : ℕ) (r : Trailed f t n) (small : l < 65536) where
  inside : l < length f
  inside = omega (arith, r.shape.long)

  pub trail_old : (k : ℕ) → k < n → get_or (set t n l) k 0 ≡ get_or t k 0
  trail_old k h = get_or-set_other t n k l 0 (λ q. omega arith)

  module _ (e : off f l ≡ false) (lt : n < 65536) where
    trail_new : get_or (set t n l) n 0 ≡ l
    trail_new = get_or-set_same t n l 0 (omega (arith, r.long))

    listed_new : (k : ℕ) → off (set f l 1) k ≡ true → (j : ℕ) × (j < n + 1) × (get_or (set t n l) j 0 ≡ k)
    listed_new k q = either {D = (j : ℕ) × (j < n + 1) × (get_or (set t n l) j 0 ≡ k)} (λ z. (n, omega arith, trail_new ∙ sym z))
        (λ z. let h = r.listed k z in (h.0, omega (arith, h.1), trail_old h.0 h.1 ∙ h.2)) (off_set f l k q)

    trailed_new : Trailed (set f l 1) (set t n l) (n + 1)
    trailed_new = record {
      shape = record {
        long = length-set f l 1 ∙ r.shape.long;
        room = omega (arith, zeros_set f l 1 inside (no_off f l e) (λ q. omega arith), r.shape.room);
      };
      long = length-set t n l ∙ r.long;
      listed = listed_new;
    }

  pub trailed_assume : (f' t' : List ℕ) (n' : ℕ) → Assumed f t n l f' t' n' → Trailed f' t' n'
  trailed_assume f' t' n' (inl h) = rw (h.1, h.2, h.3) r
  trailed_assume f' t' n' (inr h) = rw (h.2, h.3, h.4) (trailed_new h.0 h.1)

  pub assumed_off : (f' t' : List ℕ) (n' : ℕ) → Assumed f t n l f' t' n' → off f' l ≡ true
  assumed_off f' t' n' (inl a) = ap (λ (x : List ℕ). off x l) a.1 ∙ a.0
  assumed_off f' t' n' (inr a) = ap (λ (x : List ℕ). off x l) a.2 ∙ off_same f l inside

  pub assumed_more : (f' t' : List ℕ) (n' : ℕ) → Assumed f t n l f' t' n' → (k : ℕ) → off f k ≡ true → off f' k ≡ true
  assumed_more f' t' n' (inl a) k q = ap (λ (x : List ℕ). off x k) a.1 ∙ q
  assumed_more f' t' n' (inr a) k q = ap (λ (x : List ℕ). off x k) a.2 ∙ off_kept f l inside k q

  pub assumed_fewer : (f' t' : List ℕ) (n' : ℕ) → Assumed f t n l f' t' n' → (k : ℕ) → off f' k ≡ true → (k ≡ l) ⊎ (off f k ≡ true)
  assumed_fewer f' t' n' (inl a) k q = inr (ap (λ (x : List ℕ). off x k) (sym a.1) ∙ q)
  assumed_fewer f' t' n' (inr a) k q = off_set f l k (ap (λ (x : List ℕ). off x k) (sym a.2) ∙ q)

-- TAKING BACK
off_unset : (f : List ℕ) (i l : ℕ) → off (set f i 0) l ≡ true → (l ≡ i → ⊥) × (off f l ≡ true)
off_unset f i l q = go (eqb l i) refl
  where
    go : (b : Bool) → eqb l i ≡ b → (l ≡ i → ⊥) × (off f l ≡ true)
    go true z = absurd (clear q (ap (off (set f i 0)) (eqb-true l i z) ∙ off_no (set f i 0) i (zero_there f i)))
    go false z = (eqb-false l i z, unfold off in (ap (λ (x : ℕ). not (eqb x 0)) (sym (get_or-set_other f i l 0 0 (eqb-false l i z))) ∙ q))

pub undone_step : (f₀ f t : List ℕ) (n i : ℕ) → 0 < n → i ≡ get_or t (n - 1) 0 → Undone f₀ t n f → Undone f₀ t (n - 1) (set f i 0)
undone_step f₀ f t n i h e u = record {
  trailed = record {
    shape = record { long = length-set f i 0 ∙ u.trailed.shape.long; room = omega (arith, zeros_unset f i, u.trailed.shape.room) };
    long = u.trailed.long;
    listed = λ l q. let o = off_unset f i l q in let k = u.trailed.listed l o.1 in
        (k.0, lower k.0 k.1 (λ z. o.0 (sym k.2 ∙ ap (λ (j : ℕ). get_or t j 0) z ∙ sym e)), k.2);
  };
  fewer = λ l q. u.fewer l (off_unset f i l q).1;
}
  where
    lower : (k : ℕ) → k < n → (k ≡ n - 1 → ⊥) → k < n - 1
    lower k a b = omega arith

pub ready_undone : (f t : List ℕ) (n base : ℕ) (f' : List ℕ) → Ready f t n → Undone f t base f' → Ready f' t base
ready_undone f t n base f' r u =
    record { trailed = u.trailed; apart = λ l p q. r.apart l (u.fewer l p) (u.fewer (flip l) q) }

-- a trail that was cut back is as ready as it was
pub ready_back : {f t : List ℕ} {n base : ℕ} {b : Trail} → Ready f t n → Undone f t base b.falses × (b.literals ≡ t) × (b.length ≡ base) → ReadyIn b
ready_back {f} {t} {n} {base} {b} r u = rw (u.1, u.2) (ready_undone f t n base b.falses r u.0)

-- AN EMPTY TRAIL
pub ready_empty : (f t : List ℕ) → Trailed f t 0 → Ready f t 0
ready_empty f t r = record { trailed = r; apart = λ l p q. absurd (let k = r.listed l p in omega (arith, k.1)) }

zeros_all : (n : ℕ) → zeros (replicate n 0) ≤ n
unfolding zeros
zeros_all zero = omega arith
zeros_all (suc n) = let h = zeros_all n in omega arith

-- at the start, with no literal false
pub ready_start : (t : List ℕ) → length t ≡ 65536 → Ready (replicate 65536 0) t 0
ready_start t h = ready_empty (replicate 65536 0) t record {
  shape = record { long = length-replicate {A = ℕ} 65536 0; room = omega (arith, zeros_all 65536) };
  long = h;
  listed = λ l e. absurd (clear e (off_no (replicate 65536 0) l (get_or_zeros 65536 l)));
}
