-- Laws of the indexes. Assumes nothing.
use mathlib.Core.Path.{◌≡◌, refl, ap, sym, ◌∙◌}
use mathlib.Core.Bool.{Bool, true, false, cond, ◌||◌}
use mathlib.Core.List.{List, [], ◌∷◌, ◌++◌}
use mathlib.Core.Option as rules
use Prim.Native.Nat.{ℕ, zero, suc, ◌+◌, ◌%◌, ◌≤◌, ◌<◌}
use native.Mathlib.Numerals.{add-one}
use native.Mathlib.Omega.{arith}
use lib.Dec.{eqb}
use lib.ListN.{length, get_or, set, replicate, length-replicate, length-set}
use lib.Seq.{get_or-set_same, get_or-set_other}
use borrow.Author.Tests.{eqb-true, eqb-false}
use Rattle.std.proofs.Common.{Option, Some, None, option_map}
use Rattle.rules.specs.Basics.{is_in}
use Rattle.rules.specs.Literals.{Lits}
use Rattle.rules.proofs.Kit.{or_fl, or_fr}
use Rattle.ferp_rules.specs.Lines.{clause_of}
use Rattle.indexes.specs.Shown.{place_in, counted, place_at, noted, IndexesShown}

-- no clause has an index yet
pub shown_start : IndexesShown (replicate 65537 0) []
unfolding place_in place_at
shown_start = record { long = length-replicate {A = ℕ} 65537 0; each = λ i l. ap counted (zeros 65537 i) }
  where
    zeros : (n i : ℕ) → get_or {A = ℕ} (replicate n 0) i 0 ≡ 0
    zeros zero i = refl
    zeros (suc n) zero = refl
    zeros (suc n) (suc i) = zeros n i

further_none : (x : Option ℕ) → option_map suc x ≡ None → x ≡ None
further_none None h = refl
further_none (Some k) h = cc

-- INDEX USED: it has a place
pub not_used : (is : List ℕ) (i : ℕ) → place_in is i ≡ None → is_in is i ≡ false
unfolding place_in
not_used [] i h = refl
not_used (j ∷ is) i h = go (eqb i j) (not_used is i) h
  where
    go : (b : Bool) → (place_in is i ≡ None → is_in is i ≡ false) → cond b (Some 0) (option_map suc (place_in is i)) ≡ None → (b || is_in is i) ≡ false
    go true r k = cc
    go false r k = r (further_none (place_in is i) k)

pub used : (is : List ℕ) (i k : ℕ) → place_in is i ≡ Some k → is_in is i ≡ true
unfolding place_in
used [] i k h = cc
used (j ∷ is) i k h = go (eqb i j) k (used is i) h
  where
    later : (x : Option ℕ) (k : ℕ) → place_in is i ≡ x → ((k : ℕ) → place_in is i ≡ Some k → is_in is i ≡ true) → option_map suc x ≡ Some k → is_in is i ≡ true
    later None k q r h = cc
    later (Some n) k q r h = r n q

    go : (b : Bool) (k : ℕ) → ((k : ℕ) → place_in is i ≡ Some k → is_in is i ≡ true) → cond b (Some 0) (option_map suc (place_in is i)) ≡ Some k → (b || is_in is i) ≡ true
    go true k r h = refl
    go false k r h = later (place_in is i) k refl r h

-- MISSING PARENT: it has no place
pub missing : (is : List ℕ) (cs : List Lits) (i : ℕ) → place_in is i ≡ None → clause_of is cs i ≡ rules.none
unfolding place_in
missing [] cs i h = refl
missing (j ∷ is) [] i h = refl
missing (j ∷ is) (c ∷ cs) i h = go (eqb i j) (missing is cs i) h
  where
    go : (b : Bool) → (place_in is i ≡ None → clause_of is cs i ≡ rules.none) → cond b (Some 0) (option_map suc (place_in is i)) ≡ None
        → ◌≡◌ {A = rules.Option Lits} (elim b as (λ _. rules.Option Lits) [ true ↦ rules.some c | false ↦ clause_of is cs i ]) rules.none
    go true r k = cc
    go false r k = r (further_none (place_in is i) k)

-- A PARENT by its place
pub record Found (is : List ℕ) (cs : List Lits) (i k : ℕ) : Type 0 where
  pub clause : clause_of is cs i ≡ rules.some (get_or cs k [])
  pub within : k < length cs

pub found : (is : List ℕ) (cs : List Lits) (i k : ℕ) → length is ≡ length cs → place_in is i ≡ Some k → Found is cs i k
unfolding place_in
found [] cs i k e h = cc
found (j ∷ is) [] i k e h = absurd (omega (arith, e))
found (j ∷ is) (c ∷ cs) i k e h =
    let r = go (eqb i j) (λ n. found is cs i n (omega (arith, e))) k h in record { clause = r.0; within = r.1 }
  where
    later : (n : ℕ) (x : Option ℕ) → place_in is i ≡ x → option_map suc x ≡ Some n → ((n : ℕ) → place_in is i ≡ Some n → Found is cs i n)
        → (clause_of is cs i ≡ rules.some (get_or (c ∷ cs) n [])) × (n < length (c ∷ cs))
    later n None q z r = cc
    later zero (Some m) q z r = absurd (let y : suc m ≡ 0 = cc in omega arith)
    later (suc n) (Some m) q z r =
        let y : suc m ≡ suc n = cc in
        let f = r n (q ∙ ap Some (let p : m ≡ n = omega arith in p)) in (f.clause, omega (arith, f.within))

    go : (b : Bool) → ((n : ℕ) → place_in is i ≡ Some n → Found is cs i n) → (n : ℕ) → cond b (Some 0) (option_map suc (place_in is i)) ≡ Some n
        → (elim b as (λ _. rules.Option Lits) [ true ↦ rules.some c | false ↦ clause_of is cs i ] ≡ rules.some (get_or (c ∷ cs) n [])) × (n < length (c ∷ cs))
    go true r zero q = (refl, omega arith)
    go true r (suc n) q = absurd (let y : 0 ≡ suc n = cc in omega arith)
    go false r n q = later n (place_in is i) refl q r

-- ONE CLAUSE MORE, whose index was not used
place_more : (is : List ℕ) (i j : ℕ) → is_in is i ≡ false → place_in (is ++ (i ∷ [])) j ≡ cond (eqb j i) (Some (length is)) (place_in is j)
unfolding place_in
place_more [] i j h = refl
place_more (k ∷ is) i j h =
    ap (λ n. cond (eqb j k) (Some 0) (option_map suc n)) (place_more is i j (or_fr (eqb i k) (is_in is i) h)) ∙ go (eqb j k) refl (eqb j i) refl
  where
    go : (b : Bool) → eqb j k ≡ b → (c : Bool) → eqb j i ≡ c
        → cond b (Some 0) (option_map suc (cond c (Some (length is)) (place_in is j)))
        ≡ cond c (Some (length (k ∷ is))) (cond b (Some 0) (option_map suc (place_in is j)))
    go true x true y =
        absurd (eqb-false i k (or_fl (eqb i k) (is_in is i) h) (sym (eqb-true j i y) ∙ eqb-true j k x))
    go true x false y = refl
    go false x true y = refl
    go false x false y = refl

-- the place noted is its number counted from 1
pub shown_set : {a is : List ℕ} → IndexesShown a is → (i : ℕ) → i ≤ 65536 → is_in is i ≡ false → {k : ℕ} → k ≡ length is + 1
    → IndexesShown (set a i k) (is ++ (i ∷ []))
unfolding place_at
shown_set {a} {is} h i l n {k} e = record {
  long = length-set a i k ∙ h.long;
  each = λ j m. go j m (eqb j i) refl ∙ sym (place_more is i j n);
}
  where
    go : (j : ℕ) → j ≤ 65536 → (b : Bool) → eqb j i ≡ b → counted (get_or (set a i k) j 0) ≡ cond (eqb j i) (Some (length is)) (place_in is j)
    go j m true q =
        ap counted (ap (λ x. get_or (set a x k) j 0) (sym (eqb-true j i q)) ∙ get_or-set_same a j k 0 (omega (arith, h.long, m)) ∙ e ∙ add-one (length is))
        ∙ sym (ap (λ b. cond b (Some (length is)) (place_in is j)) q)
    go j m false q =
        ap counted (get_or-set_other a i j k 0 (eqb-false j i q)) ∙ h.each j m ∙ sym (ap (λ b. cond b (Some (length is)) (place_in is j)) q)

pub shown_more : {a is : List ℕ} → IndexesShown a is → (i : ℕ) → i ≤ 65536 → is_in is i ≡ false → (k : ℕ) → (k + 1) % 4294967296 ≡ suc (length is)
    → IndexesShown (noted a i k) (is ++ (i ∷ []))
unfolding noted
shown_more h i l n k e = shown_set h i l n (omega (arith, e))
