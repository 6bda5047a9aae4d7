-- Laws of the prefix and its table. Assumes nothing.
use mathlib.Core.Path.{◌≡◌, refl, ap, ap₂, sym, ◌∙◌, subst, subst₂}
use mathlib.Core.Bool.{Bool, true, false, not, cond, ◌&&◌, ◌||◌, true≢false}
use mathlib.Core.List.{List, [], ◌∷◌, ◌++◌, map, append_assoc, append-nil}
use Prim.Native.Nat.{ℕ, suc, ◌+◌, ◌*◌, ◌-◌, ◌/◌, ◌<◌, ◌≤◌}
use native.Mathlib.Omega.{arith}
use lib.ListN.{length, set, length-set, length-append}
use lib.IntN.{ℤ, pos}
use lib.Dec.{eqb, leb}
use borrow.Author.Tests.{eq-eqb, ne_eqb, eqb-true, eqb-false, leb-true}
use Rattle.std.specs.Prelude.{Ok, Err}
use Rattle.rules.specs.declared.Rule.TheVariants.{BoundTwice}
use Rattle.std.specs.List.{list_all as all}
use Rattle.cells.specs.Cells.{cell_at, Kept}
use Rattle.cells.proofs.Laws.{at_same, at_other, kept_self, kept_set, kept_chain}
use Rattle.rules.specs.Basics.{is_in, distinct}
use Rattle.rules.specs.Literals.{Lit, Lits, vars, var}
use Rattle.rules.specs.Codes.{code_of}
use Rattle.rules.specs.Formula.{Bound, for_all, exists, bound_var}
use Rattle.rules.proofs.Kit.{and_l, and_r, eqb_sym}
use Rattle.rules.proofs.CodesLaw.{var_code}
use Rattle.lists.specs.Stores.{written, in_range}
use Rattle.prefix.specs.Prefix.{entry, kind_of, mark_from, Shows}
use Rattle.prefix.specs.Prefix.{is_bound}
use Rattle.formula.specs.Tables.{Pass, pass}
use Rattle.formula.specs.Judged.{quantifier}

-- each in turn is not among those before
unfoldable pub fresh : List ℕ → List ℕ → Bool
fresh xs [] = true
fresh xs (v ∷ vs) = not (is_in xs v) && fresh (xs ++ (v ∷ [])) vs

-- FRESH IS DISTINCT
is_in_snoc : (l : List ℕ) (v a : ℕ) → is_in (l ++ (v ∷ [])) a ≡ is_in l a || eqb a v
is_in_snoc [] v a = go (eqb a v)
  where
    go : (t : Bool) → t || false ≡ t
    go true = refl
    go false = refl
is_in_snoc (x ∷ l) v a = ap (λ t. eqb a x || t) (is_in_snoc l v a) ∙ go (eqb a x)
  where
    go : (t : Bool) → t || (is_in l a || eqb a v) ≡ (t || is_in l a) || eqb a v
    go true = refl
    go false = refl

shuffle : (a b c d : Bool) → not (a || b) && (not c && d) ≡ not (b || c) && (not a && d)
shuffle true true c d = refl
shuffle true false true d = refl
shuffle true false false d = refl
shuffle false true c d = refl
shuffle false false true d = refl
shuffle false false false d = refl

distinct_snoc : (l : List ℕ) (v : ℕ) → distinct (l ++ (v ∷ [])) ≡ not (is_in l v) && distinct l
distinct_snoc [] v = refl
distinct_snoc (a ∷ l) v =
    ap₂ (λ x y. not x && y) (is_in_snoc l v a) (distinct_snoc l v) ∙ shuffle (is_in l a) (eqb a v) (is_in l v) (distinct l)
    ∙ ap (λ t. not (t || is_in l v) && (not (is_in l a) && distinct l)) (eqb_sym a v)

pub distinct_fresh : (vs xs : List ℕ) → distinct (vs ++ xs) ≡ fresh xs vs && distinct xs
unfolding fresh
distinct_fresh [] xs = refl
distinct_fresh (v ∷ vs) xs =
    sym (distinct_snoc (vs ++ xs) v) ∙ ap distinct (append_assoc vs xs (v ∷ []))
    ∙ distinct_fresh vs (xs ++ (v ∷ [])) ∙ ap (λ t. fresh (xs ++ (v ∷ [])) vs && t) (distinct_snoc xs v)
    ∙ go (fresh (xs ++ (v ∷ [])) vs) (is_in xs v) (distinct xs)
  where
    go : (f i d : Bool) → f && (not i && d) ≡ (not i && f) && d
    go true true d = refl
    go true false d = refl
    go false true d = refl
    go false false d = refl

pub fresh_append : (vs xs : List ℕ) → fresh xs vs && distinct xs ≡ distinct (xs ++ vs)
unfolding fresh
fresh_append [] xs = ap distinct (sym (append-nil xs))
fresh_append (v ∷ vs) xs =
    go (is_in xs v) (fresh (xs ++ (v ∷ [])) vs) (distinct xs) ∙ ap (λ t. fresh (xs ++ (v ∷ [])) vs && t) (sym (distinct_snoc xs v))
    ∙ fresh_append vs (xs ++ (v ∷ [])) ∙ ap distinct (append_assoc xs (v ∷ []) vs)
  where
    go : (i f d : Bool) → (not i && f) && d ≡ f && (not i && d)
    go true true d = refl
    go true false d = refl
    go false true d = refl
    go false false d = refl

-- VARIABLES WITH A QUANTIFIER
quantified : (q v : ℕ) → bound_var (quantifier q v) ≡ v
quantified q v = go (eqb q 1)
  where
    go : (t : Bool) → bound_var (cond t (for_all v) (exists v)) ≡ v
    go true = refl
    go false = refl

quantifier_kind : (q v : ℕ) → 1 ≤ q → q ≤ 2 → kind_of (quantifier q v) ≡ q
quantifier_kind q v h l = go (eqb q 1) refl
  where
    go : (t : Bool) → eqb q 1 ≡ t → kind_of (cond t (for_all v) (exists v)) ≡ q
    go true e = sym (eqb-true q 1 e)
    go false e = let n = eqb-false q 1 e in let z : q ≡ 1 → ⊥ = n in omega (arith, z)

abbrev pub bounds : List Bound → List ℕ
bounds bs = map bound_var bs

pub bounds_new : (q : ℕ) (vs : List ℕ) → bounds (map (quantifier q) vs) ≡ vs
bounds_new q [] = refl
bounds_new q (v ∷ vs) = ap₂ (λ x l. x ∷ l) (quantified q v) (bounds_new q vs)

pub bounds_append : (bs cs : List Bound) → bounds (bs ++ cs) ≡ bounds bs ++ bounds cs
bounds_append [] cs = refl
bounds_append (b ∷ bs) cs = ap (λ l. bound_var b ∷ l) (bounds_append bs cs)

-- THE TABLE
kind_positive : (b : Bound) → 0 < kind_of b
kind_positive (for_all v) = omega arith
kind_positive (exists v) = omega arith

mark_in : (k : ℕ) (bs : List Bound) (v : ℕ) → not (eqb (mark_from k bs v) 0) ≡ is_in (bounds bs) v
unfolding mark_from
mark_in k [] v = refl
mark_in k (b ∷ bs) v = go (eqb v (bound_var b)) (mark_in (k + 1) bs v)
  where
    go : (t : Bool) → not (eqb (mark_from (k + 1) bs v) 0) ≡ is_in (bounds bs) v → not (eqb (cond t (2 * k + kind_of b) (mark_from (k + 1) bs v)) 0) ≡ t || is_in (bounds bs) v
    go true h = ap not (ne_eqb (2 * k + kind_of b) 0 (λ e. let p = kind_positive b in omega arith))
    go false h = h

-- one variable more
module _ (c : Bound) where
  snoc_other : (k : ℕ) (bs : List Bound) (u : ℕ) → eqb u (bound_var c) ≡ false → mark_from k (bs ++ (c ∷ [])) u ≡ mark_from k bs u
  unfolding mark_from
  snoc_other k [] u e = ap (λ t. cond t (2 * k + kind_of c) 0) e
  snoc_other k (b ∷ bs) u e = ap (λ y. cond (eqb u (bound_var b)) (2 * k + kind_of b) y) (snoc_other (k + 1) bs u e)

  snoc_new : (k : ℕ) (bs : List Bound) → is_in (bounds bs) (bound_var c) ≡ false → mark_from k (bs ++ (c ∷ [])) (bound_var c) ≡ 2 * (k + length bs) + kind_of c
  unfolding mark_from
  snoc_new k [] e = ap (λ t. cond t (2 * k + kind_of c) 0) (eq-eqb (bound_var c) (bound_var c) refl) ∙ omega arith
  snoc_new k (b ∷ bs) e = go (eqb (bound_var c) (bound_var b)) e (snoc_new (k + 1) bs)
    where
      go : (t : Bool) → t || is_in (bounds bs) (bound_var c) ≡ false
          → (is_in (bounds bs) (bound_var c) ≡ false → mark_from (k + 1) (bs ++ (c ∷ [])) (bound_var c) ≡ 2 * (k + 1 + length bs) + kind_of c)
          → cond t (2 * k + kind_of b) (mark_from (k + 1) (bs ++ (c ∷ [])) (bound_var c)) ≡ 2 * (k + suc (length bs)) + kind_of c
      go true f r = absurd (true≢false f)
      go false f r = r f ∙ omega arith

module _ (n : ℕ) (p : List ℤ) (bs : List Bound) (s : Shows p n bs) where
  pub shows_in : (v : ℕ) → 1 ≤ v → v ≤ n → not (eqb (entry p v) 0) ≡ is_in (bounds bs) v
  unfolding Shows entry
  shows_in v h l =
      let e : v - 1 + 1 ≡ v = omega arith in
      let z : v ≡ 0 → ⊥ = λ k. omega arith in
      ap (λ x. not (eqb x 0)) (ap (λ b. cond b 0 (cell_at p (v - 1))) (ne_eqb v 0 z) ∙ s (v - 1) (omega arith) ∙ ap (mark_from 0 bs) e) ∙ mark_in 0 bs v

  pub shows_code : (l : Lit) → 1 ≤ var l → var l ≤ n → is_bound p (code_of l) ≡ is_in (bounds bs) (var l)
  unfolding is_bound
  shows_code l h k = ap (λ v. not (eqb (entry p v) 0)) (var_code l) ∙ shows_in (var l) h k

  pub shows_all : (c : Lits) → in_range n (vars c) ≡ true → all (is_bound p) (map code_of c) ≡ all (is_in (bounds bs)) (vars c)
  shows_all [] h = refl
  shows_all (l ∷ c) h =
      let a = and_l (leb 1 (var l) && leb (var l) n) (in_range n (vars c)) h in
      ap₂ (λ a b. a && b) (shows_code l (leb-true 1 (var l) (and_l (leb 1 (var l)) (leb (var l) n) a)) (leb-true (var l) n (and_r (leb 1 (var l)) (leb (var l) n) a)))
      (shows_all c (and_r (leb 1 (var l) && leb (var l) n) (in_range n (vars c)) h))

  shows_set : (c : Bound) → n ≤ length p → 1 ≤ bound_var c → bound_var c ≤ n → is_in (bounds bs) (bound_var c) ≡ false
      → Shows (set p (bound_var c - 1) (pos (2 * length bs + kind_of c))) n (bs ++ (c ∷ []))
  unfolding Shows
  shows_set c r h l f i k = go (eqb (i + 1) (bound_var c)) refl
    where
      go : (t : Bool) → eqb (i + 1) (bound_var c) ≡ t → cell_at (set p (bound_var c - 1) (pos (2 * length bs + kind_of c))) i ≡ mark_from 0 (bs ++ (c ∷ [])) (i + 1)
      go true e =
          let a : i + 1 ≡ bound_var c = eqb-true (i + 1) (bound_var c) e in
          let b : i ≡ bound_var c - 1 = omega arith in
          let d : 0 + length bs ≡ length bs = omega arith in
          ap (cell_at (set p (bound_var c - 1) (pos (2 * length bs + kind_of c)))) b
          ∙ at_same p (bound_var c - 1) (2 * length bs + kind_of c) (omega arith)
          ∙ sym (ap (mark_from 0 (bs ++ (c ∷ []))) a ∙ snoc_new c 0 bs f ∙ ap (λ j. 2 * j + kind_of c) d)
      go false e =
          at_other p (bound_var c - 1) i (2 * length bs + kind_of c) (λ g. eqb-false (i + 1) (bound_var c) e (omega arith))
          ∙ s i k ∙ sym (snoc_other c 0 bs (i + 1) e)

-- THE SECOND PASS OVER A PREFIX LINE, when all its variables are in range: the answer says whether they are fresh, and the table
-- then shows them
abbrev pub Says : Pass → Bool → ℕ → ℕ → List Bound → Type 0
Says x true n j bs = (x.answer ≡ Ok j) × Shows x.table n bs
Says x false n j bs = x.answer ≡ (Err BoundTwice)

pub record PassIs (n j : ℕ) (p : List ℤ) (b : Bool) (bs : List Bound) (x : Pass) : Type 0 where
  pub kept : Kept n p x.table
  pub says : Says x b n j bs

pass_as : {n j i : ℕ} {t p : List ℤ} {a b : Bool} {bs cs : List Bound} {x : Pass} → j ≡ i → a ≡ b → bs ≡ cs → Kept n p t → PassIs n j t a bs x → PassIs n i p b cs x
pass_as {n} {j} {i} {t} {p} {a} {b} {bs} {cs} {x} e f g k o = record {
  kept = kept_chain k o.kept;
  says = subst (λ l. Says x b n i l) g (subst₂ (λ a j. Says x a n j bs) f e o.says);
}

module _ (n q : ℕ) (least : 1 ≤ q) (most : q ≤ 2) where
  -- a variable in range
  module _ (l : Lit) (xs : List ℕ) (p : List ℤ) (bs : List Bound) (k : ℕ) (s : Shows p n bs) (low : 1 ≤ var l) (high : var l ≤ n) where
    abbrev after : Bool → Pass
    after b = cond b (record { answer = (Err BoundTwice); table = p }) (pass q (k + 1) xs (set p (var l - 1) (pos (2 * k + q))))

    one_more : pass q k (code_of l ∷ xs) p ≡ after (is_in (bounds bs) (var l))
    unfolding pass
    one_more =
        let z : code_of l ≡ 0 → ⊥ = λ e. omega (arith, low) in
        ap₂ (λ a b. cond a (record { answer = Ok k; table = p }) (cond b (record { answer = (Err BoundTwice); table = p }) (pass q (k + 1) xs (set p (code_of l / 2 - 1) (pos (2 * k + q))))))
        (ne_eqb (code_of l) 0 z) (shows_code n p bs s l low high)
        ∙ ap (λ v. cond (is_in (bounds bs) (var l)) (record { answer = (Err BoundTwice); table = p }) (pass q (k + 1) xs (set p (v - 1) (pos (2 * k + q))))) (var_code l)

    shows_more : k ≡ length bs → n ≤ length p → is_in (bounds bs) (var l) ≡ false → Shows (set p (var l - 1) (pos (2 * k + q))) n (bs ++ (quantifier q (var l) ∷ []))
    shows_more e r f =
        let v = quantified q (var l) in
        let b = quantifier_kind q (var l) least most in
        subst (λ t. Shows t n (bs ++ (quantifier q (var l) ∷ [])))
        (ap₂ (λ a b. set p (a - 1) (pos b)) v (ap₂ (λ a b. 2 * a + b) (sym e) b))
        (shows_set n p bs s (quantifier q (var l)) r (omega arith) (omega arith) (ap (is_in (bounds bs)) v ∙ f))

  pub pass_is : (c : Lits) (p : List ℤ) (bs : List Bound) (k : ℕ) → k ≡ length bs → n ≤ length p → Shows p n bs → in_range n (vars c) ≡ true
      → PassIs n (k + length c) p (fresh (bounds bs) (vars c)) (bs ++ map (quantifier q) (vars c)) (pass q k (written c) p)
  unfolding pass fresh
  pass_is [] p bs k e r s h =
      let j : k ≡ k + 0 = omega arith in
      record { kept = kept_self n p; says = (ap Ok j, subst (Shows p n) (sym (append-nil bs)) s) }
  pass_is (l ∷ c) p bs k e r s h =
      subst (PassIs n (k + suc (length c)) p (not (is_in (bounds bs) (var l)) && fresh (bounds bs ++ (var l ∷ [])) (vars c)) (bs ++ (quantifier q (var l) ∷ map (quantifier q) (vars c))))
      (sym (one_more l (written c) p bs k s low high))
      (go (is_in (bounds bs) (var l)) refl (pass_is c (set p (var l - 1) (pos (2 * k + q))) (bs ++ (quantifier q (var l) ∷ [])) (k + 1)))
    where
      a : leb 1 (var l) && leb (var l) n ≡ true
      a = and_l (leb 1 (var l) && leb (var l) n) (in_range n (vars c)) h

      low : 1 ≤ var l
      low = leb-true 1 (var l) (and_l (leb 1 (var l)) (leb (var l) n) a)

      high : var l ≤ n
      high = leb-true (var l) n (and_r (leb 1 (var l)) (leb (var l) n) a)

      new : List Bound
      new = bs ++ (quantifier q (var l) ∷ [])

      table : List ℤ
      table = set p (var l - 1) (pos (2 * k + q))

      go : (t : Bool) → is_in (bounds bs) (var l) ≡ t
          → (k + 1 ≡ length new → n ≤ length table → Shows table n new → in_range n (vars c) ≡ true
          → PassIs n (k + 1 + length c) table (fresh (bounds new) (vars c)) (new ++ map (quantifier q) (vars c)) (pass q (k + 1) (written c) table))
          → PassIs n (k + suc (length c)) p (not t && fresh (bounds bs ++ (var l ∷ [])) (vars c)) (bs ++ (quantifier q (var l) ∷ map (quantifier q) (vars c)))
          (cond t (record { answer = (Err BoundTwice); table = p }) (pass q (k + 1) (written c) table))
      go true f i = record { kept = kept_self n p; says = refl }
      go false f i =
          let j : k + 1 + length c ≡ k + suc (length c) = omega arith in
          pass_as j (ap (λ l. fresh l (vars c)) (bounds_append bs (quantifier q (var l) ∷ []) ∙ ap (λ v. bounds bs ++ (v ∷ [])) (quantified q (var l))))
          (append_assoc bs (quantifier q (var l) ∷ []) (map (quantifier q) (vars c)))
          (kept_set (var l - 1) (pos (2 * k + q)) (kept_self n p) (omega (arith, low, high)))
          (i (omega (arith, length-append bs (quantifier q (var l) ∷ []))) (omega (arith, length-set p (var l - 1) (pos (2 * k + q)))) (shows_more l (written c) p bs k s low high e r f)
          (and_r (leb 1 (var l) && leb (var l) n) (in_range n (vars c)) h))
