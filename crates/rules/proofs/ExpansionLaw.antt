-- Number 11 is the existence of t among all sets of universal literals without both signs of a variable; and the least t decides it.
use mathlib.Core.Path.{◌≡◌, refl, sym, ap, subst, ◌∙◌}
use mathlib.Core.Logic.{◌⊎◌, inl, inr, ◌↔◌}
use mathlib.Core.Bool.{Bool, true, false, not, ◌&&◌, false≢true}
use mathlib.Core.List.Memᴰ
use mathlib.Core.List.{List, [], ◌∷◌, ◌++◌, map}
use Prim.Native.Nat.{ℕ}
use lib.Dec.{eqb}
use Rattle.std.specs.List.{list_all as all, list_any as any, filter as keep}
use Rattle.rules.specs.Basics.{distinct}
use Rattle.rules.specs.Literals.{Lit, pos, neg, Lits, var, vars, negate, holds, within, both_signs}
use Rattle.rules.specs.Formula.{Formula, Bound, for_all, exists, bound_var, bound, is_for_all, universal, left_of, depends_on}
use Rattle.rules.specs.Expansion.{Copy, stands_for, annotation, universals, part, assignments_over, assignments, falsifies, same_literals, annotated_by, expands_by, expands}
use Rattle.rules.specs.Least.{annotations, least_by, expands_by_least, Proper}
use Rattle.rules.proofs.Kit.{clear, and_i, and_l, and_r, not_t, not_of_f, by_yes, eqb_eq, negate_twice, either, In, all_in, in_all_lem, in_any, any_in, keep_in, in_keep, holds_in, in_holds, same_test, var_negate}
use Rattle.rules.proofs.Good.{Sub, signs_in, in_signs}
use Rattle.rules.proofs.Assignments.{assignments_universal, assignments_apart, apart_signs}

-- t makes the line an expansion of the clause, by membership
pub record Works (f : Formula) (m : List Copy) (line clause t : Lits) : Type 0 where
  pub falsified : (l : Lit) → In l clause → universal f (var l) ≡ true → In (negate l) t
  pub literals : same_literals f m line clause ≡ true
  pub annotated : (p : ℕ) → In p (vars line) → (l : Lit) → In l (annotation m p) ↔ (In l t × (depends_on f (stands_for m p) (var l) ≡ true))

module _ (f : Formula) (m : List Copy) (line clause : Lits) where
  module _ (t : Lits) where
    abbrev is_falsified : Bool
    is_falsified = falsifies f t clause

    abbrev are_literals : Bool
    are_literals = same_literals f m line clause

    abbrev are_annotated : Bool
    are_annotated = all (annotated_by f m t) (vars line)

    abbrev left : ℕ → Lit → Bool
    left p l = depends_on f (stands_for m p) (var l)

    -- an annotation equals the part of t, by membership
    part_same : (p : ℕ) → annotated_by f m t p ≡ true → (l : Lit) → In l (annotation m p) ↔ (In l t × (left p l ≡ true))
    part_same p h l = (
      λ i. in_keep (left p) l t (holds_in (part f (stands_for m p) t) l (all_in (holds (part f (stands_for m p) t)) (and_l to back h) i)),
      λ s. holds_in (annotation m p) l (all_in (holds (annotation m p)) (and_r to back h) (keep_in (left p) s.0 s.1)),
    )
      where
        to : Bool
        to = within (annotation m p) (part f (stands_for m p) t)

        back : Bool
        back = within (part f (stands_for m p) t) (annotation m p)

    same_part : (p : ℕ) → ((l : Lit) → In l (annotation m p) ↔ (In l t × (left p l ≡ true))) → annotated_by f m t p ≡ true
    same_part p h =
        and_i (within (annotation m p) (part f (stands_for m p) t)) (within (part f (stands_for m p) t) (annotation m p))
        (in_all_lem (holds (part f (stands_for m p) t)) (annotation m p) λ l i.
        in_holds (part f (stands_for m p) t) l (let s = (h l).0 i in keep_in (left p) s.0 s.1))
        (in_all_lem (holds (annotation m p)) (part f (stands_for m p) t) λ l i.
        in_holds (annotation m p) l ((h l).1 (in_keep (left p) l t i)))

    pub works : expands_by f m line clause t ≡ true → Works f m line clause t
    unfolding expands_by
    works h = record {
      falsified = λ l i u. holds_in t (negate l)
          (all_in (λ l. holds t (negate l)) (and_l is_falsified are_literals (and_l (is_falsified && are_literals) are_annotated h))
          (keep_in (λ l. universal f (var l)) i u));
      literals = and_r is_falsified are_literals (and_l (is_falsified && are_literals) are_annotated h);
      annotated = λ p i. part_same p (all_in (annotated_by f m t) (and_r (is_falsified && are_literals) are_annotated h) i);
    }

    pub by_works : Works f m line clause t → expands_by f m line clause t ≡ true
    unfolding expands_by
    by_works w =
        and_i (is_falsified && are_literals) are_annotated
        (and_i is_falsified are_literals
        (in_all_lem (λ l. holds t (negate l)) (universals f clause) λ l i.
        let s = in_keep (λ l. universal f (var l)) l clause i in in_holds t (negate l) (w.falsified l s.0 s.1))
        w.literals)
        (in_all_lem (annotated_by f m t) (vars line) λ p i. same_part p (w.annotated p i))

  -- t counts as a set
  pub works_sets : (t u : Lits) → Sub t u → Sub u t → Works f m line clause t → Works f m line clause u
  works_sets t u tu ut w = record {
    falsified = λ l i h. tu (negate l) (w.falsified l i h);
    literals = w.literals;
    annotated = λ p i l.
        (λ k. let s = (w.annotated p i l).0 k in (tu l s.0, s.1), λ s. (w.annotated p i l).1 (ut l s.0, s.1));
  }

-- t over these variables, in their order: one of the enumerated assignments
abbrev pick : Bool → Bool → ℕ → Lits → Lits
pick true b v c = pos v ∷ c
pick false true v c = neg v ∷ c
pick false false v c = c

abbrev chosen : Lits → List ℕ → Lits
chosen t [] = []
chosen t (v ∷ vs) = pick (holds t (pos v)) (holds t (neg v)) v (chosen t vs)

module _ (f : Formula) where
  chosen_in : (t : Lits) (vs : List ℕ) → In (chosen t vs) (assignments_over vs)
  chosen_in t [] = Memᴰ.head refl
  chosen_in t (v ∷ vs) = go (holds t (pos v)) (holds t (neg v)) (chosen t vs) (chosen_in t vs)
    where
      go : (a b : Bool) (c : Lits) → In c (assignments_over vs) → In (pick a b v c) (assignments_over (v ∷ vs))
      go true b c i =
          Memᴰ.append_left (map (λ s. neg v ∷ s) (assignments_over vs))
          (Memᴰ.append_right (assignments_over vs) (Memᴰ.map (λ s. pos v ∷ s) i))
      go false true c i =
          Memᴰ.append_right (assignments_over vs ++ map (λ s. pos v ∷ s) (assignments_over vs)) (Memᴰ.map (λ s. neg v ∷ s) i)
      go false false c i =
          Memᴰ.append_left (map (λ s. neg v ∷ s) (assignments_over vs))
          (Memᴰ.append_left (map (λ s. pos v ∷ s) (assignments_over vs)) i)

  bound_in : (bs : List Bound) (v : ℕ) → any (is_for_all v) bs ≡ true → In v (map bound_var bs)
  bound_in bs v h = let s = any_in (is_for_all v) bs h in Memᴰ.cast (name s.0 s.2) (Memᴰ.map bound_var s.1)
    where
      name : (b : Bound) → is_for_all v b ≡ true → v ≡ bound_var b
      name (for_all w) e = eqb_eq v w e
      name (exists w) e = absurd (false≢true e)

module _ (t : Lits) where
  chosen_sub : (vs : List ℕ) → Sub (chosen t vs) t
  chosen_sub [] l i = absurd (Memᴰ.not-nil i)
  chosen_sub (v ∷ vs) l i = go (holds t (pos v)) (holds t (neg v)) refl refl (chosen_sub vs l) i
    where
      go : (a b : Bool) → holds t (pos v) ≡ a → holds t (neg v) ≡ b → (In l (chosen t vs) → In l t) → In l (pick a b v (chosen t vs)) → In l t
      go true b p q r j = either (λ e. Memᴰ.cast e (holds_in t (pos v) p)) r (Memᴰ.cases_cons j)
      go false true p q r j = either (λ e. Memᴰ.cast e (holds_in t (neg v) q)) r (Memᴰ.cases_cons j)
      go false false p q r j = r j

  pick_more : (a b : Bool) (v : ℕ) {l : Lit} {c : Lits} → In l c → In l (pick a b v c)
  pick_more true b v i = Memᴰ.tail i
  pick_more false true v i = Memᴰ.tail i
  pick_more false false v i = i

  module _ (apart : both_signs t ≡ false) where
    pick_here : (l : Lit) (v : ℕ) (c : Lits) → In l t → var l ≡ v → In l (pick (holds t (pos v)) (holds t (neg v)) v c)
    pick_here (pos w) v c i e = go (holds t (pos v)) (in_holds t (pos v) (Memᴰ.cast (ap pos (sym e)) i))
      where
        go : (a : Bool) → a ≡ true → In (pos w) (pick a (holds t (neg v)) v c)
        go true h = Memᴰ.head (ap pos e)
        go false h = absurd (false≢true h)
    pick_here (neg w) v c i e = go (holds t (pos v)) (holds t (neg v)) refl (in_holds t (neg v) j)
      where
        j : In (neg v) t
        j = Memᴰ.cast (ap neg (sym e)) i

        go : (a b : Bool) → holds t (pos v) ≡ a → b ≡ true → In (neg w) (pick a b v c)
        go true b p h = absurd (clear (in_signs t (neg v) j (holds_in t (pos v) p)) apart)
        go false true p h = Memᴰ.head (ap neg e)
        go false false p h = absurd (false≢true h)

    sub_chosen : (l : Lit) → In l t → {vs : List ℕ} → In (var l) vs → In l (chosen t vs)
    sub_chosen l i (Memᴰ.head {x = v} {xs = vs} e) = pick_here l v (chosen t vs) i e
    sub_chosen l i (Memᴰ.tail {x = v} {xs = vs} j) = pick_more (holds t (pos v)) (holds t (neg v)) v (sub_chosen l i j)

-- "an assignment t (a set of universal literals, never both signs of one variable)"
pub record Assignment (f : Formula) (t : Lits) : Type 0 where
  pub universals : (l : Lit) → In l t → universal f (var l) ≡ true
  pub apart : both_signs t ≡ false

module _ (f : Formula) (m : List Copy) (line clause : Lits) where
  pub expands_by_lem : (t : Lits) → Assignment f t → Works f m line clause t → expands f m line clause ≡ true
  unfolding expands
  expands_by_lem t a w =
      in_any (expands_by f m line clause) (chosen_in f t vs)
      (by_works f m line clause (chosen t vs) (works_sets f m line clause t (chosen t vs)
      (λ l i. sub_chosen t a.apart l i (keep_in (universal f) (bound_in f f.prefix (var l) (a.universals l i)) (a.universals l i)))
      (chosen_sub t vs) w))
    where
      vs : List ℕ
      vs = keep (universal f) (bound f)

  module _ (d : distinct (bound f) ≡ true) where
    pub expands_means : expands f m line clause ≡ true → (t : Lits) × Assignment f t × Works f m line clause t
    unfolding expands
    expands_means h =
        let s = any_in (expands_by f m line clause) (assignments f) h in (
          s.0,
          record { universals = assignments_universal f s.0 s.1; apart = apart_signs s.0 (assignments_apart f d s.0 s.1) },
          works f m line clause s.0 s.2,
        )

    -- NUMBER 11: "applies exactly if no such t exists"
    pub expands_exists : (expands f m line clause ≡ true) ↔ ((t : Lits) × Assignment f t × (expands_by f m line clause t ≡ true))
    expands_exists = (
      λ h. let s = expands_means h in (s.0, s.1, by_works f m line clause s.0 s.2),
      λ s. expands_by_lem s.0 s.1 (works f m line clause s.0 s.2),
    )

-- the annotations of copies, joined
annotations_in : (m : List Copy) (l : Lit) (p : ℕ) {ps : List ℕ} → In p ps → In l (annotation m p) → In l (annotations m ps)
annotations_in m l p (Memᴰ.head {x = q} {xs = ps} e) i =
    Memᴰ.append_left (annotations m ps) (subst (λ (z : ℕ). In l (annotation m z)) e i)
annotations_in m l p (Memᴰ.tail {x = q} {xs = ps} k) i = Memᴰ.append_right (annotation m q) (annotations_in m l p k i)

in_annotations : (m : List Copy) (l : Lit) (ps : List ℕ) → In l (annotations m ps) → (p : ℕ) × In p ps × In l (annotation m p)
in_annotations m l [] i = absurd (Memᴰ.not-nil i)
in_annotations m l (p ∷ ps) i =
    either (λ k. (p, Memᴰ.head refl, k))
    (λ k. let s = in_annotations m l ps k in (s.0, Memᴰ.tail s.1, s.2))
    (Memᴰ.append_cases (annotation m p) i)

-- a copy with an annotation is found in the mapping
pub annotation_in_lem : (m : List Copy) (p : ℕ) (l : Lit) → In l (annotation m p)
    → (c : Copy) × In c m × (annotation m p ≡ c.under) × (stands_for m p ≡ c.stands_for)
annotation_in_lem [] p l i = absurd (Memᴰ.not-nil i)
annotation_in_lem (c ∷ m) p l i = go (eqb p c.copy) refl i (annotation_in_lem m p l)
  where
    go : (b : Bool) → eqb p c.copy ≡ b → In l (elim b as (λ _. Lits) [ true ↦ c.under | false ↦ annotation m p ])
        → (In l (annotation m p) → (c : Copy) × In c m × (annotation m p ≡ c.under) × (stands_for m p ≡ c.stands_for))
        → (d : Copy) × In d (c ∷ m) × (annotation (c ∷ m) p ≡ d.under) × (stands_for (c ∷ m) p ≡ d.stands_for)
    go true e j r = (
      c,
      Memᴰ.head refl,
      ap (λ b. elim b as (λ _. Lits) [ true ↦ c.under | false ↦ annotation m p ]) e,
      ap (λ b. elim b as (λ _. ℕ) [ true ↦ c.stands_for | false ↦ stands_for m p ]) e,
    )
    go false e j r = let s = r j in (
      s.0,
      Memᴰ.tail s.1,
      ap (λ b. elim b as (λ _. Lits) [ true ↦ c.under | false ↦ annotation m p ]) e ∙ s.2,
      ap (λ b. elim b as (λ _. ℕ) [ true ↦ c.stands_for | false ↦ stands_for m p ]) e ∙ s.3,
    )

pub proper_depends : (f : Formula) (m : List Copy) → Proper f m → (p : ℕ) (l : Lit) → In l (annotation m p)
    → depends_on f (stands_for m p) (var l) ≡ true
proper_depends f m proper p l i =
    let s = annotation_in_lem m p l i in
    ap (λ (e : ℕ). depends_on f e (var l)) s.3 ∙ (proper.each s.0 s.1).dependent l (subst (In l) s.2 i)

module _ (f : Formula) (m : List Copy) (line clause : Lits) where
  -- what the least t holds
  pub in_least : (l : Lit) → In l (least_by f m line clause)
      → (In (negate l) clause × (universal f (var (negate l)) ≡ true)) ⊎ ((p : ℕ) × In p (vars line) × In l (annotation m p))
  unfolding least_by
  in_least l i =
      either
      (λ k. let s = Memᴰ.of_map negate (universals f clause) k in
      let e : negate l ≡ s.0 = ap negate (sym s.2) ∙ negate_twice s.0 in
      let q = in_keep (λ l. universal f (var l)) s.0 clause s.1 in
      inl (Memᴰ.cast e q.0, ap (λ x. universal f (var x)) e ∙ q.1))
      (λ k. inr (in_annotations m l (vars line) k))
      (Memᴰ.append_cases (map negate (universals f clause)) i)

  pub least_universal : (l : Lit) → In l clause → universal f (var l) ≡ true → In (negate l) (least_by f m line clause)
  unfolding least_by
  least_universal l i u = Memᴰ.append_left (annotations m (vars line)) (Memᴰ.map negate (keep_in (λ l. universal f (var l)) i u))

  pub least_annotation : (p : ℕ) (l : Lit) → In p (vars line) → In l (annotation m p) → In l (least_by f m line clause)
  unfolding least_by
  least_annotation p l i j = Memᴰ.append_right (map negate (universals f clause)) (annotations_in m l p i j)

  module _ (proper : Proper f m) where
    -- every t that works holds the least
    least_sub : (t : Lits) → Works f m line clause t → Sub (least_by f m line clause) t
    least_sub t w l i =
        either (λ s. subst (λ x. In x t) (negate_twice l) (w.falsified (negate l) s.0 s.1))
        (λ s. ((w.annotated s.0 s.1 l).0 s.2).0) (in_least l i)

    least_works : (t : Lits) → Works f m line clause t → Works f m line clause (least_by f m line clause)
    least_works t w = record {
      falsified = least_universal;
      literals = w.literals;
      annotated = λ p i l. (
        λ k. (least_annotation p l i k, proper_depends f m proper p l k),
        λ s. (w.annotated p i l).1 (least_sub t w l s.0, s.1),
      );
    }

    pub least_assignment : both_signs (least_by f m line clause) ≡ false → Assignment f (least_by f m line clause)
    least_assignment h = record {
      universals = λ l i.
          either (λ s. ap (universal f) (sym (var_negate l)) ∙ s.1)
          (λ s. and_l (universal f (var l)) (left_of f (var l) (stands_for m s.0)) (proper_depends f m proper s.0 l s.2))
          (in_least l i);
      apart = h;
    }

    -- THE LEAST t DECIDES
    pub expands_least : distinct (bound f) ≡ true → expands f m line clause ≡ expands_by_least f m line clause
    unfolding expands_by_least
    expands_least d =
        same_test (expands f m line clause) (not both && by)
        (λ h. let s = expands_means f m line clause d h in
        and_i (not both) by
        (not_of_f (by_yes both λ e. let q = signs_in least e in
        clear (in_signs s.0 q.0 (least_sub s.0 s.2 q.0 q.1) (least_sub s.0 s.2 (negate q.0) q.2)) s.1.apart))
        (by_works f m line clause least (least_works s.0 s.2)))
        (λ h. expands_by_lem f m line clause least (least_assignment (not_t both (and_l (not both) by h)))
        (works f m line clause least (and_r (not both) by h)))
      where
        least : Lits
        least = least_by f m line clause

        both : Bool
        both = both_signs least

        by : Bool
        by = expands_by f m line clause least
