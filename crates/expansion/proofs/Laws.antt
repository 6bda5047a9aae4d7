-- THE ANSWER OVER THE TABLES IS THE RULES' EXPANSION. Assumes nothing.
use mathlib.Core.Path.{◌≡◌, refl, sym, ap, ap₂, subst, ◌∙◌}
use mathlib.Core.Bool.{Bool, true, false, not, cond, ◌&&◌, ◌||◌, false≢true}
use mathlib.Core.List.Memᴰ
use mathlib.Core.List.{List, [], ◌∷◌, ◌++◌, map, map-append}
use Prim.Native.Nat.{ℕ, ◌+◌, ◌*◌, ◌/◌, ◌%◌, ◌≤◌, ◌<◌}
use native.Mathlib.Omega.{arith}
use lib.IntN.{ℤ}
use lib.Dec.{eqb}
use lib.ListN.{length}
use borrow.Author.Tests.{eq-eqb, eqb-true}
use Rattle.std.specs.List.{list_all as all, filter as keep}
use Rattle.cells.specs.Cells.{list_at}
use Rattle.rules.specs.Basics.{is_in, distinct}
use Rattle.rules.specs.Literals.{Lit, Lits, pos, neg, var, vars, negate, over, holds, within, both_signs}
use Rattle.rules.specs.Formula.{Formula, bound, universal, existential, left_of, depends_on}
use Rattle.rules.specs.Expansion.{Copy, is_mapped, stands_for, annotation, universals, existentials, part, falsifies, same_literals, annotated_by, expands_by, expands}
use Rattle.rules.specs.Codes.{code_of, lit_of, flip}
use Rattle.rules.specs.Least.{annotations, least_by, expands_by_least, ProperCopy, Proper}
use Rattle.rules.proofs.Kit.{clear, and_l, and_r, and_i, not_t, not_of_f, by_yes, either, var_negate, In, all_in, in_all_lem, keep_in, in_keep, holds_in, in_holds, same_test}
use Rattle.rules.proofs.CodesLaw.{lit_code, code_negate, var_code, holds_code}
use Rattle.rules.proofs.Distinct.{in_is_in, is_in_in, distinct_cons, distinct_new, distinct_tail, distinct_keep}
use Rattle.rules.proofs.Good.{signs_in, in_signs}
use Rattle.rules.proofs.ExpansionLaw.{annotation_in_lem, proper_depends, in_least, least_universal, least_annotation, expands_least}
use Rattle.prefix.specs.Prefix.{entry, is_universal, is_existential, dependency}
use Rattle.prefix.specs.Prefix.{Told}
use Rattle.prefix.proofs.Laws.{told_universal, told_existential, told_depends, universal_ranged, existential_ranged}
use Rattle.assignment.specs.Held.{joined}
use Rattle.copies.specs.Copies.{stands_of, annotation_of, image_of, images_of}
use Rattle.literals.specs.Literals.{in_clause, in_line, literals_fit}
use Rattle.assignment.specs.Annotations.{alone, apart, annotations_of, negations, part_size, is_part, least_of, copy_fits, annotations_fit}
use Rattle.expansion.specs.Codes.{expands_codes, expands_at}
use Rattle.assignment.proofs.HeldLaws.{joined_has, joined_from, joined_distinct}
use Rattle.expansion.proofs.Counting.{same_count}

-- WHAT THE TABLES SHOW: the prefix with variables up to n, none above 4096, the line, the clause with its variables bound, and of the line's copies, all
-- mapped, their existentials and annotations, as rules 7 and 8 let them be
pub record Shown (prefix values maps proof matrix : List ℤ) (l c n : ℕ) (f : Formula) (m : List Copy) (line clause : Lits) : Type 0 where
  pub told : Told prefix n f
  pub low : n ≤ 4096
  pub the_line : list_at proof l ≡ map code_of line
  pub the_clause : list_at matrix c ≡ map code_of clause
  pub closed : all (is_in (bound f)) (vars clause) ≡ true
  pub mapped : all (is_mapped m) (vars line) ≡ true
  pub stands : (p : ℕ) → In p (vars line) → stands_of values maps p ≡ stands_for m p
  pub annotated : (p : ℕ) → In p (vars line) → annotation_of values maps p ≡ map code_of (annotation m p)
  pub proper : Proper f m

-- a mapped copy stands for an existential
mapped_stands : (f : Formula) (m : List Copy) (p : ℕ) → ((c : Copy) → In c m → ProperCopy f c) → is_mapped m p ≡ true
    → existential f (stands_for m p) ≡ true
mapped_stands f [] p each h = absurd (false≢true h)
mapped_stands f (c ∷ m) p each h =
    go (eqb p c.copy) (each c (Memᴰ.head refl)).stands (mapped_stands f m p λ d i. each d (Memᴰ.tail i)) h
  where
    go : (b : Bool) → existential f c.stands_for ≡ true → (is_mapped m p ≡ true → existential f (stands_for m p) ≡ true)
        → b || is_mapped m p ≡ true → existential f (elim b as (λ _. ℕ) [ true ↦ c.stands_for | false ↦ stands_for m p ]) ≡ true
    go true e r k = e
    go false e r k = r k

-- an existential depends on universals only
depends_universal : (f : Formula) (e u : ℕ) → depends_on f e u ≡ true → universal f u ≡ true
depends_universal f e u h = and_l (universal f u) (left_of f u e) h

-- CODES OF CLAUSES
module _ (c : Lits) (x : Lit) where
  in_code : In x c → is_in (map code_of c) (code_of x) ≡ true
  in_code i = in_is_in (map code_of c) (code_of x) (Memᴰ.map code_of i)

  code_in : is_in (map code_of c) (code_of x) ≡ true → In x c
  code_in h = holds_in c x (holds_code c x ∙ h)

module _ (P : ℕ → Bool) (c : Lits) where
  code_at_lem : all P (map code_of c) ≡ true → (x : Lit) → In x c → P (code_of x) ≡ true
  code_at_lem h x i = all_in P h (Memᴰ.map code_of i)

  at_code : ((x : Lit) → In x c → P (code_of x) ≡ true) → all P (map code_of c) ≡ true
  at_code h = in_all_lem P (map code_of c) λ y i. let s = Memᴰ.of_map code_of c i in sym (ap P s.2) ∙ h s.0 s.1

codes_distinct : (c : Lits) → distinct (vars c) ≡ true → distinct (map code_of c) ≡ true
codes_distinct [] d = refl
codes_distinct (x ∷ c) d =
    distinct_cons (code_of x) (map code_of c)
    (λ i. let s = Memᴰ.of_map code_of c i in
    distinct_new (var x) (vars c) d (Memᴰ.cast (sym (sym (var_code s.0) ∙ ap (λ k. k / 2) s.2 ∙ var_code x)) (Memᴰ.map var s.1)))
    (codes_distinct c (distinct_tail (var x) (vars c) d))

code_low : (x : Lit) (n : ℕ) → var x ≤ n → n ≤ 4096 → code_of x < 8194
code_low (pos v) n h k = omega arith
code_low (neg v) n h k = omega arith

-- a test of codes and one of variables
all_codes : (P Q : ℕ → Bool) (c : Lits) → ((x : Lit) → In x c → P (code_of x) ≡ Q (var x)) → all P (map code_of c) ≡ all Q (vars c)
all_codes P Q [] h = refl
all_codes P Q (x ∷ c) h = ap₂ ◌&&◌ (h x (Memᴰ.head refl)) (all_codes P Q c λ y i. h y (Memᴰ.tail i))

code_over : (st g : ℕ → ℕ) (x : Lit) → st (var x) ≡ g (var x) → image_of st (code_of x) ≡ code_of (over g x)
unfolding image_of
code_over st g (pos n) e =
    let a : (2 * n + 0) / 2 ≡ n = omega arith in
    let b : (2 * n + 0) % 2 ≡ 0 = omega arith in
    ap₂ (λ i j. 2 * st i + j) a b ∙ ap (λ k. 2 * k + 0) e
code_over st g (neg n) e =
    let a : (2 * n + 1) / 2 ≡ n = omega arith in
    let b : (2 * n + 1) % 2 ≡ 1 = omega arith in
    ap₂ (λ i j. 2 * st i + j) a b ∙ ap (λ k. 2 * k + 1) e

images_codes : (st g : ℕ → ℕ) (c : Lits) → ((x : Lit) → In x c → st (var x) ≡ g (var x)) → images_of st (map code_of c) ≡ map code_of (map (over g) c)
unfolding images_of
images_codes st g [] h = refl
images_codes st g (x ∷ c) h =
    ap₂ (λ i j. i ∷ j) (code_over st g x (h x (Memᴰ.head refl))) (images_codes st g c λ y i. h y (Memᴰ.tail i))

over_var : (g : ℕ → ℕ) (x : Lit) → var (over g x) ≡ g (var x)
over_var g (pos n) = refl
over_var g (neg n) = refl

-- CHOICES
module _ (b a : Bool) where
  implied : cond b a true ≡ true → b ≡ true → a ≡ true
  implied h k = sym (ap (λ t. cond t a true) k) ∙ h

  implies : (b ≡ true → a ≡ true) → cond b a true ≡ true
  implies h = go b h
    where
      go : (t : Bool) → (t ≡ true → a ≡ true) → cond t a true ≡ true
      go true k = k refl
      go false k = refl

  both_l : cond b a false ≡ true → b ≡ true
  both_l h = go b h
    where
      go : (t : Bool) → cond t a false ≡ true → t ≡ true
      go true k = refl
      go false k = k

  both_r : cond b a false ≡ true → a ≡ true
  both_r h = sym (ap (λ t. cond t a false) (both_l h)) ∙ h

  both_i : b ≡ true → a ≡ true → cond b a false ≡ true
  both_i h k = ap (λ t. cond t a false) h ∙ k

module _ (prefix values maps proof matrix : List ℤ) (l c n : ℕ) (f : Formula) (m : List Copy) (line clause : Lits)
    (shown : Shown prefix values maps proof matrix l c n f m line clause) where
  abbrev w : ℕ → ℕ
  w = entry prefix

  abbrev st : ℕ → ℕ
  st = stands_of values maps

  abbrev nt : ℕ → List ℕ
  nt = annotation_of values maps

  abbrev L : List ℕ
  L = map code_of line

  abbrev C : List ℕ
  C = map code_of clause

  abbrev sf : ℕ → ℕ
  sf = stands_for m

  abbrev ann : ℕ → Lits
  ann = annotation m

  -- VARIABLES IN RANGE
  clause_ranged : (y : Lit) → In y clause → var y ≤ n
  clause_ranged y i = (shown.told.ranged (var y) (all_in (is_in (bound f)) shown.closed (Memᴰ.map var i))).1

  line_stands : (p : ℕ) → In p (vars line) → existential f (sf p) ≡ true
  line_stands p i = mapped_stands f m p shown.proper.each (all_in (is_mapped m) shown.mapped i)

  stands_ranged : (p : ℕ) → In p (vars line) → sf p ≤ n
  stands_ranged p i = existential_ranged prefix n f shown.told (sf p) (line_stands p i)

  annotations_ranged : (p : ℕ) (y : Lit) → In y (ann p) → var y ≤ n
  annotations_ranged p y i =
      universal_ranged prefix n f shown.told (var y) (depends_universal f (sf p) (var y) (proper_depends f m shown.proper p y i))

  -- WHAT THE TABLES SAY OF CODES
  code_universal : (y : Lit) → var y ≤ n → is_universal w (code_of y / 2) ≡ universal f (var y)
  code_universal y h = ap (is_universal w) (var_code y) ∙ told_universal prefix n f shown.told (var y) h

  code_existential : (y : Lit) → var y ≤ n → is_existential w (code_of y / 2) ≡ existential f (var y)
  code_existential y h = ap (is_existential w) (var_code y) ∙ told_existential prefix n f shown.told (var y) h

  code_depends : (e : ℕ) (y : Lit) → e ≤ n → var y ≤ n → dependency w e (code_of y / 2) ≡ depends_on f e (var y)
  code_depends e y h k = ap (dependency w e) (var_code y) ∙ told_depends prefix n f shown.told e (var y) h k

  code_stands : (x : Lit) → In x line → st (code_of x / 2) ≡ sf (var x)
  code_stands x i = ap st (var_code x) ∙ shown.stands (var x) (Memᴰ.map var i)

  code_annotation : (x : Lit) → In x line → nt (code_of x / 2) ≡ map code_of (ann (var x))
  code_annotation x i = ap nt (var_code x) ∙ shown.annotated (var x) (Memᴰ.map var i)

  -- THE LITERALS
  images : images_of st L ≡ map code_of (map (over sf) line)
  images = images_codes st sf line λ x i. shown.stands (var x) (Memᴰ.map var i)

  clause_code : (x : Lit) → In x line → in_clause w st C (code_of x) ≡ is_in C (code_of (over sf x))
  unfolding in_clause
  clause_code x i =
      ap₂ (λ a k. cond a (is_in C k) false)
      (ap (is_existential w) (code_stands x i) ∙ told_existential prefix n f shown.told (sf (var x)) (stands_ranged (var x) (Memᴰ.map var i))
      ∙ line_stands (var x) (Memᴰ.map var i))
      (code_over st sf x (shown.stands (var x) (Memᴰ.map var i)))

  line_code : (y : Lit) → In y clause → in_line w st L (code_of y) ≡ cond (existential f (var y)) (is_in (map code_of (map (over sf) line)) (code_of y)) true
  unfolding in_line
  line_code y i = ap₂ (λ a ls. cond a (is_in ls (code_of y)) true) (code_existential y (clause_ranged y i)) images

  abbrev Q₁ : Bool
  Q₁ = all (in_clause w st C) L

  abbrev Q₂ : Bool
  Q₂ = all (in_line w st L) C

  -- the line's literals with their copies replaced, and the clause's existential ones
  abbrev replaced : Lits
  replaced = map (over sf) line

  abbrev wanted : Lits
  wanted = existentials f clause

  over_existential : (x : Lit) → In x line → existential f (var (over sf x)) ≡ true
  over_existential x i = ap (existential f) (over_var sf x) ∙ line_stands (var x) (Memᴰ.map var i)

  literals_code : literals_fit w st L C ≡ same_literals f m line clause
  unfolding literals_fit
  literals_code = same_test (cond Q₁ Q₂ false) (same_literals f m line clause)
      (λ h. and_i (within replaced wanted) (within wanted replaced)
      (in_all_lem (holds wanted) replaced λ y i.
      let s = Memᴰ.of_map (over sf) line i in
      subst (λ (z : Lit). holds wanted z ≡ true) s.2
      (in_holds wanted (over sf s.0) (keep_in (λ l. existential f (var l))
      (code_in clause (over sf s.0) (sym (clause_code s.0 s.1) ∙ code_at_lem (in_clause w st C) line (both_l Q₁ Q₂ h) s.0 s.1))
      (over_existential s.0 s.1))))
      (in_all_lem (holds replaced) wanted λ y i.
      let s = in_keep (λ l. existential f (var l)) y clause i in
      in_holds replaced y (code_in replaced y
      (implied (existential f (var y)) (is_in (map code_of replaced) (code_of y))
      (sym (line_code y s.0) ∙ code_at_lem (in_line w st L) clause (both_r Q₁ Q₂ h) y s.0) s.1))))
      (λ h. both_i Q₁ Q₂
      (at_code (in_clause w st C) line λ x i.
      clause_code x i ∙ in_code clause (over sf x) (in_keep (λ l. existential f (var l)) (over sf x) clause
      (holds_in wanted (over sf x) (all_in (holds wanted) (and_l (within replaced wanted) (within wanted replaced) h)
      (Memᴰ.map (over sf) i)))).0)
      (at_code (in_line w st L) clause λ y i.
      line_code y i ∙ implies (existential f (var y)) (is_in (map code_of replaced) (code_of y)) λ e.
      in_code replaced y (holds_in replaced y (all_in (holds replaced) (and_r (within replaced wanted) (within wanted replaced) h)
      (keep_in (λ l. existential f (var l)) i e)))))

  -- THE LEAST t
  abbrev least : Lits
  least = least_by f m line clause

  abbrev T : List ℕ
  T = least_of w st nt L C

  negations_code : (ys : Lits) → ((y : Lit) → In y ys → var y ≤ n) → negations w (map code_of ys) ≡ map code_of (map negate (universals f ys))
  unfolding negations
  negations_code [] h = refl
  negations_code (y ∷ ys) h =
      ap (λ b. map flip (cond b (code_of y ∷ codes) codes)) (code_universal y (h y (Memᴰ.head refl)))
      ∙ go (universal f (var y)) (negations_code ys λ z i. h z (Memᴰ.tail i))
    where
      codes : List ℕ
      codes = keep (λ k. is_universal w (k / 2)) (map code_of ys)

      go : (b : Bool) → map flip codes ≡ map code_of (map negate (universals f ys))
          → map flip (cond b (code_of y ∷ codes) codes)
          ≡ map code_of (map negate (cond b (y ∷ universals f ys) (universals f ys)))
      go true e = ap₂ (λ i j. i ∷ j) (sym (code_negate y)) e
      go false e = e

  annotations_code : (ls : Lits) → ((x : Lit) → In x ls → In x line) → annotations_of nt (map code_of ls) ≡ map code_of (annotations m (vars ls))
  unfolding annotations_of
  annotations_code [] h = refl
  annotations_code (x ∷ ls) h =
      ap₂ ◌++◌ (code_annotation x (h x (Memᴰ.head refl))) (annotations_code ls λ y i. h y (Memᴰ.tail i))
      ∙ sym (map-append code_of (ann (var x)) (annotations m (vars ls)))

  least_code : T ≡ joined [] (map code_of least)
  unfolding least_of least_by
  least_code =
      ap (joined []) (ap₂ ◌++◌ (negations_code clause clause_ranged) (annotations_code line λ x i. i)
      ∙ sym (map-append code_of (map negate (universals f clause)) (annotations m (vars line))))

  least_ranged : (y : Lit) → In y least → var y ≤ n
  least_ranged y i =
      either (λ s. let k = clause_ranged (negate y) s.0 in let e = var_negate y in omega arith) (λ s. annotations_ranged s.0 y s.2)
      (in_least f m line clause y i)

  in_t : (y : Lit) → In y least → In (code_of y) T
  in_t y i =
      subst (In (code_of y)) (sym least_code)
      (joined_has [] (map code_of least) (Memᴰ.map code_of i) (code_low y n (least_ranged y i) shown.low))

  t_in : (k : ℕ) → In k T → (y : Lit) × In y least × (code_of y ≡ k)
  t_in k i =
      Memᴰ.of_map code_of least
      (either (λ j. absurd (Memᴰ.not-nil j)) (λ j. j) (joined_from [] (map code_of least) (subst (In k) least_code i)))

  same_lit : (x y : Lit) → code_of x ≡ code_of y → x ≡ y
  same_lit x y e = sym (lit_code x) ∙ ap lit_of e ∙ lit_code y

  t_holds : (y : Lit) → is_in T (code_of y) ≡ holds least y
  t_holds y =
      same_test (is_in T (code_of y)) (holds least y)
      (λ h. let s = t_in (code_of y) (is_in_in T (code_of y) h) in in_holds least y (Memᴰ.cast (sym (same_lit s.0 y s.2)) s.1))
      (λ h. in_is_in T (code_of y) (in_t y (holds_in least y h)))

  -- both signs
  alone_code : (y : Lit) → alone T (code_of y) ≡ not (holds least (negate y))
  unfolding alone
  alone_code y = ap not (ap (is_in T) (sym (code_negate y)) ∙ t_holds (negate y))

  apart_code : apart T ≡ not (both_signs least)
  unfolding apart
  apart_code = same_test (all (alone T) T) (not (both_signs least))
      (λ h. not_of_f (by_yes (both_signs least) λ e. let s = signs_in least e in
      clear (in_holds least (negate s.0) s.2)
      (not_t (holds least (negate s.0)) (sym (alone_code s.0) ∙ all_in (alone T) h (in_t s.0 s.1)))))
      (λ h. in_all_lem (alone T) T λ k i. let s = t_in k i in
      sym (ap (alone T) s.2) ∙ alone_code s.0
      ∙ not_of_f (by_yes (holds least (negate s.0)) λ e. clear (in_signs least s.0 s.1 (holds_in least (negate s.0) e)) (not_t (both_signs least) h)))

  -- ONE COPY: its annotation is within the part of t, and no literal comes twice in either
  annotation_distinct : (p : ℕ) → distinct (map code_of (ann p)) ≡ true
  annotation_distinct p = go (ann p) refl
    where
      go : (ls : Lits) → ann p ≡ ls → distinct (map code_of (ann p)) ≡ true
      go [] e = ap (λ (k : Lits). distinct (map code_of k)) e
      go (y ∷ ls) e =
          let s = annotation_in_lem m p y (subst (In y) (sym e) (Memᴰ.head refl)) in
          ap (λ (k : Lits). distinct (map code_of k)) s.2 ∙ codes_distinct s.0.under (shown.proper.each s.0 s.1).once

  module _ (x : Lit) (here : In x line) where
    abbrev p : ℕ
    p = var x

    abbrev A : List ℕ
    A = map code_of (ann p)

    abbrev dependent : ℕ → Bool
    dependent k = dependency w (sf p) (k / 2)

    abbrev mine : Lits
    mine = part f (sf p) least

    depends_code : (y : Lit) → In y least → dependent (code_of y) ≡ depends_on f (sf p) (var y)
    depends_code y i = code_depends (sf p) y (stands_ranged p (Memᴰ.map var here)) (least_ranged y i)

    annotation_least : (y : Lit) → In y (ann p) → In y least
    annotation_least y i = least_annotation f m line clause p y (Memᴰ.map var here) i

    part_in : (y : Lit) → In y mine → In (code_of y) (keep dependent T)
    part_in y i = let s = in_keep (λ l. depends_on f (sf p) (var l)) y least i in keep_in dependent (in_t y s.0) (depends_code y s.0 ∙ s.1)

    annotation_part : (y : Lit) → In y (ann p) → In y mine
    annotation_part y i = keep_in (λ l. depends_on f (sf p) (var l)) (annotation_least y i) (proper_depends f m shown.proper p y i)

    within_code : all (is_in A) (keep dependent T) ≡ annotated_by f m least p
    within_code = same_test (all (is_in A) (keep dependent T)) (annotated_by f m least p)
        (λ h. and_i (within (ann p) mine) (within mine (ann p)) (in_all_lem (holds mine) (ann p) λ y i. in_holds mine y (annotation_part y i))
        (in_all_lem (holds (ann p)) mine λ y i. in_holds (ann p) y (code_in (ann p) y (all_in (is_in A) h (part_in y i)))))
        (λ h. in_all_lem (is_in A) (keep dependent T) λ k i.
        let q = in_keep dependent k T i in
        let s = t_in k q.0 in
        let d = sym (depends_code s.0 s.1) ∙ ap dependent s.2 ∙ q.1 in
        sym (ap (is_in A) s.2) ∙ in_code (ann p) s.0 (holds_in (ann p) s.0
        (all_in (holds (ann p)) (and_r (within (ann p) mine) (within mine (ann p)) h) (keep_in (λ l. depends_on f (sf p) (var l)) s.1 d))))

    -- as many literals as t has, or as its part
    part_code : is_part w T (sf p) (length A) ≡ all (is_in A) (keep dependent T)
    unfolding is_part part_size
    part_code = go (eqb (length A) (length T)) refl
      where
        once : distinct T ≡ true
        once = ap distinct least_code ∙ joined_distinct [] (map code_of least) refl

        within_t : (k : ℕ) → In k A → In k (keep dependent T)
        within_t k i =
            let s = Memᴰ.of_map code_of (ann p) i in
            subst (λ (j : ℕ). In j (keep dependent T)) s.2 (part_in s.0 (annotation_part s.0 s.1))

        go : (b : Bool) → eqb (length A) (length T) ≡ b → cond b true (eqb (length (keep dependent T)) (length A)) ≡ all (is_in A) (keep dependent T)
        go true e =
            let h : all (is_in A) T ≡ true
            = sym (same_count A T (annotation_distinct p) once λ k i. (in_keep dependent k T (within_t k i)).0)
            ∙ eq-eqb (length T) (length A) (sym (eqb-true (length A) (length T) e)) in
            sym (in_all_lem (is_in A) (keep dependent T) λ k i. all_in (is_in A) h (in_keep dependent k T i).0)
        go false e = same_count A (keep dependent T) (annotation_distinct p) (distinct_keep dependent T once) within_t

    copy_code : copy_fits w st nt T (code_of x) ≡ annotated_by f m least p
    unfolding copy_fits
    copy_code = ap₂ (λ e ls. is_part w T e (length {A = ℕ} ls)) (code_stands x here) (code_annotation x here) ∙ part_code ∙ within_code

  -- ALL OF THE TEST
  codes_expand : expands_codes w st nt L C ≡ expands f m line clause
  unfolding expands_codes annotations_fit expands_by_least expands_by
  codes_expand =
      ap₂ (λ a r. cond a r false) literals_code (ap₂ (λ b d. cond b d false) apart_code (all_codes (copy_fits w st nt T) (annotated_by f m least) line copy_code))
      ∙ go (same_literals f m line clause) (not (both_signs least)) (all (annotated_by f m least) (vars line))
      ∙ ap (λ k. not (both_signs least) && ((k && same_literals f m line clause) && all (annotated_by f m least) (vars line))) (sym false_in_least)
      ∙ sym (expands_least f m line clause shown.proper shown.told.once)
    where
      false_in_least : falsifies f least clause ≡ true
      false_in_least = in_all_lem (λ l. holds least (negate l)) (universals f clause) λ y i.
          let s = in_keep (λ l. universal f (var l)) y clause i in
          in_holds least (negate y) (least_universal f m line clause y s.0 s.1)

      go : (a b d : Bool) → cond a (cond b d false) false ≡ b && ((true && a) && d)
      go true true d = refl
      go true false d = refl
      go false true d = refl
      go false false d = refl

  pub tables_expand : expands_at prefix values maps proof l matrix c ≡ expands f m line clause
  unfolding expands_at
  tables_expand = ap₂ (expands_codes w st nt) shown.the_line shown.the_clause ∙ codes_expand
