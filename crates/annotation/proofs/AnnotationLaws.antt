-- Rule 8 over the prefix table is rule 8 of the rules. Assumes nothing.
use mathlib.Core.Path.{◌≡◌, refl, ap, ap₂, sym, ◌∙◌}
use mathlib.Core.Bool.{Bool, true, false, ◌&&◌, and-true}
use mathlib.Core.List.Memᴰ
use mathlib.Core.List.{List, [], ◌∷◌, append-nil}
use Prim.Native.Nat.{ℕ, ◌≤◌}
use native.Mathlib.Omega.{arith}
use Rattle.std.proofs.Common.{Option, Some, None, Ok, Err}
use lib.IntN.{ℤ}
use lib.ListN.{replicate, length-replicate}
use lib.Dec.{leb}
use borrow.Author.Tests.{le-leb, leb-true}
use Rattle.std.specs.List.{list_all as all}
use Rattle.prefix.specs.Prefix.{entry, is_existential, dependency, narrower, Told}
use Rattle.prefix.proofs.Laws.{told_universal, told_existential, told_depends, depends_universal, narrower_none, narrower_depends}
use Rattle.rules.specs.Basics.{distinct}
use Rattle.rules.specs.Literals.{Lits, var, vars}
use Rattle.rules.specs.Formula.{Formula, universal, existential, depends_on}
use Rattle.rules.specs.Expansion.{good_annotation}
use Rattle.rules.proofs.Kit.{and_r, In, all_in, in_all_lem}
use Rattle.lists.specs.Stores.{in_range}
use Rattle.mapped.specs.Numbers.{ruled}
use Rattle.mapped.specs.Marks.{noting, Notes}
use Rattle.annotation.specs.Annotation.{under, once, annotates, under_one, Walked}
use Rattle.rules.specs.declared.Rule.{Rule}
use Rattle.rules.specs.declared.Rule.TheVariants.{BadAnnotation}
use Rattle.rules.specs.Rule.{number}
use Rattle.rules.proofs.RuleLaws.{number_not_zero}
use Rattle.mapped.proofs.NumberLaws.{Testing, ruled_kept, ruled_broken, ruled_no, all_end, all_more, all_fails}
use Rattle.mapped.proofs.MarkLaws.{noting_fresh, none_marked}

-- NO VARIABLE TWICE: noted from no marks on
once_noted : (us : List ℕ) → (noting us (replicate 16385 0)).fresh ≡ once us
unfolding once
once_noted us =
    noting_fresh us (replicate 16385 0) [] (length-replicate {A = ℕ} 16385 0) refl none_marked
    ∙ ap (λ l. all (λ u. leb u 16384) us && distinct l) (append-nil us)

pub once_ruled : (us : List ℕ) {k e r : ℕ} {ns : List ℕ} → Notes us (replicate 16385 0) k e r ns → r ≡ ruled k (once us) e
once_ruled us {k} {e} n = n.answer ∙ ap (λ b. ruled k b e) (once_noted us)

-- ONE E FOR ALL: what is under the narrower of two is under both
under_narrower : (w : ℕ → ℕ) (e : Option ℕ) (f u : ℕ) → under_one w (Some (narrower w e f)) u ≡ under_one w e u && dependency w f u
unfolding under_one
under_narrower w None f u = ap (λ d. dependency w d u) (narrower_none w f) ∙ sym (depends_universal w f u)
under_narrower w (Some e) f u = narrower_depends w e f u

-- A WALK over the E, of which e is the narrowest: with those that are left, es up to the end d, it is the whole
pub record Walking (w : ℕ → ℕ) (es₀ : List ℕ) (d₀ : ℕ) (es : List ℕ) (d : ℕ) (e : Option ℕ) : Type 0 where
  pub tests : Testing (is_existential w) es₀ d₀ es d
  pub narrow : (u : ℕ) → under_one w e u && all (λ d. dependency w d u) es ≡ under w es₀ u

pub walk_start : (w : ℕ → ℕ) (es₀ : List ℕ) (d₀ : ℕ) → Walking w es₀ d₀ es₀ d₀ None
unfolding under under_one
walk_start w es₀ d₀ = record { tests = record { tests = refl; ends = refl }; narrow = λ u. refl }

module _ {w : ℕ → ℕ} {es₀ : List ℕ} {d₀ : ℕ} {es : List ℕ} {d : ℕ} {e : Option ℕ} (h : Walking w es₀ d₀ es d e) where
  pub walk_end : es ≡ [] → d ≡ 0 → Walked w es₀ d₀ (Ok e)
  walk_end o z = (
    all_end 8 h.tests o (sym z),
    λ u. sym (and-true (under_one w e u)) ∙ ap (λ es. under_one w e u && all (λ d. dependency w d u) es) (sym o) ∙ h.narrow u,
  )

  pub walk_lost : es ≡ [] → (r : Rule) → number r ≡ d → Walked w es₀ d₀ (Err r)
  walk_lost o r z = all_end 8 h.tests o z

  module _ {v : ℕ} {rest : List ℕ} (o : es ≡ v ∷ rest) where
    pub walk_more : is_existential w v ≡ true → {c : ℕ} → d ≡ c → {n : ℕ} → n ≡ narrower w e v → Walking w es₀ d₀ rest c (Some n)
    walk_more t i {n} q = record {
      tests = all_more 8 h.tests o t i;
      narrow = λ u.
          ap (λ b. b && all (λ d. dependency w d u) rest) (ap (λ n. under_one w (Some n) u) q ∙ under_narrower w e v u)
          ∙ assoc (under_one w e u) (dependency w v u) (all (λ d. dependency w d u) rest)
          ∙ ap (λ es. under_one w e u && all (λ d. dependency w d u) es) (sym o) ∙ h.narrow u;
    }
      where
        assoc : (a b c : Bool) → (a && b) && c ≡ a && (b && c)
        assoc true b c = refl
        assoc false b c = refl

    pub walk_fails : is_existential w v ≡ false → Walked w es₀ d₀ (Err BadAnnotation)
    walk_fails t = all_fails 8 h.tests o t

all_same : (p q : ℕ → Bool) (xs : List ℕ) → ((x : ℕ) → In x xs → p x ≡ q x) → all p xs ≡ all q xs
all_same p q [] h = refl
all_same p q (x ∷ xs) h = ap₂ (λ a b. a && b) (h x (Memᴰ.head refl)) (all_same p q xs (λ y i. h y (Memᴰ.tail i)))

-- THE TESTS of the code, and their refusals, where the lists end with their zeros
annotates_is : (w : ℕ → ℕ) (es us : List ℕ) {x y : Bool} → all (is_existential w) es ≡ x → once us ≡ y → (x && (y && all (under w es) us)) ≡ annotates w es us
unfolding annotates
annotates_is w es us a b = ap₂ (λ x y. x && (y && all (under w es) us)) (sym a) (sym b)

module _ (w : ℕ → ℕ) (es us : List ℕ) {c : ℕ} (z : c ≡ 0) where
  pub annotates_1 : (r : Rule) → Walked w es c (Err r) → number r ≡ ruled 8 (annotates w es us) 0
  annotates_1 r h = let b = ruled_broken h z (number_not_zero r) in b.1 ∙ ruled_no 8 0 (sym (annotates_is w es us b.0 refl))

  module _ (e : Option ℕ) (h : Walked w es c (Ok e)) {m d : ℕ} (p : m ≡ ruled 8 (once us) d) (y : d ≡ 0) where
    kept : all (is_existential w) es ≡ true
    kept = ruled_kept h.0 z (λ x. omega arith) refl

    pub annotates_2 : (m ≡ 0 → ⊥) → m ≡ ruled 8 (annotates w es us) 0
    annotates_2 k = let b = ruled_broken p y k in b.1 ∙ ruled_no 8 0 (sym (annotates_is w es us kept b.0))

    pub annotates_3 : m ≡ 0 → {r : ℕ} → r ≡ ruled 8 (all (under_one w e) us) d → r ≡ ruled 8 (annotates w es us) 0
    annotates_3 k o =
        o
        ∙ ap₂ (ruled 8) (all_same (under_one w e) (under w es) us (λ u i. h.1 u) ∙ annotates_is w es us kept (ruled_kept p y (λ x. omega arith) k)) y

and_turned : (a b : Bool) → a && b ≡ b && a
and_turned true true = refl
and_turned true false = refl
and_turned false true = refl
and_turned false false = refl

-- every variable in range, one by one
range_in : (n : ℕ) {x : ℕ} {xs : List ℕ} → in_range n xs ≡ true → In x xs → x ≤ n
range_in n {x} {xs} h i =
    let b : leb 1 x && leb x n ≡ true = all_in (λ v. leb 1 v && leb v n) h i in
    leb-true x n (and_r (leb 1 x) (leb x n) b)

all_vars : (p : ℕ → Bool) (ls : Lits) → all p (vars ls) ≡ all (λ l. p (var l)) ls
all_vars p [] = refl
all_vars p (l ∷ ls) = ap (λ b. p (var l) && b) (all_vars p ls)

module _ (prefix : List ℤ) (n : ℕ) (f : Formula) (told : Told prefix n f) where
  -- a universal left of every existential of the line
  abbrev left_of_all : List ℕ → ℕ → Bool
  left_of_all es u = universal f u && all (λ e. depends_on f e u) es

  under_all : (es : List ℕ) → in_range n es ≡ true → (u : ℕ) → u ≤ n → under (entry prefix) es u ≡ left_of_all es u
  unfolding under
  under_all es r u h =
      ap₂ (λ a b. a && b) (told_universal prefix n f told u h)
      (all_same (λ e. dependency (entry prefix) e u) (λ e. depends_on f e u) es (λ e i. told_depends prefix n f told e u (range_in n r i) h))

  -- RULE 8: "E not existential, or an L breaks its rule"
  pub annotation_rule : n ≤ 16384 → (es : List ℕ) (ls : Lits) → in_range n es ≡ true → in_range n (vars ls) ≡ true
      → annotates (entry prefix) es (vars ls) ≡ (all (existential f) es && good_annotation f es ls)
  unfolding annotates once
  annotation_rule h es ls r q =
      ap₂ (λ a b. a && b) (all_same (is_existential (entry prefix)) (existential f) es (λ e i. told_existential prefix n f told e (range_in n r i)))
      (ap₂ (λ a b. (b && distinct (vars ls)) && a)
      (all_same (under (entry prefix) es) (left_of_all es) (vars ls) (λ u i. under_all es r u (range_in n q i)) ∙ all_vars (left_of_all es) ls)
      (in_all_lem (λ u. leb u 16384) (vars ls) (λ u i. let k = range_in n q i in le-leb u 16384 (omega arith)))
      ∙ and_turned (distinct (vars ls)) (all (λ l. left_of_all es (var l)) ls))
