-- The test over codes is the rules' definition over literals, for all clauses. Assumes nothing.
use mathlib.Core.Path.{◌≡◌, refl, sym, ◌∙◌, ap, ap₂, fun_ext}
use mathlib.Core.Bool.{Bool, true, false, not, ◌&&◌, ◌||◌, cond}
use mathlib.Core.List.{List, [], ◌∷◌, ◌++◌, map}
use Prim.Native.Nat.{ℕ}
use lib.Dec.{eqb}
use Rattle.std.specs.List.{list_all as all, list_any as any}
use Rattle.rules.specs.Basics.{is_in}
use Rattle.rules.specs.Literals.{Lit, Lits, pos, neg, negate, same, holds, within}
use Rattle.rules.specs.Codes.{code_of, lit_of}
use Rattle.rules.specs.Propagation.{less}
use Rattle.rules.proofs.Kit.{and_l, and_r, and_i, or_l, or_r, or_cases, either, same_eq, same_test, holds_in, in_holds, in_any, any_in}
use Rattle.rules.proofs.CodesLaw.{code_lit, code_negate, same_code, holds_code}
use Rattle.ferp_rules.specs.Resolvent.{resolvent_on, resolvent}
use Rattle.ferp_rules.proofs.ResolventLaws.{OnSome, resolvent_exists}
use Rattle.clauses.proofs.MemberLaws.{any_map}
use Rattle.resolvents.specs.Resolves.{all_but, leaves, resolves_on, resolves}

-- LISTS
module _ {A B : Type 0} (g : A → B) (p : B → Bool) where
  all_map : (xs : List A) → all p (map g xs) ≡ all (λ x. p (g x)) xs
  all_map [] = refl
  all_map (x ∷ xs) = ap (λ t. p (g x) && t) (all_map xs)

module _ {A : Type 0} where
  all_same : {p q : A → Bool} → ((x : A) → p x ≡ q x) → (xs : List A) → all p xs ≡ all q xs
  all_same h xs = ap (λ (f : A → Bool). all f xs) (fun_ext h)

  any_same : {p q : A → Bool} → ((x : A) → p x ≡ q x) → (xs : List A) → any p xs ≡ any q xs
  any_same h xs = ap (λ (f : A → Bool). any f xs) (fun_ext h)

  all_append : (p : A → Bool) (xs ys : List A) → all p (xs ++ ys) ≡ (all p xs && all p ys)
  all_append p [] ys = refl
  all_append p (x ∷ xs) ys = ap (λ t. p x && t) (all_append p xs ys) ∙ go (p x) (all p xs) (all p ys)
    where
      go : (a b c : Bool) → (a && (b && c)) ≡ (a && b && c)
      go true b c = refl
      go false b c = refl

  any_append : (p : A → Bool) (xs ys : List A) → any p (xs ++ ys) ≡ (any p xs || any p ys)
  any_append p [] ys = refl
  any_append p (x ∷ xs) ys = ap (λ t. p x || t) (any_append p xs ys) ∙ go (p x) (any p xs) (any p ys)
    where
      go : (a b c : Bool) → (a || (b || c)) ≡ (a || b || c)
      go true b c = refl
      go false b c = refl

-- A CLAUSE LESS A LITERAL
and_false : (b : Bool) → (b && false) ≡ false
and_false true = refl
and_false false = refl

module _ (l : Lit) where
  all_less : (p : Lit → Bool) (d : Lits) → all p (less l d) ≡ all (λ m. same m l || p m) d
  all_less p [] = refl
  all_less p (m ∷ d) = go (same m l) ∙ ap (λ t. (same m l || p m) && t) (all_less p d)
    where
      go : (b : Bool) → all p (cond (not b) (m ∷ less l d) (less l d)) ≡ ((b || p m) && all p (less l d))
      go true = refl
      go false = refl

  holds_less : (d : Lits) (m : Lit) → holds (less l d) m ≡ (holds d m && not (same m l))
  holds_less [] m = refl
  holds_less (k ∷ d) m = go (same k l) refl (same m k) refl (holds_less d m)
    where
      go : (a : Bool) → same k l ≡ a → (b : Bool) → same m k ≡ b → holds (less l d) m ≡ (holds d m && not (same m l))
          → holds (cond (not a) (k ∷ less l d) (less l d)) m ≡ ((b || holds d m) && not (same m l))
      go true e true f h =
          let q = ap (λ z. same z l) (same_eq m k f) ∙ e in h ∙ ap (λ t. holds d m && not t) q ∙ and_false (holds d m) ∙ sym (ap not q)
      go true e false f h = h
      go false e true f h =
          let q = ap (λ z. same z l) (same_eq m k f) ∙ e in ap (λ t. t || holds (less l d) m) f ∙ sym (ap not q)
      go false e false f h = ap (λ t. t || holds (less l d) m) f ∙ h

-- THE TEST OVER LITERALS: what is left of d and e once l left d and its negation e
abbrev left : Lits → Lits → Lit → Lit → Bool
left d e l m = holds d m && not (same m l) || holds e m && not (same m (negate l))

abbrev in_but : Lits → Lit → Lits → Bool
in_but c l d = all (λ m. same m l || holds c m) d

abbrev lit_on : Lits → Lits → Lits → Lit → Bool
lit_on c d e l = holds e (negate l) && in_but c l d && in_but c (negate l) e && all (left d e l) c

module _ (c d e : Lits) where
  -- it is the one over codes
  code_in : (l : Lit) (b : Lits) → all_but (is_in (map code_of c)) (code_of l) (map code_of b) ≡ in_but c l b
  unfolding all_but
  code_in l b =
      all_map code_of (λ y. eqb y (code_of l) || is_in (map code_of c) y) b
      ∙ all_same (λ m. ap₂ (λ t u. t || u) (sym (same_code m l)) (sym (holds_code c m))) b

  code_left : (l m : Lit) → leaves (map code_of d) (map code_of e) (code_of l) (code_of m) ≡ left d e l m
  unfolding leaves
  code_left l m =
      ap₂ (λ t u. t || u)
      (ap₂ (λ t u. t && not u) (sym (holds_code d m)) (sym (same_code m l)))
      (ap₂ (λ t u. t && not u) (sym (holds_code e m)) (ap (eqb (code_of m)) (sym (code_negate l)) ∙ sym (same_code m (negate l))))

  code_on : (l : Lit) → resolves_on (map code_of c) (map code_of d) (map code_of e) (code_of l) ≡ lit_on c d e l
  unfolding resolves_on
  code_on l =
      let n = sym (code_negate l) in
      let h = ap (is_in (map code_of e)) n ∙ sym (holds_code e (negate l)) in
      let f = code_in l d in
      let g = ap (λ x. all_but (is_in (map code_of c)) x (map code_of e)) n ∙ code_in (negate l) e in
      let k = all_map code_of (leaves (map code_of d) (map code_of e) (code_of l)) c ∙ all_same (code_left l) c in
      cc

  -- and the rules', on the variable of the literal
  rest_in : (l k : Lit) (a b : Lits) → within (less l a ++ less k b) c ≡ (in_but c l a && in_but c k b)
  rest_in l k a b = all_append (holds c) (less l a) (less k b) ∙ ap₂ (λ t u. t && u) (all_less l (holds c) a) (all_less k (holds c) b)

  in_rest : (l k : Lit) (a b : Lits) → within c (less l a ++ less k b) ≡ all (λ m. holds a m && not (same m l) || holds b m && not (same m k)) c
  in_rest l k a b =
      all_same (λ m. any_append (same m) (less l a) (less k b) ∙ ap₂ (λ t u. t || u) (holds_less l a m) (holds_less k b m)) c

or_swap : (a b : Bool) → (a || b) ≡ (b || a)
or_swap true true = refl
or_swap true false = refl
or_swap false true = refl
or_swap false false = refl

first_sorted : (h k f g a : Bool) → (h && k && (a && (f && g))) ≡ (h && (k && f && g && a))
first_sorted true true true true true = refl
first_sorted true true true true false = refl
first_sorted true true true false true = refl
first_sorted true true true false false = refl
first_sorted true true false g true = refl
first_sorted true true false g false = refl
first_sorted true false f g a = refl
first_sorted false k f g a = refl

second_sorted : (h k f g a : Bool) → (k && h && (a && (g && f))) ≡ (h && (k && f && g && a))
second_sorted true true true true true = refl
second_sorted true true true true false = refl
second_sorted true true true false true = refl
second_sorted true true true false false = refl
second_sorted true true false true true = refl
second_sorted true true false true false = refl
second_sorted true true false false true = refl
second_sorted true true false false false = refl
second_sorted true false f g a = refl
second_sorted false true f g a = refl
second_sorted false false f g a = refl

module _ (c d e : Lits) (v : ℕ) where
  on_pos : resolvent_on c d e v ≡ (holds d (pos v) && lit_on c d e (pos v))
  on_pos =
      let r = rest_in c d e (pos v) (neg v) d e in
      let i = in_rest c d e (pos v) (neg v) d e in
      let s = first_sorted (holds d (pos v)) (holds e (neg v)) (in_but c (pos v) d) (in_but c (neg v) e) (all (left d e (pos v)) c) in
      cc

  on_neg : resolvent_on c e d v ≡ (holds d (neg v) && lit_on c d e (neg v))
  on_neg =
      let r = rest_in c d e (pos v) (neg v) e d in
      let i = in_rest c d e (pos v) (neg v) e d
      ∙ all_same (λ m. or_swap (holds e m && not (same m (pos v))) (holds d m && not (same m (neg v)))) c in
      let s = second_sorted (holds d (neg v)) (holds e (pos v)) (in_but c (neg v) d) (in_but c (pos v) e) (all (left d e (neg v)) c) in
      cc

-- THE TEST OVER CODES IS THE RULES' DEFINITION
module _ (c d e : Lits) where
  to_rules : any (lit_on c d e) d ≡ true → resolvent c d e ≡ true
  to_rules h = let s = any_in (lit_on c d e) d h in (resolvent_exists c d e).1 (go s.0 (in_holds d s.0 s.1) s.2)
    where
      go : (l : Lit) → holds d l ≡ true → lit_on c d e l ≡ true → OnSome c d e
      go (pos v) q r = (v, or_l (resolvent_on c d e v) (resolvent_on c e d v) (on_pos c d e v ∙ and_i (holds d (pos v)) (lit_on c d e (pos v)) q r))
      go (neg v) q r = (v, or_r (resolvent_on c d e v) (resolvent_on c e d v) (on_neg c d e v ∙ and_i (holds d (neg v)) (lit_on c d e (neg v)) q r))

  by_literal : (l : Lit) → (holds d l && lit_on c d e l) ≡ true → any (lit_on c d e) d ≡ true
  by_literal l h = in_any (lit_on c d e) (holds_in d l (and_l (holds d l) (lit_on c d e l) h)) (and_r (holds d l) (lit_on c d e l) h)

  from_rules : resolvent c d e ≡ true → any (lit_on c d e) d ≡ true
  from_rules h =
      let s = (resolvent_exists c d e).0 h in
      either
      (λ a. by_literal (pos s.0) (sym (on_pos c d e s.0) ∙ a))
      (λ b. by_literal (neg s.0) (sym (on_neg c d e s.0) ∙ b))
      (or_cases (resolvent_on c d e s.0) (resolvent_on c e d s.0) s.1)

  pub resolves_rules : resolves (map code_of c) (map code_of d) (map code_of e) ≡ resolvent c d e
  unfolding resolves
  resolves_rules =
      any_map code_of (resolves_on (map code_of c) (map code_of d) (map code_of e)) d
      ∙ any_same (code_on c d e) d
      ∙ same_test (any (lit_on c d e) d) (resolvent c d e) to_rules from_rules

-- and so for the literals of any codes
codes_lits : (c : List ℕ) → map code_of (map lit_of c) ≡ c
codes_lits [] = refl
codes_lits (x ∷ c) = ap₂ (λ y ys. y ∷ ys) (code_lit x) (codes_lits c)

pub resolves_literals : (c d e : List ℕ) → resolves c d e ≡ resolvent (map lit_of c) (map lit_of d) (map lit_of e)
resolves_literals c d e =
    sym (ap₂ (λ x y. resolves x y e) (codes_lits c) (codes_lits d))
    ∙ sym (ap (resolves (map code_of (map lit_of c)) (map code_of (map lit_of d))) (codes_lits e))
    ∙ resolves_rules (map lit_of c) (map lit_of d) (map lit_of e)
