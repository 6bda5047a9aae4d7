-- A formula that is not false has a strategy. A play walks the prefix: universals as given, existentials by what keeps the rest
-- from being false.
use mathlib.Core.Path.{◌≡◌, refl, sym, ap, subst, ◌∙◌}
use mathlib.Core.Bool.{Bool, true, false, not, ◌&&◌, ◌||◌, false≢true}
use mathlib.Core.List.Memᴰ
use mathlib.Core.List.{List, [], ◌∷◌, map}
use Prim.Native.Nat.{ℕ}
use lib.Dec.{eqb}
use Rattle.std.specs.List.{list_any as any}
use Rattle.rules.specs.Basics.{is_in, distinct}
use Rattle.rules.specs.Literals.{Lit, pos, neg, Lits, var, holds}
use Rattle.rules.specs.Formula.{Formula, Bound, for_all, exists, bound_var, bound, is_for_all, is_exists, universal, existential, earlier, left_of}
use Rattle.rules.specs.Falsity.{false_under, is_false}
use Rattle.rules.proofs.Kit.{clear, and_i, or_l, or_r, or_cases, or_fl, or_fr, not_of_f, by_no, by_yes, eqb_eq, eqb_self, either, In, in_any, Some, any_in, holds_in}
use Rattle.rules.proofs.Assignments.{Apart, apart_cons}
use Rattle.rules.proofs.Valuation.{Valuation, value, completed, completed_true}
use Rattle.rules.proofs.Strategy.{Strategy}
use Rattle.rules.proofs.Distinct.{distinct_head, distinct_tail}

-- the literal that gives v this value
abbrev signed : ℕ → Bool → Lit
signed v true = pos v
signed v false = neg v

signed_var : (v : ℕ) (b : Bool) → var (signed v b) ≡ v
signed_var v true = refl
signed_var v false = refl

signed_value : (v : ℕ) (b : Bool) (t : Lits) → holds t (pos v) ≡ false → holds (signed v b ∷ t) (pos v) ≡ b
signed_value v true t h = or_l (eqb v v) (holds t (pos v)) (eqb_self v)
signed_value v false t h = h

holds_skip : (m : Lit) (t : Lits) (l : Lit) → eqb (var l) (var m) ≡ false → holds (m ∷ t) l ≡ holds t l
holds_skip (pos v) t (pos w) e = ap (λ k. k || holds t (pos w)) e
holds_skip (pos v) t (neg w) e = refl
holds_skip (neg v) t (pos w) e = refl
holds_skip (neg v) t (neg w) e = ap (λ k. k || holds t (neg w)) e

abbrev names : List Bound → List ℕ
names bs = map bound_var bs

-- what the prefix says of its variables
names_either : (bs : List Bound) (x : ℕ) → is_in (names bs) x ≡ true → (any (is_for_all x) bs || any (is_exists x) bs) ≡ true
names_either [] x h = absurd (false≢true h)
names_either (for_all v ∷ bs) x h =
    either
    (λ e. or_l (eqb x v || any (is_for_all x) bs) (any (is_exists x) bs) (or_l (eqb x v) (any (is_for_all x) bs) e))
    (λ k. either
    (λ a. or_l (eqb x v || any (is_for_all x) bs) (any (is_exists x) bs) (or_r (eqb x v) (any (is_for_all x) bs) a))
    (or_r (eqb x v || any (is_for_all x) bs) (any (is_exists x) bs))
    (or_cases (any (is_for_all x) bs) (any (is_exists x) bs) (names_either bs x k)))
    (or_cases (eqb x v) (is_in (names bs) x) h)
names_either (exists v ∷ bs) x h =
    either
    (λ e. or_r (any (is_for_all x) bs) (eqb x v || any (is_exists x) bs) (or_l (eqb x v) (any (is_exists x) bs) e))
    (λ k. either
    (or_l (any (is_for_all x) bs) (eqb x v || any (is_exists x) bs))
    (λ a. or_r (any (is_for_all x) bs) (eqb x v || any (is_exists x) bs) (or_r (eqb x v) (any (is_exists x) bs) a))
    (or_cases (any (is_for_all x) bs) (any (is_exists x) bs) (names_either bs x k)))
    (or_cases (eqb x v) (is_in (names bs) x) h)

exists_named : (bs : List Bound) (x : ℕ) → any (is_exists x) bs ≡ true → is_in (names bs) x ≡ true
exists_named [] x h = h
exists_named (for_all v ∷ bs) x h = or_r (eqb x v) (is_in (names bs) x) (exists_named bs x h)
exists_named (exists v ∷ bs) x h =
    either
    (or_l (eqb x v) (is_in (names bs) x))
    (λ k. or_r (eqb x v) (is_in (names bs) x) (exists_named bs x k))
    (or_cases (eqb x v) (any (is_exists x) bs) h)

-- what stands further right in the prefix is another variable
other : (v : ℕ) (vs : List ℕ) (x : ℕ) → distinct (v ∷ vs) ≡ true → is_in vs x ≡ true → eqb v x ≡ false
other v vs x d h = by_yes (eqb v x) λ e. clear (subst (λ y. is_in vs y ≡ true) (sym (eqb_eq v x e)) h) (distinct_head v vs d)

-- u stands earlier than x, which comes after v, if u is v or stands earlier further right
earlier_cons : (v : ℕ) (vs : List ℕ) (u x : ℕ) → eqb v x ≡ false → is_in vs x ≡ true → (eqb v u ≡ false → earlier vs u x ≡ true)
    → earlier (v ∷ vs) u x ≡ true
earlier_cons v vs u x n h k = go (eqb v x) (eqb v u) n k
  where
    go : (a b : Bool) → a ≡ false → (b ≡ false → earlier vs u x ≡ true)
        → elim a as (λ _. Bool) [ true ↦ false | false ↦ elim b as (λ _. Bool) [ true ↦ is_in vs x | false ↦ earlier vs u x ] ] ≡ true
    go true b e r = sym e
    go false true e r = h
    go false false e r = r refl

-- the literals in hand say nothing of the variables that have no value yet
abbrev Fresh : List Bound → Lits → Type 0
Fresh bs t = (l : Lit) → In l t → is_in (names bs) (var l) ≡ false

fresh_none : (b : Bound) (bs : List Bound) (t : Lits) → Fresh (b ∷ bs) t → (l : Lit) → In l t → var l ≡ bound_var b → ⊥
fresh_none b bs t n l i e =
    clear
    (or_l (eqb (var l) (bound_var b)) (is_in (names bs) (var l)) (ap (eqb (var l)) (sym e) ∙ eqb_self (var l)))
    (n l i)

fresh_cons : (b : Bound) (bs : List Bound) (t : Lits) (m : Lit) → var m ≡ bound_var b → distinct (names (b ∷ bs)) ≡ true
    → Fresh (b ∷ bs) t → Fresh bs (m ∷ t)
fresh_cons b bs t m e d n l i =
    either
    (λ q. ap (is_in (names bs)) (ap var q ∙ e) ∙ distinct_head (bound_var b) (names bs) d)
    (λ k. or_fr (eqb (var l) (bound_var b)) (is_in (names bs) (var l)) (n l k))
    (Memᴰ.cases_cons i)

module _ (matrix : List Lits) where
  -- true, if that keeps the rest from being false
  abbrev answer : List Bound → ℕ → Lits → Bool
  answer bs v t = not (false_under matrix bs (pos v ∷ t))

  -- the literal that gives the leftmost variable its value
  abbrev turn : Bound → List Bound → Valuation → Lits → Lit
  turn (for_all v) bs s t = signed v (s v)
  turn (exists v) bs s t = signed v (answer bs v t)

  turn_var : (b : Bound) (bs : List Bound) (s : Valuation) (t : Lits) → var (turn b bs s t) ≡ bound_var b
  turn_var (for_all v) bs s t = signed_var v (s v)
  turn_var (exists v) bs s t = signed_var v (answer bs v t)

  -- the literals made true by a play
  unfoldable played : List Bound → Valuation → Lits → Lits
  played [] s t = t
  played (b ∷ bs) s t = played bs s (turn b bs s t ∷ t)

  -- where the formula is not false, it is not false at the end of a play
  played_true : (bs : List Bound) (s : Valuation) (t : Lits) → false_under matrix bs t ≡ false
      → false_under matrix [] (played bs s t) ≡ false
  unfolding played
  played_true [] s t h = h
  played_true (for_all v ∷ bs) s t h = played_true bs s (signed v (s v) ∷ t) (go (s v) h)
    where
      go : (b : Bool) → (false_under matrix bs (pos v ∷ t) || false_under matrix bs (neg v ∷ t)) ≡ false
          → false_under matrix bs (signed v b ∷ t) ≡ false
      go true k = or_fl (false_under matrix bs (pos v ∷ t)) (false_under matrix bs (neg v ∷ t)) k
      go false k = or_fr (false_under matrix bs (pos v ∷ t)) (false_under matrix bs (neg v ∷ t)) k
  played_true (exists v ∷ bs) s t h =
      played_true bs s (signed v (answer bs v t) ∷ t) (go (false_under matrix bs (pos v ∷ t)) refl h)
    where
      go : (b : Bool) → false_under matrix bs (pos v ∷ t) ≡ b → (b && false_under matrix bs (neg v ∷ t)) ≡ false
          → false_under matrix bs (signed v (not b) ∷ t) ≡ false
      go true e k = k
      go false e k = e

  -- a play gives a value to the variables of the prefix alone
  played_skip : (bs : List Bound) (s : Valuation) (t : Lits) (l : Lit) → is_in (names bs) (var l) ≡ false
      → holds (played bs s t) l ≡ holds t l
  unfolding played
  played_skip [] s t l h = refl
  played_skip (b ∷ bs) s t l h =
      played_skip bs s (turn b bs s t ∷ t) l (or_fr (eqb (var l) (bound_var b)) (is_in (names bs) (var l)) h)
      ∙ holds_skip (turn b bs s t) t l
      (ap (eqb (var l)) (turn_var b bs s t) ∙ or_fl (eqb (var l) (bound_var b)) (is_in (names bs) (var l)) h)

  fresh_turn : (b : Bound) (bs : List Bound) (s : Valuation) (t : Lits) → distinct (names (b ∷ bs)) ≡ true → Fresh (b ∷ bs) t
      → Fresh bs (turn b bs s t ∷ t)
  fresh_turn b bs s t = fresh_cons b bs t (turn b bs s t) (turn_var b bs s t)

  -- a play never gives a variable both values
  played_apart : (bs : List Bound) (s : Valuation) (t : Lits) → distinct (names bs) ≡ true → Fresh bs t → Apart t → Apart (played bs s t)
  unfolding played
  played_apart [] s t d n a = a
  played_apart (b ∷ bs) s t d n a =
      played_apart bs s (turn b bs s t ∷ t) (distinct_tail (bound_var b) (names bs) d) (fresh_turn b bs s t d n)
      (apart_cons (turn b bs s t) t (λ l i q. fresh_none b bs t n l i (q ∙ turn_var b bs s t)) a)

  -- a universal has the value given
  played_given : (bs : List Bound) (s : Valuation) (t : Lits) (u : ℕ) → distinct (names bs) ≡ true → Fresh bs t
      → any (is_for_all u) bs ≡ true → completed (played bs s t) u ≡ s u
  unfolding played
  played_given [] s t u d n h = absurd (false≢true h)
  played_given (for_all v ∷ bs) s t u d n h =
      either
      (λ e. subst (λ y. holds (played bs s (signed v (s v) ∷ t)) (pos y) ≡ s y) (sym (eqb_eq u v e)) here)
      (played_given bs s (signed v (s v) ∷ t) u (distinct_tail v (names bs) d) (fresh_turn (for_all v) bs s t d n))
      (or_cases (eqb u v) (any (is_for_all u) bs) h)
    where
      here : holds (played bs s (signed v (s v) ∷ t)) (pos v) ≡ s v
      here =
          played_skip bs s (signed v (s v) ∷ t) (pos v) (distinct_head v (names bs) d)
          ∙ signed_value v (s v) t (by_yes (holds t (pos v)) λ q. fresh_none (for_all v) bs t n (pos v) (holds_in t (pos v) q) refl)
  played_given (exists v ∷ bs) s t u d n h =
      played_given bs s (signed v (answer bs v t) ∷ t) u (distinct_tail v (names bs) d) (fresh_turn (exists v) bs s t d n) h

  -- the value of an existential depends only on the universals to its left
  played_depends : (bs : List Bound) (s r : Valuation) (t : Lits) (x : ℕ) → distinct (names bs) ≡ true → any (is_exists x) bs ≡ true
      → ((u : ℕ) → any (is_for_all u) bs ≡ true → earlier (names bs) u x ≡ true → s u ≡ r u)
      → completed (played bs s t) x ≡ completed (played bs r t) x
  unfolding played
  played_depends [] s r t x d h k = refl
  played_depends (for_all v ∷ bs) s r t x d h k =
      ap (λ b. completed (played bs s (signed v b ∷ t)) x)
      (k v (or_l (eqb v v) (any (is_for_all v) bs) (eqb_self v))
      (earlier_cons v (names bs) v x right there λ e. absurd (clear (eqb_self v) e)))
      ∙ played_depends bs s r (signed v (r v) ∷ t) x (distinct_tail v (names bs) d) h λ u a e.
      k u (or_r (eqb u v) (any (is_for_all u) bs) a) (earlier_cons v (names bs) u x right there λ _. e)
    where
      there : is_in (names bs) x ≡ true
      there = exists_named bs x h

      right : eqb v x ≡ false
      right = other v (names bs) x d there
  played_depends (exists v ∷ bs) s r t x d h k =
      either
      (λ e. let f : is_in (names bs) x ≡ false = ap (is_in (names bs)) (eqb_eq x v e) ∙ distinct_head v (names bs) d in
      played_skip bs s (signed v (answer bs v t) ∷ t) (pos x) f ∙ sym (played_skip bs r (signed v (answer bs v t) ∷ t) (pos x) f))
      (λ h'. let there = exists_named bs x h' in
      played_depends bs s r (signed v (answer bs v t) ∷ t) x (distinct_tail v (names bs) d) h' λ u a e.
      k u a (earlier_cons v (names bs) u x (other v (names bs) x d there) there λ _. e))
      (or_cases (eqb x v) (any (is_exists x) bs) h)

-- a formula that is not false, and binds no variable twice, has a strategy
module _ (f : Formula) (d : distinct (bound f) ≡ true) (h : is_false f ≡ false) where
  ends : Valuation → Lits
  ends s = played f.matrix f.prefix s []

  nothing_yet : Fresh f.prefix []
  nothing_yet l i = absurd (Memᴰ.not-nil i)

  -- each clause of the matrix has a literal of those made true
  made_true : (s : Valuation) (c : Lits) → In c f.matrix → Some (holds (ends s)) c
  unfolding ends
  made_true s c i = any_in (holds (ends s)) c (by_no (any (holds (ends s)) c) λ e.
      clear (in_any (λ c. not (any (holds (ends s)) c)) i (not_of_f e)) (played_true f.matrix f.prefix s [] h))

  made_true_value : (s : Valuation) (l : Lit) → holds (ends s) l ≡ true → value (completed (ends s)) l ≡ true
  unfolding ends
  made_true_value s l e =
      completed_true (ends s)
      (played_apart f.matrix f.prefix s [] d nothing_yet (λ m i. absurd (Memᴰ.not-nil i))) l e

  made_true_bound : (s : Valuation) (l : Lit) → holds (ends s) l ≡ true → (universal f (var l) || existential f (var l)) ≡ true
  unfolding ends
  made_true_bound s l e = names_either f.prefix (var l) (by_no (is_in (bound f) (var l)) λ n.
      clear e (played_skip f.matrix f.prefix s [] l n))

  pub strategy : Strategy f
  unfolding ends
  strategy = record {
    play = λ s. completed (ends s);
    given = λ s u a. played_given f.matrix f.prefix s [] u d nothing_yet a;
    wins = λ s c i.
        let q = made_true s c i in (
          q.0,
          q.1,
          and_i (value (completed (ends s)) q.0) (universal f (var q.0) || existential f (var q.0))
              (made_true_value s q.0 q.2) (made_true_bound s q.0 q.2),
        );
    depends = λ s r e x k.
        played_depends f.matrix f.prefix s r [] e d x λ u a b. k u (and_i (universal f u) (left_of f u e) a b);
  }
