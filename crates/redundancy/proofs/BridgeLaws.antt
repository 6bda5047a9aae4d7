-- From codes to the literals of the rules. Assumes nothing.
use mathlib.Core.Path.{◌≡◌, refl, sym, ◌∙◌, ap, subst}
use mathlib.Core.Logic.{inl, inr}
use mathlib.Core.Bool.{Bool, true, false, not, cond}
use mathlib.Core.List.{List, [], ◌∷◌, ◌++◌, map}
use Prim.Native.Nat.{ℕ}
use lib.Dec.{eqb}
use Rattle.rules.specs.Literals.{Lit, Lits, negate}
use Rattle.rules.specs.Codes.{code_of, lit_of, flip}
use Rattle.rules.specs.Propagation.{is_conflict, rup, less}
use Rattle.rules.proofs.Kit.{either}
use Rattle.rules.proofs.CodesLaw.{code_lit, code_negate, lit_flip}
use Rattle.rules.proofs.Good as rules
use Rattle.clauses.specs.Standing.{literals}
use Rattle.clauses.proofs.MemberLaws.{in_map, map_in, same_lit}
use Rattle.propagation.specs.Answers.{In, Good, Denies}
use Rattle.redundancy.specs.Additions.{rup_of, less_code}

-- A MAPPED LIST
module _ {A B : Type 0} (g : A → B) where
  pub map_append : (xs ys : List A) → map g (xs ++ ys) ≡ map g xs ++ map g ys
  map_append [] ys = refl
  map_append (x ∷ xs) ys = ap (λ zs. g x ∷ zs) (map_append xs ys)

keep_step : (b : Bool) (m : ℕ) (d : List ℕ) (e : Lits) → map lit_of d ≡ e
    → map lit_of (cond b (m ∷ d) d) ≡ cond b (lit_of m ∷ e) e
keep_step true m d e h = ap (λ (z : Lits). lit_of m ∷ z) h
keep_step false m d e h = h

pub less_lits : (x : ℕ) (d : List ℕ) → map lit_of (less_code x d) ≡ less (lit_of x) (map lit_of d)
unfolding less_code
less_lits x [] = refl
less_lits x (m ∷ d) =
    keep_step (not (eqb m x)) m (less_code x d) (less (lit_of x) (map lit_of d)) (less_lits x d)
    ∙ ap {B = Lits} (λ b. cond (not b) (lit_of m ∷ less (lit_of x) (map lit_of d)) (less (lit_of x) (map lit_of d))) (sym (same_lit m x))

-- GOOD TESTS on literals and on codes
module _ (S : List (List ℕ)) where
  pub good_codes : (Q : Lit → Bool) → rules.Good (literals S) Q → Good S (λ c. Q (lit_of c))
  good_codes Q g = record {
    consistent = λ l p q. g.consistent (lit_of l) p (ap Q (sym (lit_flip l)) ∙ q);
    closed = λ c x l pre. g.closed (map lit_of c) (in_map (map lit_of) x) (lit_of l) (λ m y.
        let s = map_in lit_of m c y in
        either (λ e. inl (ap Q (ap negate s.2 ∙ sym (lit_flip s.0)) ∙ e)) (λ e. inr (s.2 ∙ ap lit_of e)) (pre s.0 s.1));
  }

  pub codes_good : (Q : ℕ → Bool) → Good S Q → rules.Good (literals S) (λ l. Q (code_of l))
  codes_good Q g = record {
    consistent = λ l p q. g.consistent (code_of l) p (ap Q (sym (code_negate l)) ∙ q);
    closed = λ c x l pre. let s = map_in (map lit_of) c S x in
        g.closed s.0 s.1 (code_of l) (λ m y.
        either (λ e. inl (ap Q (sym (code_negate (lit_of m) ∙ ap flip (code_lit m))) ∙ e)) (λ e. inr (sym (code_lit m) ∙ ap code_of e))
        (pre (lit_of m) (subst (In (lit_of m)) (sym s.2) (in_map lit_of y))));
  }

  module _ (c : List ℕ) where
    -- RUP, from what good tests there are
    pub rup_true : ((Q : ℕ → Bool) → Good S Q → Denies Q c → ⊥) → rup_of S c ≡ true
    unfolding rup_of rup Denies
    rup_true none = ap is_conflict (rules.is_conflict_lem (literals S) (map negate (map lit_of c)) (λ Q g a.
        none (λ k. Q (lit_of k)) (good_codes Q g) (λ m x. ap Q (lit_flip m) ∙ a (negate (lit_of m)) (in_map negate (in_map lit_of x)))))

    pub rup_false : (Q : ℕ → Bool) → Good S Q → Denies Q c → rup_of S c ≡ false
    unfolding rup_of rup Denies
    rup_false Q g d = ap is_conflict (rules.is_stable (literals S) (map negate (map lit_of c)) (λ l. Q (code_of l)) (codes_good Q g) (λ l i.
        let s = map_in negate l (map lit_of c) i in
        let k = map_in lit_of s.0 c s.1 in
        ap Q (ap code_of (s.2 ∙ ap negate k.2) ∙ code_negate (lit_of k.0) ∙ ap flip (code_lit k.0)) ∙ d k.0 k.1))
