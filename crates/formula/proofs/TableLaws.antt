-- Laws of the reader's small passes over its tables. Assumes nothing.
use mathlib.Core.Path.{◌≡◌, refl, ap, ap₂, sym, ◌∙◌, subst}
use mathlib.Core.Bool.{Bool, not, cond}
use mathlib.Core.List.{List}
use Prim.Native.Nat.{ℕ, ◌+◌, ◌*◌, ◌-◌, ◌/◌, ◌%◌, ◌≤◌}
use native.Mathlib.Omega.{arith}
use lib.ListN.{length, set, length-set}
use lib.IntN.{ℤ, pos}
use borrow.Author.Tests.{eq-eqb, ne_eqb}
use Rattle.std.specs.Prelude.{Some, None, Result, Ok, Err}
use Rattle.rules.specs.declared.Rule.{Rule}
use Rattle.rules.specs.declared.Rule.TheVariants.{Malformed, BoundTwice}
use Rattle.lines.specs.Scan.{literal_at}
use Rattle.lists.specs.Lists.{is_list}
use Rattle.lists.specs.Stores.{codes_at}
use Rattle.lists.proofs.ListLaws.{more_read, is_lost, is_end, is_more, sign_low, on_the_way}
use Rattle.lists.proofs.StoreLaws.{codes_lost, codes_end, codes_more}
use Rattle.prefix.specs.Prefix.{entry, is_bound}
use Rattle.formula.specs.declared.Quantifier.{Quantifier}
use Rattle.formula.specs.declared.Quantifier.TheVariants.{Universal, Existential}
use Rattle.formula.specs.Quantifiers.{number_of}
use Rattle.formula.specs.Tables.{Pass, pass, Tells, Marks}

-- THE SECOND PASS OVER A PREFIX LINE: what is left to store, in the table as it is
pub record Marking (bs : List ℕ) (at q : ℕ) (p₀ : List ℤ) (k₀ i : ℕ) (p : List ℤ) (k : ℕ) : Type 0 where
  pub steps : k + at ≤ k₀ + i
  pub long : length p ≡ length p₀
  pub text : pass q k (codes_at bs i) p ≡ pass q k₀ (codes_at bs at) p₀
  pub list : is_list bs i ≡ is_list bs at

-- a quantifier's number
pub number_low : (x : Quantifier) → 1 ≤ number_of x
number_low Universal = omega arith
number_low Existential = omega arith

pub number_small : (x : Quantifier) → number_of x ≤ 2
number_small Universal = omega arith
number_small Existential = omega arith

pub marks_by : {q n k at : ℕ} {bs : List ℕ} {p u : List ℤ} {r : Result ℕ Rule} → q ≡ n → Marks q k bs at p r u → Marks n k bs at p r u
marks_by {k = k} {at = at} {bs = bs} {p = p} {u = u} {r = r} e h = subst (λ n. Marks n k bs at p r u) e h

pub marking_start : {bs : List ℕ} {at q : ℕ} {p₀ : List ℤ} {k₀ : ℕ} → Marking bs at q p₀ k₀ at p₀ k₀
marking_start = record { steps = omega arith; long = refl; text = refl; list = refl }

module _ {bs : List ℕ} {at q : ℕ} {p₀ : List ℤ} {k₀ i : ℕ} {p : List ℤ} {k : ℕ} (s : Marking bs at q p₀ k₀ i p k) where
  ended_as : {r : Result ℕ Rule} {u : List ℤ} → record { answer = r; table = u } ≡ pass q k₀ (codes_at bs at) p₀ → Tells bs at k₀ r → Marks q k₀ bs at p₀ r u
  ended_as e f = record { answer = ap (λ (x : Pass). x.answer) e; table = ap (λ (x : Pass). x.table) e; tells = f }

  pub marking_lost : literal_at bs i ≡ None → Marks q k₀ bs at p₀ (Err Malformed) p
  unfolding pass
  marking_lost z = ended_as (ap (λ xs. pass q k xs p) (sym (codes_lost bs i z)) ∙ s.text) (sym s.list ∙ is_lost bs i z)

  module _ {x e : ℕ} (f : literal_at bs i ≡ Some (x, e)) where
    pub marking_end : x ≡ 0 → Marks q k₀ bs at p₀ (Ok k) p
    unfolding pass
    marking_end z =
        ended_as (sym (ap (λ b. cond b (record { answer = Ok k; table = p }) (cond (is_bound p x) (record { answer = (Err BoundTwice); table = p }) (record { answer = (Err Malformed); table = set p (x / 2 - 1) (pos (2 * k + q)) }))) (eq-eqb x 0 z))
        ∙ ap (λ xs. pass q k xs p) (sym (codes_end bs i f z)) ∙ s.text) (sym s.list ∙ is_end bs i f z, omega (arith, s.steps, on_the_way bs i f))

    module _ (z : x ≡ 0 → ⊥) where
      pub variable_1 : 1 ≤ x / 2
      variable_1 = let t = more_read bs i f z in let h = sign_low t.lit in omega (arith, t.code, t.positive)

      next_mark : {b : Bool} → is_bound p x ≡ b
          → cond b (record { answer = (Err BoundTwice); table = p }) (pass q (k + 1) (codes_at bs e) (set p (x / 2 - 1) (pos (2 * k + q)))) ≡ pass q k₀ (codes_at bs at) p₀
      unfolding pass
      next_mark {b} g =
          sym (ap₂ (λ a b. cond a (record { answer = Ok k; table = p }) (cond b (record { answer = (Err BoundTwice); table = p }) (pass q (k + 1) (codes_at bs e) (set p (x / 2 - 1) (pos (2 * k + q)))))) (ne_eqb x 0 z) g)
          ∙ ap (λ xs. pass q k xs p) (sym (codes_more bs i f z)) ∙ s.text

      pub marking_twice : {r : ℕ} → r ≡ entry p (x / 2) → (r ≡ 0 → ⊥) → Marks q k₀ bs at p₀ (Err BoundTwice) p
      unfolding is_bound
      marking_twice g y = ended_as (next_mark (ap not (ne_eqb (entry p (x / 2)) 0 (λ h. y (g ∙ h))))) tt

      pub marking_more : {r j : ℕ} {u : List ℤ} → r ≡ entry p (x / 2) → r ≡ 0 → k + 1 ≤ 1048576 → q ≤ 2 → j ≡ x / 2 - 1
          → u ≡ set p j (pos ((2 * k + q) % 2147483648)) → Marking bs at q p₀ k₀ e u (k + 1)
      unfolding is_bound
      marking_more {r} {j} {u} g y a b v w =
          let c : (2 * k + q) % 2147483648 ≡ 2 * k + q = omega arith in
          let o : u ≡ set p (x / 2 - 1) (pos (2 * k + q)) = w ∙ ap₂ (λ i n. set p i (pos n)) v c in
          record {
            steps = omega (arith, s.steps, on_the_way bs i f);
            long = ap length w ∙ length-set p j (pos ((2 * k + q) % 2147483648)) ∙ s.long;
            text = ap (pass q (k + 1) (codes_at bs e)) o ∙ next_mark (ap not (eq-eqb (entry p (x / 2)) 0 (sym g ∙ y)));
            list = sym (is_more bs i f z) ∙ s.list;
          }
