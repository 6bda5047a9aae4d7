-- The answer by the marks, and the marks after it. Assumes nothing.
use mathlib.Core.Path.{◌≡◌, sym, ◌∙◌, ap, ap₂, subst}
use mathlib.Core.Bool.{Bool, not, ◌&&◌}
use mathlib.Core.List.{List}
use Prim.Native.Nat.{ℕ}
use Rattle.std.specs.List.{list_any as any}
use Rattle.rules.specs.Basics.{is_in}
use Rattle.cells.specs.declared.Codes.{Codes}
use Rattle.cells.specs.Codes.{codes_left, codes_table, codes_place}
use Rattle.clauses.proofs.LiteralLaws.{literal_small}
use Rattle.resolvents.specs.declared.Strays.{Strays}
use Rattle.resolvents.specs.declared.Strays.TheVariants.{None}
use Rattle.resolvents.specs.Resolves.{resolves}
use Rattle.resolvents.specs.Marks.{Clear, each, to, raise, lacks, in_all, covered, stray, pivot, candidates}
use Rattle.resolvents.proofs.MarkLaws.{Small, lacks_d, lacks_e, in_all_three, covered_is, clear_again}
use Rattle.resolvents.proofs.DecisionLaws.{is_in_lem, decided_resolves}

small : (k : Codes) → Small (codes_left k)
small k y q = literal_small (codes_table k) (codes_place k) y (is_in_lem (codes_left k) y q)

module _ (c d e : Codes) (s : List ℕ) where
  abbrev C : List ℕ
  C = codes_left c

  abbrev D : List ℕ
  D = codes_left d

  abbrev E : List ℕ
  E = codes_left e

  -- the clause marked, the parents walked, a pivot looked for, the clause unmarked
  module _ {s₁ s₂ s₃ u : List ℕ} {p q : Strays} {a b : Bool}
      (m₁ : s₁ ≡ each (to 1) C s) (f : p ≡ stray (lacks s₁) D None) (m₂ : s₂ ≡ each (raise 2) D s₁)
      (g : q ≡ stray (lacks s₂) E None) (m₃ : s₃ ≡ each (raise 4) E s₂)
      (h : a ≡ any (pivot (in_all s₃) p q) (candidates p q C)) (k : b ≡ covered s₃ C) (v : u ≡ each (to 0) C s₃) (w : Clear s) where
    abbrev M₁ : List ℕ
    M₁ = each (to 1) C s

    abbrev M₂ : List ℕ
    M₂ = each (raise 2) D M₁

    abbrev M₃ : List ℕ
    M₃ = each (raise 4) E M₂

    is₂ : s₂ ≡ M₂
    is₂ = m₂ ∙ ap (each (raise 2) D) m₁

    is₃ : s₃ ≡ M₃
    is₃ = m₃ ∙ ap (each (raise 4) E) is₂

    abbrev P : Strays
    P = stray (λ y. not (is_in C y)) D None

    abbrev Q : Strays
    Q = stray (λ y. not (is_in C y)) E None

    first : p ≡ P
    first = f ∙ ap (λ (x : ℕ → Bool). stray x D None) (ap lacks m₁ ∙ lacks_d C D E s w (small c) (small d) (small e))

    second : q ≡ Q
    second = g ∙ ap (λ (x : ℕ → Bool). stray x E None) (ap lacks is₂ ∙ lacks_e C D E s w (small c) (small d) (small e))

    found : a ≡ any (pivot (λ y. is_in C y && is_in D y && is_in E y) P Q) (candidates P Q C)
    found =
        h ∙ ap₂ (λ x y. any (pivot (in_all s₃) x y) (candidates x y C)) first second
        ∙ ap (λ (x : ℕ → Bool). any (pivot x P Q) (candidates P Q C)) (ap in_all is₃ ∙ in_all_three C D E s w (small c) (small d) (small e))

    pub answered : ((b && a) ≡ resolves C D E) × Clear u
    answered = (
      ap₂ (λ x y. x && y) (k ∙ ap (λ x. covered x C) is₃ ∙ covered_is C D E s w (small c) (small d) (small e)) found
          ∙ decided_resolves C D E,
      subst Clear (sym (v ∙ ap (each (to 0) C) is₃)) (clear_again C D E s w (small c) (small d) (small e)),
    )
