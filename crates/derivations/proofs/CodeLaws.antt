-- What the code tests of a clause line that is stored, one law for each answer. Assumes nothing.
use mathlib.Core.Path.{◌≡◌, refl, ap, ap₂, sym, ◌∙◌}
use mathlib.Core.Bool.{Bool, true, false, cond}
use mathlib.Core.List.{List}
use Prim.Native.Nat.{ℕ}
use native.Mathlib.Omega.{arith}
use lib.ListN.{length}
use lib.IntN.{ℤ}
use Rattle.std.proofs.Common.{Option, Some, None}
use Rattle.copies.specs.Marks.{Unmarked}
use Rattle.copies.proofs.Choices.{yes, no}
use Rattle.tables.specs.Tables.{Tables}
use Rattle.unmapped.specs.Copies.{all_mapped}
use Rattle.copies.specs.declared.View.{View}
use Rattle.expansion.specs.Codes.{expands_named, expands_named_in}
use Rattle.clauses.specs.Standing.{pending, written_at, clause_at}
use Rattle.indexes.specs.Shown.{place_at}
use Rattle.resolvents.specs.Marks.{Clear}
use Rattle.resolvents.specs.Resolves.{resolves}
use Rattle.derivations.specs.declared.Progress.{Progress}
use Rattle.derivations.specs.declared.Work.{Work}
use Rattle.derivations.specs.Rules.{expansion_broken, by_places, parents_broken, ParentsJudged}

-- MARKS that are clear
pub clear_unmarked : {s : List ℕ} → Clear s → Unmarked s
clear_unmarked c = record { long = omega (arith, c.long); none = c.none }

pub unmarked_clear : {s u : List ℕ} → length u ≡ length s → Clear s → Unmarked u → Clear u
unmarked_clear e c m = record { long = e ∙ c.long; none = m.none }

-- RULES 9 AND 11
module _ (p : Progress) (n : ℕ) (t : Tables) (w : Work) where
  module _ {c : List ℕ} (i : c ≡ pending t.proof p.store) {b : Bool} (e : b ≡ all_mapped w.noted c) where
    mapped_is : b ≡ all_mapped w.noted (pending t.proof p.store)
    mapped_is = e ∙ ap (all_mapped w.noted) i

    pub unmapped_copy : b ≡ false → 9 ≡ expansion_broken p n t w
    unfolding expansion_broken
    unmapped_copy z = no _ _ _ (sym mapped_is ∙ z) refl

    module _ (y : b ≡ true) {line : ℕ} (h : line ≡ written_at p.store) (v : View) (v-prefix : v.prefix.now ≡ t.prefix)
        (v-values : v.values.now ≡ t.values) (v-map : v.map.now ≡ t.map) (v-proof : v.proof.now ≡ t.proof) (v-line : v.line ≡ line) {x : Bool}
        (g : x ≡ expands_named_in v t.matrix w.starts n) where
      expands_is : x ≡ expands_named t.prefix t.values t.map t.proof (written_at p.store) t.matrix w.starts n
      expands_is = rw (sym v-prefix, sym v-values, sym v-map, sym v-proof, sym h, sym v-line) g

      pub expansion_is : x ≡ true → 0 ≡ expansion_broken p n t w
      unfolding expansion_broken
      expansion_is z = yes _ _ _ (sym mapped_is ∙ y) (yes _ _ _ (sym expands_is ∙ z) refl)

      pub no_expansion : x ≡ false → 11 ≡ expansion_broken p n t w
      unfolding expansion_broken
      no_expansion z = yes _ _ _ (sym mapped_is ∙ y) (no _ _ _ (sym expands_is ∙ z) refl)

-- RULE 16
module _ (p : Progress) (a b : ℕ) (t : Tables) (w : Work) {x : Option ℕ} (e : x ≡ place_at w.indexes a) where
  pub first_missing : x ≡ None → 16 ≡ parents_broken p a b t.proof t.marks w.indexes
  unfolding parents_broken
  first_missing z = ap (λ x. by_places p t.proof t.marks x (place_at w.indexes b)) (sym z ∙ e)

  module _ {i : ℕ} (z : x ≡ Some i) {y : Option ℕ} (g : y ≡ place_at w.indexes b) where
    by_places_lem : {u : Option ℕ} → y ≡ u → by_places p t.proof t.marks (Some i) u ≡ parents_broken p a b t.proof t.marks w.indexes
    unfolding parents_broken
    by_places_lem h = ap₂ (by_places p t.proof t.marks) (sym z ∙ e) (sym h ∙ g)

    pub second_missing : y ≡ None → 16 ≡ parents_broken p a b t.proof t.marks w.indexes
    second_missing h = by_places_lem h

    module _ {j : ℕ} (h : y ≡ Some j) {c d k : List ℕ} (l : c ≡ pending t.proof p.store) {proof marks : List ℤ} (same : proof ≡ t.proof)
        (alike : marks ≡ t.marks) (first : d ≡ clause_at proof marks i) (second : k ≡ clause_at proof marks j) {seen' : List ℕ} {o : Bool}
        (r : Clear w.seen → (o ≡ resolves c d k) × Clear seen') where
      resolves_is : Clear w.seen → o ≡ resolves (pending t.proof p.store) (clause_at t.proof t.marks i) (clause_at t.proof t.marks j)
      resolves_is s =
          (r s).0 ∙ ap (λ c. resolves c d k) l
          ∙ ap₂ (resolves (pending t.proof p.store)) (first ∙ ap₂ (λ t m. clause_at t m i) same alike) (second ∙ ap₂ (λ t m. clause_at t m j) same alike)

      pub parents_judged : {q : ℕ} → q ≡ cond o 0 16 → ParentsJudged p a b t w q seen'
      parents_judged m s = (m ∙ ap (λ o. cond o 0 16) (resolves_is s) ∙ by_places_lem h, (r s).1)
