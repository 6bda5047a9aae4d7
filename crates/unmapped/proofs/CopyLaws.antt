-- The copies of a clause one after the other, and rule 9. Assumes nothing.
use mathlib.Core.Path.{◌≡◌, refl, ap, ap₂, ◌∙◌}
use mathlib.Core.Bool.{Bool, ◌&&◌}
use mathlib.Core.List.{List, [], ◌∷◌, map}
use Prim.Native.Nat.{ℕ, ◌/◌}
use Rattle.std.specs.List.{list_all}
use Rattle.std.specs.List.{list_all as all}
use Rattle.rules.specs.Literals.{Lits, vars}
use Rattle.rules.specs.Codes.{code_of}
use Rattle.rules.specs.Expansion.{Copy, is_mapped}
use Rattle.mapped.specs.Marks.{is_noted, NotedShown}
use Rattle.mapped.proofs.MarkLaws.{mapped_rule}
use Rattle.unmapped.specs.Copies.{all_mapped}

-- RULE 9, where the marks show the copies m
pub mapped_all : {noted : List ℕ} {m : List Copy} → NotedShown noted m → (c : Lits) {xs : List ℕ} → xs ≡ map code_of c
    → all_mapped noted xs ≡ all (is_mapped m) (vars c)
unfolding all_mapped
mapped_all {noted} {m} h c e = ap (all (λ x. is_noted noted (x / 2))) e ∙ go c
  where
    go : (d : Lits) → all (λ x. is_noted noted (x / 2)) (map code_of d) ≡ all (is_mapped m) (vars d)
    go [] = refl
    go (l ∷ d) = ap₂ ◌&&◌ (mapped_rule h l refl) (go d)
