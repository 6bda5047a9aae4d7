-- Expansion by the least t, a SECOND DEFINITION that code computes: of a proper mapping it answers what the rules answer
-- (`expands_least` of proofs/ExpansionLaw). The rules themselves do not use it. Assumes nothing.
use Rattle.std.specs.Prelude.{◌≡◌, Bool, true, not, ◌&&◌, ℕ}
use mathlib.Core.List.{List, [], ◌++◌, map, foldr, Memᴰ}
use Rattle.rules.specs.Basics.{distinct}
use Rattle.rules.specs.Literals.{Lit, Lits, var, vars, negate, both_signs}
use Rattle.rules.specs.Formula.{Formula, existential, depends_on}
use Rattle.rules.specs.Expansion.{Copy, copy_vars, annotation, universals, expands_by}

-- the annotations of these copies, joined
abbrev pub annotations : List Copy → List ℕ → Lits
annotations m ps = foldr (λ p t. annotation m p ++ t) [] ps

-- what every t that makes the line an expansion of the clause must hold: the negations of the clause's universal literals, and the
-- annotations of the line's copies
unfoldable pub least_by : Formula → List Copy → Lits → Lits → Lits
least_by f m line clause = map negate (universals f clause) ++ annotations m (vars line)

unfoldable pub expands_by_least : Formula → List Copy → Lits → Lits → Bool
expands_by_least f m line clause = not (both_signs (least_by f m line clause)) && expands_by f m line clause (least_by f m line clause)

-- what rule 8 sees to: a copy stands for an existential, under literals of universals that this depends on, no variable twice
pub record ProperCopy (f : Formula) (c : Copy) : Type 0 where
  pub stands : existential f c.stands_for ≡ true
  pub dependent : (l : Lit) → Memᴰ l c.under → depends_on f c.stands_for (var l) ≡ true
  pub once : distinct (vars c.under) ≡ true

-- what rules 7 and 8 see to: every copy is proper, and mapped once
pub record Proper (f : Formula) (m : List Copy) : Type 0 where
  pub each : (c : Copy) → Memᴰ c m → ProperCopy f c
  pub once : distinct (copy_vars m) ≡ true
