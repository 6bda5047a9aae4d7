-- All that the soundness of a certificate asks of the prefix: that its existentials have an answer to the universals.
use mathlib.Core.Path.{◌≡◌}
use mathlib.Core.Bool.{true, ◌&&◌, ◌||◌}
use Prim.Native.Nat.{ℕ}
use Rattle.rules.specs.Literals.{Lits, var}
use Rattle.rules.specs.Formula.{Formula, universal, existential, depends_on}
use Rattle.rules.proofs.Kit.{In, Some}
use Rattle.rules.proofs.Valuation.{Valuation, value}

pub record Strategy (f : Formula) : Type 0 where
  -- the values of all variables, where the universals have those of s
  pub play : Valuation → Valuation
  pub given : (s : Valuation) (u : ℕ) → universal f u ≡ true → play s u ≡ s u
  -- each clause of the matrix has a true literal, and that of a variable of the prefix
  pub wins : (s : Valuation) (c : Lits) → In c f.matrix
      → Some (λ l. value (play s) l && (universal f (var l) || existential f (var l))) c
  -- the value of an existential depends only on what it may depend on
  pub depends : (s r : Valuation) (e : ℕ) → existential f e ≡ true
      → ((u : ℕ) → depends_on f e u ≡ true → s u ≡ r u) → play s e ≡ play r e
