-- The quantifier of a prefix line. Assumes nothing.
use Rattle.std.specs.Prelude.{ℕ}
use Rattle.formula.specs.declared.Quantifier.{Quantifier}
use Rattle.formula.specs.declared.Quantifier.TheVariants.{Universal, Existential}

-- a quantifier's number in the prefix table
abbrev pub number_of : Quantifier → ℕ
number_of Universal = 1
number_of Existential = 2
