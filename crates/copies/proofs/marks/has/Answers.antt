use Rattle.std.proofs.Common.{rules, tests, refl}
use Rattle.std.proofs.lemmas.Iterator.Search.{any_from_yields_List}
use Rattle.std.proofs.lemmas.Iterator.Consumers.{YieldsList-from_first}
use lib.Dec.{eqb}
use Rattle.cells.specs.Codes.{codes_left}
use Rattle.copies.proofs.marks.has.Goals as goal

pub returns : goal.returns
returns c =
    any_from_yields_List (eqb c.args.y) c.any.new.self _ _ c.any.ensures.ran (YieldsList-from_first (λ x. x) codes_left {s = c.args.codes} _ refl) (λ x b q k. search (rules, tests))
