use Rattle.std.proofs.Common.{rules, tests, ◌∙◌}
use Rattle.std.proofs.lemmas.Iterator.Search.{any_from_yields_List}
use Rattle.std.proofs.lemmas.Iterator.Consumers.{YieldsList-from_first}
use lib.Dec.{eqb}
use Rattle.cells.specs.Codes.{codes_left}
use Rattle.copies.specs.Copies.{images_of, image_of, stands_in}
use Rattle.copies.proofs.Members.{any_mapped}
use Rattle.copies.proofs.View.has_image.Goals as goal

pub returns : goal.returns
unfolding images_of
returns c =
    any_from_yields_List (λ x. eqb c.args.y (image_of (stands_in c.args.self) x)) c.any.new.self _ _ c.any.ensures.ran (YieldsList-from_first (λ x. x) codes_left {s = c.codes.result} _ c.codes.ensures) (λ x b q k. search (rules, tests))
    ∙ any_mapped (image_of (stands_in c.args.self)) (eqb c.args.y) _
