use Rattle.std.proofs.Common.{rules, tests, ◌∙◌, ap}
use Rattle.std.proofs.lemmas.Iterator.{YieldsList-from_slice}
use Rattle.std.proofs.lemmas.Iterator.Search.{all_from_yields_List}
use Rattle.cells.specs.Codes.{codes_left}
use Rattle.std.specs.List.{list_all as all}
use Rattle.rules.specs.Basics.{is_in}
use Rattle.deletion.proofs.covers.Goals as goal

pub returns : goal.returns
returns c =
    let p = is_in (codes_left c.args.clause) in
    all_from_yields_List p _ _ _ c.all.ensures.ran (YieldsList-from_slice c.as_slice.result.now cc) (λ x b q k. search (rules, tests))
    ∙ ap (all p) c.as_slice.ensures
