use Rattle.std.proofs.Common.{rules, tests, ◌∙◌}
use Rattle.std.proofs.lemmas.Iterator.Search.{all_from_yields_List}
use Rattle.std.proofs.lemmas.Iterator.Consumers.{YieldsList-from_first}
use Rattle.cells.specs.Codes.{codes_left}
use Rattle.prefix.specs.Prefix.{is_bound}
use Rattle.prefix.proofs.all_bound.Goals as goal

pub returns : goal.returns
unfolding is_bound
returns c =
    all_from_yields_List (is_bound c.args.prefix.now) c.all.new.self _ _ c.all.ensures.ran (YieldsList-from_first (λ x. x) codes_left {s = c.new.result} _ c.new.ensures.left) (λ x b q k. search (rules, tests))
