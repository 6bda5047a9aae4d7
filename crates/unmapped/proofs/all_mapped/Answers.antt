use Rattle.std.proofs.Common.{ℕ, refl, rules, tests, ◌/◌, ◌∙◌}
use Rattle.std.proofs.lemmas.Iterator.Search.{all_from_yields_List}
use Rattle.std.proofs.lemmas.Iterator.Consumers.{YieldsList-from_first}
use Rattle.cells.specs.Codes.{codes_left}
use Rattle.mapped.specs.Marks.{is_noted}
use Rattle.unmapped.specs.Copies.{all_mapped}
use Rattle.unmapped.proofs.all_mapped.Goals as goal

pub returns : goal.returns
unfolding all_mapped
returns c =
    let p = λ (x : ℕ). is_noted c.args.noted.now (x / 2) in
    all_from_yields_List p c.all.new.self _ _ c.all.ensures.ran (YieldsList-from_first (λ x. x) codes_left {s = c.args.clause} _ refl) (λ x b q k. search (rules, tests))
