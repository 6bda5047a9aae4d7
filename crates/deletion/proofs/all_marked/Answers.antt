use Rattle.std.proofs.Common.{refl, rules, tests, ◌∙◌}
use Rattle.std.proofs.lemmas.Iterator.{cases_from_all}
use Rattle.std.proofs.lemmas.Iterator.Consumers.{YieldsList-from_first}
use mathlib.Core.Bool.{true, false}
use Rattle.cells.specs.Codes.{codes_left, codes_table, codes_place}
use Rattle.clauses.proofs.LiteralLaws.{Gives, all_codes}
use Rattle.trail.specs.Trail.{off}
use Rattle.deletion.proofs.all_marked.Goals as goal

pub returns : goal.returns
returns c =
    let p = off c.args.trail.now.falses in
    let t = codes_table c.args.clause in
    let i = codes_place c.args.clause in
    all_codes p t i _ (cases_from_all c.all.new.self _ _ (Gives p t i true) (Gives p t i false) c.all.ensures.ran (YieldsList-from_first (λ x. x) codes_left {s = c.args.clause} _ refl) (λ x q k. search (rules, tests)) (λ x q k. search (rules, tests)))
