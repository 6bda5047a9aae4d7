use Rattle.std.proofs.Common.{rules, tests, refl, arith, ◌≡◌, ◌-◌, ◌∙◌}
use Rattle.std.proofs.lemmas.Iterator.Search.{any_from_yields_List}
use Rattle.std.proofs.lemmas.Iterator.{YieldsList-from_range}
use Rattle.clauses.specs.Standing.{empty_of}
use Rattle.clauses.proofs.StandingLaws.{empty_listed}
use Rattle.clauses.proofs.Standing.empty_stands.Goals as goal

pub returns : goal.returns
returns c =
    let n = c.args.self.count in
    let e : n - 0 ≡ n = omega arith in
    any_from_yields_List (empty_of c.args.self) _ _ _ c.any.ensures.ran (YieldsList-from_range 0 n n refl e) (λ x b q k. search (rules, tests)) ∙ empty_listed _ _ _
