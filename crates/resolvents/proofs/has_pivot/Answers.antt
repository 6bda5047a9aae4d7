use Rattle.std.proofs.Common.{refl, ap, ap₂, sym, rules, tests, ◌∙◌}
use Rattle.std.proofs.lemmas.Iterator.Search.{any_from_yields_List}
use Rattle.std.proofs.lemmas.Iterator.Consumers.{YieldsList-from_first}
use Rattle.cells.specs.Codes.{codes_left}
use Rattle.std.specs.List.{list_any as any}
use Rattle.resolvents.specs.declared.Strays.{Strays}
use Rattle.resolvents.specs.Marks.{in_all, pivot, candidates}
use Rattle.resolvents.proofs.has_pivot.Goals as goal

pub returns-in-None-q : goal.returns-in-None-q
unfolding candidates
returns-in-None-q c =
    let a = c.args in
    let t = pivot (in_all a.seen.now) a.p a.q in
    any_from_yields_List t c.any.new.self _ _ c.any.ensures.ran (YieldsList-from_first (λ x. x) codes_left {s = a.clause} _ refl) (λ x b q k. search (rules, tests))
    ∙ ap (any t) (sym (ap₂ (λ (p q : Strays). candidates p q (codes_left a.clause)) c.in-None.is c.in-None-q.is))
