use Rattle.std.proofs.Common.{◌≡◌, ap, sym, ◌∙◌, Err, rules}
use Rattle.rules.specs.Rule.{broken}
use Rattle.mapped.proofs.NumberLaws.{all_end, all_fails}
use Rattle.annotation.proofs.all_under.Goals as goal

pub returns-in_err-u : goal.returns-in_err-u
returns-in_err-u c =
    let g = rw c.in_err-u.was at c.in-Some.ensures.steps in
    let r : c.from_residual.result ≡ Err c.in_err-u.field-0.0 = search rules in
    all_end 8 c.loop-u.invariant g.0 (ap broken r ∙ g.1)

pub returns-then-not-under : goal.returns-then-not-under
returns-then-not-under c =
    let g = rw c.in_ok-u.was at c.in-Some.ensures.steps in
    all_fails 8 c.loop-u.invariant g.0 (sym c.if-not-under.ensures)

pub returns : goal.returns
returns c = let g = c.in-None.ensures.steps in all_end 8 c.loop-u.invariant g.0 (sym g.1)
