use Rattle.std.proofs.lemmas.Result.{err_from_is_err_and}
use Rattle.derivations.proofs.JudgeLaws.{index_used, rule_refused, line_stands}
use Rattle.derivations.proofs.judging.derive.Goals as goal

pub returns-then-is_some : goal.returns-then-is_some
returns-then-is_some c = λ w v h. index_used _ _ _ _ c.place_of.ensures c.is_some.ensures c.if-is_some.true _

pub returns-in_err-rule_broken : goal.returns-in_err-rule_broken
returns-in_err-rule_broken c = λ w v h.
    let e = err_from_is_err_and c.from_residual.result c.from_residual.ensures.1 in
    rw (e.1, e.2) (rule_refused _ _ _ _ c.place_of.ensures c.is_some.ensures c.if-is_some.false _ _ (c.rule_broken.ensures w h) c.in_err-rule_broken.was _)

pub returns : goal.returns
returns c = λ w v h.
    line_stands _ _ _ _ c.place_of.ensures c.is_some.ensures c.if-is_some.false _ _ (c.rule_broken.ensures w h) c.in_ok-rule_broken.was c.stand.ensures v
