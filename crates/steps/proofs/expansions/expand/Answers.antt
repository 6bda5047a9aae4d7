use Rattle.std.proofs.lemmas.Result.{err_from_is_err_and}
use Rattle.tables.specs.Lent.{read_of}
use Rattle.steps.specs.Judges.{work_of}
use Rattle.steps.proofs.ExpandLaws.{expand_refused, expand_next}
use Rattle.steps.proofs.expansions.expand.Goals as goal

pub returns-in_err-rule_broken : goal.returns-in_err-rule_broken
returns-in_err-rule_broken c =
    let e = err_from_is_err_and c.from_residual.result c.from_residual.ensures.1 in
    rw (e.1, e.2) (expand_refused _ _ _ _ _ (c.rule_broken.ensures c.args.marks.now c.args.propagation.now) c.in_err-rule_broken.was _)

pub returns : goal.returns
returns c =
    let t = read_of c.args.tables c.args.marks.now in
    let w = work_of c.args.starts.now c.args.noted.now c.args.propagation.now in
    expand_next _ _ _ t w (c.rule_broken.ensures c.args.marks.now c.args.propagation.now) c.in_ok-rule_broken.was c.with_expansion.ensures (c.stand.ensures t w)
