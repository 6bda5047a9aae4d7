use Rattle.std.proofs.Common.{◌≡◌, sym, ◌∙◌, Err, rules}
use Rattle.rules.specs.declared.Rule.TheVariants.{NotImplied}
use Rattle.steps.proofs.AddLaws.{add_left, add_refused, add_next}
use Rattle.steps.proofs.additions.add.Goals as goal

pub returns-then-hint_left : goal.returns-then-hint_left
returns-then-hint_left c = λ t w. add_left _ _ _ _ _ (sym c.hint_left.ensures ∙ c.if-hint_left.true) _

pub returns-in_err-followed : goal.returns-in_err-followed
returns-in_err-followed c = λ t w.
    let d = c.standing-standing.ensures in
    let r : c.from_residual.result ≡ Err NotImplied = search rules in
    rw r (add_refused _ _ _ _ _ (sym c.hint_left.ensures ∙ c.if-hint_left.false) c.add.new.propagation _ d.proof d.marks d.count c.pending-clause.ensures.left c.add.ensures c.in_err-followed.ensures.ok_part _)

pub returns : goal.returns
returns c = λ t w.
    let d = c.standing-standing.ensures in
    add_next _ _ _ _ _ (sym c.hint_left.ensures ∙ c.if-hint_left.false) c.add.new.propagation _ d.proof d.marks d.count c.pending-clause.ensures.left c.add.ensures c.in_ok-followed.ensures.ok_part
    c.with_addition.ensures (c.stand.ensures t w)
