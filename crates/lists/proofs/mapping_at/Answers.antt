use mathlib.Core.Path.{sym, ◌∙◌}
use Rattle.lists.proofs.FormLaws.{no_mapping, lost_1, signed_1, lost_2, signed_2, lost_3, unequal, equal, lists}
use Rattle.lists.proofs.mapping_at.Goals as goal

pub returns-in_err-copies : goal.returns-in_err-copies
returns-in_err-copies c = c.from_residual.ensures ∙ no_mapping _ _ (lost_1 _ _ (sym c.list_at.ensures ∙ c.in_err-copies.was))

pub returns-then-copies : goal.returns-then-copies
returns-then-copies c = no_mapping _ _ (signed_1 _ _ (sym c.list_at.ensures ∙ c.in_ok-copies.was) c.if-copies.true)

pub returns-in_err-existentials : goal.returns-in_err-existentials
returns-in_err-existentials c =
    c.from_residual-in_err-existentials.ensures
    ∙ no_mapping _ _ (lost_2 _ _ (sym c.list_at.ensures ∙ c.in_ok-copies.was) c.if-copies.false (sym c.list_at-2.ensures ∙ c.in_err-existentials.was))

pub returns-then-existentials : goal.returns-then-existentials
returns-then-existentials c =
    no_mapping _ _ (signed_2 _ _ (sym c.list_at.ensures ∙ c.in_ok-copies.was) c.if-copies.false (sym c.list_at-2.ensures ∙ c.in_ok-existentials.was) c.if-existentials.true)

pub returns-in_err-literals : goal.returns-in_err-literals
returns-in_err-literals c =
    c.from_residual-in_err-literals.ensures
    ∙ no_mapping _ _ (lost_3 _ _ (sym c.list_at.ensures ∙ c.in_ok-copies.was) c.if-copies.false (sym c.list_at-2.ensures ∙ c.in_ok-existentials.was) c.if-existentials.false
    (sym c.clause_at.ensures ∙ c.in_err-literals.was))

pub returns-then-copies-existentials : goal.returns-then-copies-existentials
returns-then-copies-existentials c =
    no_mapping _ _ (unequal _ _ (sym c.list_at.ensures ∙ c.in_ok-copies.was) c.if-copies.false (sym c.list_at-2.ensures ∙ c.in_ok-existentials.was) c.if-existentials.false
    (sym c.clause_at.ensures ∙ c.in_ok-literals.was) c.if-copies-existentials.true)

pub returns : goal.returns
returns c =
    lists _ _ (equal _ _ (sym c.list_at.ensures ∙ c.in_ok-copies.was) c.if-copies.false (sym c.list_at-2.ensures ∙ c.in_ok-existentials.was) c.if-existentials.false
    (sym c.clause_at.ensures ∙ c.in_ok-literals.was) c.if-copies-existentials.false)
