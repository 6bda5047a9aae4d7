use mathlib.Core.Path.{sym, ◌∙◌}
use Rattle.ferp_forms.proofs.ReasonLaws.{first_lost, first_zero, second_lost, one_given, third_lost, third_more, two_given}
use Rattle.ferp_forms.proofs.reason_at.Goals as goal

pub returns-in_err-a : goal.returns-in_err-a
returns-in_err-a c = c.from_residual.ensures ∙ first_lost _ _ (sym c.natural_at.ensures ∙ c.in_err-a.was)

pub returns-then-a-eq0 : goal.returns-then-a-eq0
returns-then-a-eq0 c = first_zero _ _ (sym c.natural_at.ensures ∙ c.in_ok-a.was) c.if-a-eq0.true

pub returns-in_err-b : goal.returns-in_err-b
returns-in_err-b c =
    c.from_residual-in_err-b.ensures
    ∙ second_lost _ _ (sym c.natural_at.ensures ∙ c.in_ok-a.was) c.if-a-eq0.false (sym c.natural_at-2.ensures ∙ c.in_err-b.was)

pub returns-then-b-eq0 : goal.returns-then-b-eq0
returns-then-b-eq0 c =
    one_given _ _ (sym c.natural_at.ensures ∙ c.in_ok-a.was) c.if-a-eq0.false (sym c.natural_at-2.ensures ∙ c.in_ok-b.was) c.if-b-eq0.true c.closed.ensures

pub returns-in_err-z : goal.returns-in_err-z
returns-in_err-z c =
    c.from_residual-in_err-z.ensures
    ∙ third_lost _ _ (sym c.natural_at.ensures ∙ c.in_ok-a.was) c.if-a-eq0.false (sym c.natural_at-2.ensures ∙ c.in_ok-b.was) c.if-b-eq0.false
    (sym c.natural_at-3.ensures ∙ c.in_err-z.was)

pub returns-then-z-eq0 : goal.returns-then-z-eq0
returns-then-z-eq0 c =
    two_given _ _ (sym c.natural_at.ensures ∙ c.in_ok-a.was) c.if-a-eq0.false (sym c.natural_at-2.ensures ∙ c.in_ok-b.was) c.if-b-eq0.false
    (sym c.natural_at-3.ensures ∙ c.in_ok-z.was) c.if-z-eq0.true c.closed-then-z-eq0.ensures

pub returns : goal.returns
returns c =
    third_more _ _ (sym c.natural_at.ensures ∙ c.in_ok-a.was) c.if-a-eq0.false (sym c.natural_at-2.ensures ∙ c.in_ok-b.was) c.if-b-eq0.false
    (sym c.natural_at-3.ensures ∙ c.in_ok-z.was) c.if-z-eq0.false
