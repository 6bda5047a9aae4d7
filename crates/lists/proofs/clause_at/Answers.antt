use mathlib.Core.Path.{sym, ◌∙◌}
use Rattle.lists.proofs.FormLaws.{lost_line, ended_line}
use Rattle.lists.proofs.clause_at.Goals as goal

pub returns-in_err-measure : goal.returns-in_err-measure
returns-in_err-measure c = c.from_residual.ensures ∙ lost_line _ _ (sym c.list_at.ensures ∙ c.in_err-measure.was)

pub returns : goal.returns
returns c = c.then_some.ensures ∙ ended_line _ _ (sym c.list_at.ensures ∙ c.in_ok-measure.was) _ c.ended.ensures
