use mathlib.Core.Path.{sym, ◌∙◌}
use Rattle.lists.proofs.NaturalLaws.{natural_none, natural_even}
use Rattle.lists.proofs.natural_at.Goals as goal

pub returns-in_err-x : goal.returns-in_err-x
returns-in_err-x c = c.from_residual.ensures ∙ natural_none _ _ (sym c.literal_at.ensures ∙ c.in_err-x.was)

pub returns : goal.returns
returns c = c.then_some.ensures ∙ natural_even _ _ (sym c.literal_at.ensures ∙ c.in_ok-x.was)
