use mathlib.Core.Path.{◌∙◌}
use Rattle.lines.proofs.Words.{literal_by_code, literal_by_both}
use Rattle.lines.proofs.literal_at.Goals as goal

pub returns-in_err-x : goal.returns-in_err-x
returns-in_err-x c = c.from_residual.ensures ∙ literal_by_code _ _ c.code_at.ensures c.in_err-x.was

pub returns : goal.returns
returns c = literal_by_both _ _ c.code_at.ensures c.token_end.ensures c.in_ok-x.was
