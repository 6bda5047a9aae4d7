use mathlib.Core.Path.{sym, ◌∙◌}
use Rattle.lines_c.proofs.Laws.{skipped, lettered, other}
use Rattle.lines_c.proofs.in_line.Goals as goal

pub returns-in-Skipped : goal.returns-in-Skipped
returns-in-Skipped c = skipped _ (sym c.line_head.ensures ∙ c.in-Skipped.is)

pub returns-in-Letter : goal.returns-in-Letter
returns-in-Letter c = lettered _ (sym c.line_head.ensures ∙ c.in-Letter.is) c.in_tokens.ensures

pub returns-in-Other : goal.returns-in-Other
returns-in-Other c = other _ (sym c.line_head.ensures ∙ c.in-Other.is) c.in_tokens-in-Other.ensures
