use mathlib.Core.Path.{sym}
use Rattle.lines.proofs.Words.{ends}
use Rattle.lines.proofs.token_end.Goals as goal

pub returns : goal.returns
returns c = sym (ends _ _ c.past.ensures c.past-2.ensures)
