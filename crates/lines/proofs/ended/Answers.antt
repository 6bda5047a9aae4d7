use Rattle.lines.proofs.Words.{ended_is}
use Rattle.lines.proofs.ended.Goals as goal

pub returns : goal.returns
returns c = ended_is _ _ c.past_blanks.ensures
