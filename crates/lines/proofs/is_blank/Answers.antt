use Rattle.lines.specs.declared.Class.TheVariants.{Blank}
use Rattle.lines.proofs.Classes.{blanks_below}
use Rattle.lines.proofs.Tables.{among_all}
use Rattle.lines.proofs.is_blank.Goals as goal

pub returns : goal.returns
returns c = among_all Blank 0 33 _ (blanks_below _) c.among.ensures
