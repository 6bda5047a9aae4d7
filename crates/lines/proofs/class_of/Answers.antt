use borrow.Author.Rules.{rules}
use Rattle.lines.proofs.Tables.{told}
use Rattle.lines.proofs.class_of.Goals as goal

pub returns : goal.returns
returns c = told _ c.classes-classes.ensures _ (search rules)
