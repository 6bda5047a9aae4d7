use Rattle.annotation.proofs.AnnotationLaws.{once_ruled}
use Rattle.annotation.proofs.RisingLaws.{once_kept}
use Rattle.annotation.proofs.once.Goals as goal

pub returns-then-rises : goal.returns-then-rises
returns-then-rises c = once_kept (c.rises.ensures c.if-rises.true)

pub returns : goal.returns
returns c = once_ruled _ c.note.ensures
