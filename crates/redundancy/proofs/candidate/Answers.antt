use Rattle.cells.specs.Codes.{codes_left}
use Rattle.redundancy.specs.Additions.{rest_of}
use Rattle.redundancy.proofs.AdditionLaws.{tried}
use Rattle.redundancy.proofs.candidate.Goals as goal

pub returns-in-Conflict : goal.returns-in-Conflict
returns-in-Conflict c = λ r h. tried _ (codes_left c.args.joined.c) (rest_of c.args.joined.less) _ c.undo.ensures.undone _ (rw c.in-Conflict.is at c.refute.ensures r) h

pub returns-in-Stable : goal.returns-in-Stable
returns-in-Stable c = λ r h. tried _ (codes_left c.args.joined.c) (rest_of c.args.joined.less) _ c.undo-in-Stable.ensures.undone _ (rw c.in-Stable.is at c.refute.ensures r) h
