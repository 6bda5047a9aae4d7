use Rattle.resolvents.proofs.AnswerLaws.{answered}
use Rattle.resolvents.proofs.resolves.Goals as goal

pub returns : goal.returns
returns c = answered c.args.c c.args.d c.args.e _ c.mark.ensures c.stray-p.ensures.0 c.stray-p.ensures.1 c.stray-q.ensures.0 c.stray-q.ensures.1
    c.has_pivot-found.ensures c.unmark.ensures.0 c.unmark.ensures.1
