use Rattle.derivations.specs.Shown.{beside}
use Rattle.derivations.proofs.judging.rule_broken.Goals as goal

pub returns-in-Clause : goal.returns-in-Clause
returns-in-Clause c = λ w h.
    rw c.in-Clause.is
    (c.expansion_broken.ensures c.args.marks.now (beside w c.args.starts.now c.args.noted.now c.args.indexes.now c.args.seen.now) h)

pub returns-in-Parents : goal.returns-in-Parents
returns-in-Parents c = λ w h.
    rw c.in-Parents.is (c.parents_broken.ensures (beside w c.args.starts.now c.args.noted.now c.args.indexes.now c.args.seen.now))
