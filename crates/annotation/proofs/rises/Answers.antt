use Rattle.annotation.proofs.RisingLaws.{rising_end, rising_more}
use Rattle.annotation.proofs.rises.Goals as goal

pub loop-u-preserved : goal.loop-u-preserved
loop-u-preserved c =
    let g = rw c.in-Ok.is at c.in-Some.ensures.steps in
    rising_more c.loop-u.invariant g.0 g.1 c.if-last-u.true c.if-u-le-COPIES.true

pub returns : goal.returns
returns c = λ _. let g = c.in-None.ensures.steps in rising_end c.loop-u.invariant g.0 g.1
