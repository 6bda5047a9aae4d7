use Rattle.prefix.proofs.TableLaws.{zeroing_more, zeroing_end}
use Rattle.prefix.proofs.clear.Goals as goal

pub loop-i-preserved : goal.loop-i-preserved
loop-i-preserved c = zeroing_more c.loop-i.invariant c.loop-i-test.true c.put.ensures

pub returns : goal.returns
returns c = zeroing_end c.loop-i.invariant c.loop-i-test.false
