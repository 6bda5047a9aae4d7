use native.Mathlib.Omega.{arith}
use lib.ListN.{take}
use Rattle.lines.specs.declared.Run.TheVariants.{Line}
use Rattle.lines.specs.Scan.{passes}
use Rattle.lines.proofs.Runs.{counted_front, run_take}
use Rattle.lines.proofs.before_end.Goals as goal

pub loop-b-preserved : goal.loop-b-preserved
loop-b-preserved c = counted_front (take 7 c.args.block.now) c.loop-b.invariant c.loop-b-test.true c.unless_end-more.ensures

pub returns : goal.returns
returns c = omega (arith, c.loop-b.invariant.over, run_take (passes Line) 7 c.args.block.now)
