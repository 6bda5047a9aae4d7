use native.Mathlib.Omega.{arith}
use mathlib.Core.Path.{ap, sym, ◌∙◌}
use Prim.Native.Nat.{◌+◌}
use borrow.Author.Tests.{not-false}
use Rattle.lines.specs.declared.Run.TheVariants.{Blanks}
use Rattle.lines.specs.Scan.{passes}
use Rattle.lines.proofs.Runs.{block_next, block_over}
use Rattle.lines.proofs.past_eights.Goals as goal

pub loop-block-preserved : goal.loop-block-preserved
loop-block-preserved c = let l = c.loop-block.invariant in let s = c.in-Some.ensures.steps in
    let d = sym l.1 ∙ s.1.0 in
    let n = s.1.1 ∙ l.0 in
    let r = block_over (passes Blanks) c.args.s.now c.loop-block.i _ _ d n (c.all_blank.ensures (not-false _ c.if-not-all_blank.false-raw)) in
    (s.0 ∙ l.0, (block_next (passes Blanks) c.args.s.now c.loop-block.i _ _ d n).0, l.2 ∙ ap (λ n. c.loop-block.i + n) r ∙ omega arith)
