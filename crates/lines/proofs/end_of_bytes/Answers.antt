use native.Mathlib.Omega.{arith}
use mathlib.Core.Path.{ap, sym, ◌∙◌}
use Prim.Native.Nat.{◌+◌}
use Rattle.lines.specs.declared.Run.TheVariants.{Line}
use Rattle.lines.specs.Scan.{passes}
use Rattle.lines.proofs.Runs.{run_le, block_next, block_over, block_within}
use Rattle.lines.proofs.end_of_bytes.Goals as goal

pub overflow_add-i : goal.overflow_add-i
overflow_add-i c = let l = c.loop-block.invariant in let s = c.in-Some.ensures.steps in
    let n = s.1.1 ∙ l.0 in
    let b = block_next (passes Line) c.args.s.now c.loop-block.i _ _ (sym l.1 ∙ s.1.0) n in
    let r = run_le (passes Line) c.in-Some.block.now in
    omega (arith, b.1, c.before_end.ensures, c.well_formed)

pub returns-then-ends_within : goal.returns-then-ends_within
returns-then-ends_within c = let l = c.loop-block.invariant in let s = c.in-Some.ensures.steps in
    let r = block_within (passes Line) c.args.s.now c.loop-block.i _ _ (sym l.1 ∙ s.1.0) (s.1.1 ∙ l.0) c.before_end.result c.before_end.ensures in
    c.past.ensures ∙ sym (l.2 ∙ ap (λ n. c.loop-block.i + n) r ∙ omega arith)

pub loop-block-preserved : goal.loop-block-preserved
loop-block-preserved c = let l = c.loop-block.invariant in let s = c.in-Some.ensures.steps in
    let d = sym l.1 ∙ s.1.0 in
    let n = s.1.1 ∙ l.0 in
    let r = block_over (passes Line) c.args.s.now c.loop-block.i _ _ d n (c.ends_within.ensures c.if-ends_within.false) in
    (s.0 ∙ l.0, (block_next (passes Line) c.args.s.now c.loop-block.i _ _ d n).0, l.2 ∙ ap (λ n. c.loop-block.i + n) r ∙ omega arith)
