use native.Mathlib.Omega.{arith}
use mathlib.Core.Path.{ap, sym, ◌∙◌}
use Prim.Native.Nat.{◌+◌}
use borrow.Author.Tests.{not-true, not-false}
use Rattle.lines.proofs.Runs.{run_stop, run_go, run_whole}
use Rattle.lines.proofs.past.Goals as goal

pub returns-then-not-belongs : goal.returns-then-not-belongs
returns-then-not-belongs c = sym (c.loop-i.invariant ∙ ap (λ n. c.loop-i.i + n) (run_stop _ _ c.loop-i.i c.loop-i-test.true (sym c.belongs.ensures ∙ not-true _ c.if-not-belongs.true-raw)) ∙ omega arith)

pub loop-i-preserved : goal.loop-i-preserved
loop-i-preserved c = c.loop-i.invariant ∙ ap (λ n. c.loop-i.i + n) (run_go _ _ c.loop-i.i c.loop-i-test.true (sym c.belongs.ensures ∙ not-false _ c.if-not-belongs.false-raw)) ∙ omega arith

pub returns : goal.returns
returns c = run_whole _ _ c.args.at c.loop-i.invariant c.loop-i-test.false c.loop-i.auto.i-end c.max.ensures
