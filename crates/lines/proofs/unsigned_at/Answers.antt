use native.Mathlib.Omega.{arith}
use mathlib.Core.Path.{◌≡◌, sym, ◌∙◌}
use lib.ListN.{length}
use borrow.Author.Tests.{not-false}
use Rattle.lines.proofs.Numbers.{digit_from}
use Rattle.lines.proofs.Walks.{walk_first, walk_on, walk_blank, walk_past}
use Rattle.lines.proofs.unsigned_at.Goals as goal

pub overflow_sub-v : goal.overflow_sub-v
overflow_sub-v c = digit_from _ (sym c.is_digit.ensures ∙ not-false _ c.if-not-is_digit.false-raw)

pub loop-i-init : goal.loop-i-init
loop-i-init c = walk_first _ _ c.if-line-from.false (sym c.is_digit.ensures ∙ not-false _ c.if-not-is_digit.false-raw)

pub returns-then-is_blank : goal.returns-then-is_blank
returns-then-is_blank c = walk_blank _ _ c.loop-i.invariant c.loop-i-test.true (sym c.is_blank.ensures ∙ c.if-is_blank.true)

pub overflow_sub-v-in-loop-i : goal.overflow_sub-v-in-loop-i
overflow_sub-v-in-loop-i c = digit_from _ (sym c.is_digit-in-loop-i.ensures ∙ not-false _ c.if-not-is_digit-2.false-raw)

pub loop-i-preserved : goal.loop-i-preserved
loop-i-preserved c = walk_on _ _ c.loop-i.invariant c.loop-i-test.true (sym c.is_digit-in-loop-i.ensures ∙ not-false _ c.if-not-is_digit-2.false-raw) (c.grows.ensures (not-false _ c.if-not-grows.false-raw))

pub returns : goal.returns
returns c = let e : c.loop-i.i ≡ length c.args.line.now = omega (arith, c.loop-i.auto.i-end) in rw e at (walk_past _ _ c.loop-i.invariant c.loop-i-test.false)
