use native.Mathlib.Omega.{arith}
use mathlib.Core.Path.{sym, ◌∙◌}
use borrow.Author.Tests.{not-true, not-false}
use Rattle.lines.proofs.Numbers.{on_past, on_stop, on_go, digits_none, digits_zero, digits_led, digits_on, digit_from}
use Rattle.lines.proofs.digits_from.Goals as goal

pub returns-then-word-from : goal.returns-then-word-from
returns-then-word-from c = digits_none _ _ c.if-word-from.true

pub returns-then-from-word : goal.returns-then-from-word
returns-then-from-word c = digits_zero _ _ c.if-word-from.false c.if-d-eq48.true c.if-from-word.true

pub returns-then-d-eq48 : goal.returns-then-d-eq48
returns-then-d-eq48 c = digits_led _ _ c.if-word-from.false c.if-d-eq48.true c.if-from-word.false

pub loop-i-init : goal.loop-i-init
loop-i-init c = (omega arith, digits_on _ _ c.if-word-from.false c.if-d-eq48.false)

pub returns-then-not-is_digit : goal.returns-then-not-is_digit
returns-then-not-is_digit c = on_stop _ c.loop-i.i c.loop-i.v c.loop-i-test.true (sym c.is_digit.ensures ∙ not-true _ c.if-not-is_digit.true-raw) ∙ c.loop-i.invariant.1

pub with_digit-v-requires : goal.with_digit-v-requires
with_digit-v-requires c = (c.loop-i.invariant.0, digit_from _ (sym c.is_digit.ensures ∙ not-false _ c.if-not-is_digit.false-raw))

pub loop-i-preserved : goal.loop-i-preserved
loop-i-preserved c = (omega (arith, c.with_digit-v.ensures), sym (on_go _ c.loop-i.i c.loop-i.v c.loop-i-test.true (sym c.is_digit.ensures ∙ not-false _ c.if-not-is_digit.false-raw) c.with_digit-v.ensures) ∙ c.loop-i.invariant.1)

pub returns : goal.returns
returns c = on_past _ _ c.loop-i.v c.loop-i-test.false c.loop-i.invariant.0 ∙ c.loop-i.invariant.1
