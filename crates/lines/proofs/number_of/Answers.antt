use native.Mathlib.Omega.{arith}
use mathlib.Core.Path.{sym, ◌∙◌}
use borrow.Author.Tests.{not-true, not-false}
use Rattle.lines.proofs.Numbers.{number_digits, number_empty, number_other, number_sign, number_minus_zero, number_minus, digits_capped}
use Rattle.lines.proofs.number_of.Goals as goal

pub overflow_mul-result : goal.overflow_mul-result
overflow_mul-result c = let h = digits_capped _ c.digits_from.ensures c.in-Some.is in omega arith

pub returns-in-Some : goal.returns-in-Some
returns-in-Some c = number_digits _ c.digits_from.ensures c.in-Some.is

pub returns-then-word-eq0 : goal.returns-then-word-eq0
returns-then-word-eq0 c = number_empty _ c.digits_from.ensures c.in_default.is c.if-word-eq0.true

pub returns-then-not-is_minus : goal.returns-then-not-is_minus
returns-then-not-is_minus c = number_other _ c.digits_from.ensures c.in_default.is (sym c.is_minus.ensures ∙ not-true _ c.if-not-is_minus.true-raw)

pub returns-in_err-v : goal.returns-in_err-v
returns-in_err-v c = c.from_residual.ensures ∙ number_sign _ c.digits_from.ensures c.in_default.is (sym c.is_minus.ensures ∙ not-false _ c.if-not-is_minus.false-raw) c.if-word-eq0.false
    c.digits_from-2.ensures c.in_err-v.was

pub returns-then-v-eq0 : goal.returns-then-v-eq0
returns-then-v-eq0 c = number_minus_zero _ c.digits_from.ensures c.in_default.is (sym c.is_minus.ensures ∙ not-false _ c.if-not-is_minus.false-raw) c.if-word-eq0.false
    c.digits_from-2.ensures c.in_ok-v.was c.if-v-eq0.true

pub overflow_mul-result-2 : goal.overflow_mul-result-2
overflow_mul-result-2 c = let h = digits_capped _ c.digits_from-2.ensures c.in_ok-v.was in omega arith

pub overflow_add-result : goal.overflow_add-result
overflow_add-result c = let h = digits_capped _ c.digits_from-2.ensures c.in_ok-v.was in omega arith

pub returns : goal.returns
returns c = number_minus _ c.digits_from.ensures c.in_default.is (sym c.is_minus.ensures ∙ not-false _ c.if-not-is_minus.false-raw) c.if-word-eq0.false
    c.digits_from-2.ensures c.in_ok-v.was c.if-v-eq0.false
