use mathlib.Core.Path.{sym, ◌∙◌}
use Rattle.std.proofs.lemmas.Result.{err_from_is_err_and}
use Rattle.formula.proofs.OneLine.{first_skip, first_problem, first_letter, first_other}
use Rattle.formula.proofs.line_first.Goals as goal

pub returns-in-Skipped : goal.returns-in-Skipped
returns-in-Skipped c = λ m. first_skip _ _ m (sym c.line_head.ensures ∙ c.in-Skipped.is)

pub returns-in_ok-problem_line-in-Letter-eq112-default : goal.returns-in_ok-problem_line-in-Letter-eq112-default
returns-in_ok-problem_line-in-Letter-eq112-default c =
    λ m. first_problem _ _ m (sym c.line_head.ensures ∙ c.in-Letter-eq112-default.is) c.in-Letter-eq112-default.field-0-test (c.in_ok-problem_line-in-Letter-eq112-default.ensures m)

pub returns-in_err-problem_line-in-Letter-eq112-default : goal.returns-in_err-problem_line-in-Letter-eq112-default
returns-in_err-problem_line-in-Letter-eq112-default c =
    let p = err_from_is_err_and c.from_residual.result c.from_residual.ensures.1 in
    λ m. rw (p.1, p.2)
    (first_problem _ _ m (sym c.line_head.ensures ∙ c.in-Letter-eq112-default.is) c.in-Letter-eq112-default.field-0-test (c.in_err-problem_line-in-Letter-eq112-default.ensures m))

pub returns-in_default : goal.returns-in_default
returns-in_default c = λ m. first_letter _ _ m (sym c.in_default.ensures) c.in_default.field-0-test.1

pub returns-in_default-2 : goal.returns-in_default-2
returns-in_default-2 c = λ m. first_other _ _ m (sym c.line_head.ensures ∙ c.in_default.is)
