use mathlib.Core.Path.{sym, ◌∙◌}
use Rattle.formula.proofs.OneLine.{within_skip, within_problem, within_universal, within_existential, within_letter, within_other}
use Rattle.formula.proofs.line_within.Goals as goal
use Rattle.formula.proofs.line_within.Goals.{in_default-via-in-Letter+in_default, in_default-via-in_default}

pub returns-in-Skipped : goal.returns-in-Skipped
returns-in-Skipped c = within_skip _ _ _ _ (sym c.line_head.ensures ∙ c.in-Skipped.is)

pub returns-in-Letter-eq112-default : goal.returns-in-Letter-eq112-default
returns-in-Letter-eq112-default c = within_problem _ _ _ _ (sym c.line_head.ensures ∙ c.in-Letter-eq112-default.is) c.in-Letter-eq112-default.field-0-test

pub returns-in-Letter-eq97-default : goal.returns-in-Letter-eq97-default
returns-in-Letter-eq97-default c =
    within_universal _ _ _ _ (sym c.line_head.ensures ∙ c.in-Letter-eq97-default.is) c.in-Letter-eq97-default.field-0-test (c.binding_line.ensures c.args.matrix.now)

pub returns-in-Letter-eq101-default : goal.returns-in-Letter-eq101-default
returns-in-Letter-eq101-default c =
    within_existential _ _ _ _ (sym c.line_head.ensures ∙ c.in-Letter-eq101-default.is) c.in-Letter-eq101-default.field-0-test
    (c.binding_line-in-Letter-eq101-default.ensures c.args.matrix.now)

pub returns-in_default : goal.returns-in_default
returns-in_default c = elim c.in_default.branch [
  | in_default-via-in-Letter+in_default w ↦
      let t = w.in_default.field-0-test in within_letter _ _ _ _ (sym w.in_default.ensures) t.0.0.1 t.0.1 t.1 c.clause_line.ensures
  | in_default-via-in_default w ↦ within_other _ _ _ _ (sym c.line_head.ensures ∙ w.in_default.is) c.clause_line.ensures
]
