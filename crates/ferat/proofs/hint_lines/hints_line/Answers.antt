use Rattle.std.proofs.Common.{◌≡◌, sym, ◌∙◌, Err, rules}
use Rattle.rules.specs.declared.Rule.TheVariants.{Malformed}
use Rattle.lists.proofs.FormLaws.{clause_ended}
use Rattle.ferat.proofs.HintsLaws.{hints_bad, hints_signed, hints_late, hints_high, hints_full, hints_next}
use Rattle.ferat.proofs.hint_lines.hints_line.Goals as goal

pub returns-in_err-measure-clause-read : goal.returns-in_err-measure-clause-read
returns-in_err-measure-clause-read c = λ t w.
    let r : c.from_residual.result ≡ Err Malformed = search rules in
    rw r (hints_bad _ _ _ _ _ (sym c.clause_at.ensures ∙ c.in_err-measure.ensures.ok_part))

pub returns-then-measure-clause-read : goal.returns-then-measure-clause-read
returns-then-measure-clause-read c = λ t w.
    hints_signed _ _ _ _ _ (sym c.clause_at.ensures ∙ c.in_ok-measure.ensures.ok_part) c.if-measure.true

pub returns-then-not-before_hints-clause-read : goal.returns-then-not-before_hints-clause-read
returns-then-not-before_hints-clause-read c = λ t w.
    hints_late _ _ _ _ _ (sym c.clause_at.ensures ∙ c.in_ok-measure.ensures.ok_part)
    c.if-measure.false c.before_hints.ensures c.if-not-before_hints.true

pub returns-then-p-measure-clause-read : goal.returns-then-p-measure-clause-read
returns-then-p-measure-clause-read c = λ t w.
    hints_high _ _ _ _ _ (sym c.clause_at.ensures ∙ c.in_ok-measure.ensures.ok_part)
    c.if-measure.false c.before_hints.ensures c.if-not-before_hints.false c.if-p-measure.true

pub returns-then-tables-measure-clause-read : goal.returns-then-tables-measure-clause-read
returns-then-tables-measure-clause-read c = λ t w.
    hints_full _ _ _ _ _ (sym c.clause_at.ensures ∙ c.in_ok-measure.ensures.ok_part)
    c.if-measure.false c.before_hints.ensures c.if-not-before_hints.false c.if-p-measure.false c.if-tables-measure.true

pub returns-in_err-store_list-clause-read : goal.returns-in_err-store_list-clause-read
returns-in_err-store_list-clause-read c = λ t w.
    absurd (clause_ended _ _ (sym c.clause_at.ensures ∙ c.in_ok-measure.ensures.ok_part) c.store_list.ensures.1 c.in_err-store_list.was)

pub returns-clause-read : goal.returns-clause-read
returns-clause-read c = λ t w.
    hints_next _ _ _ _ _ (sym c.clause_at.ensures ∙ c.in_ok-measure.ensures.ok_part)
    c.if-measure.false c.before_hints.ensures c.if-not-before_hints.false c.if-p-measure.false c.if-tables-measure.false c.store_list.ensures.0 c.with_hints.ensures
