use Rattle.std.proofs.Common.{◌≡◌, sym, ◌∙◌, Err, rules}
use Rattle.rules.specs.declared.Rule.TheVariants.{Malformed}
use Rattle.lists.proofs.FormLaws.{clause_ended}
use Rattle.steps.specs.Judges.{beside}
use Rattle.ferat.proofs.DeletionLaws.{deletion_bad, deletion_high, deletion_judged}
use Rattle.ferat.proofs.deletion_lines.deletion_line.Goals as goal

pub returns-in_err-measure-clause-read : goal.returns-in_err-measure-clause-read
returns-in_err-measure-clause-read c = λ t w.
    let r : c.from_residual.result ≡ Err Malformed = search rules in
    rw r (deletion_bad _ _ _ _ _ (sym c.clause_at.ensures ∙ c.in_err-measure.ensures.ok_part) _)

pub returns-then-measure-gt-COPIES-clause-read : goal.returns-then-measure-gt-COPIES-clause-read
returns-then-measure-gt-COPIES-clause-read c = λ t w.
    deletion_high _ _ _ _ _ (sym c.clause_at.ensures ∙ c.in_ok-measure.ensures.ok_part) c.if-measure-gt-COPIES.true _

pub returns-in_err-list_line-clause-read : goal.returns-in_err-list_line-clause-read
returns-in_err-list_line-clause-read c = λ t w.
    absurd (clause_ended _ _ (sym c.clause_at.ensures ∙ c.in_ok-measure.ensures.ok_part) c.list_line.ensures.ended c.in_err-list_line.was)

pub returns-clause-read : goal.returns-clause-read
returns-clause-read c = λ t w.
    deletion_judged _ _ _ _ _ (sym c.clause_at.ensures ∙ c.in_ok-measure.ensures.ok_part) c.if-measure-gt-COPIES.false c.undo.ensures.undone
    (λ h e. c.list_line.ensures.listed h e c.in_ok-list_line.was) (c.delete.ensures.answer t (beside w c.args.work.now.propagation))
