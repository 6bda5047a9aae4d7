use mathlib.Core.Path.{sym, ◌∙◌}
use Rattle.steps.proofs.DeleteLaws.{delete_left, delete_none, delete_next}
use Rattle.steps.proofs.deletions.delete.Goals as goal

pub returns-then-hint_left-clause-answer : goal.returns-then-hint_left-clause-answer
returns-then-hint_left-clause-answer c = λ t w. delete_left _ _ _ (sym c.hint_left.ensures ∙ c.if-hint_left.true) _

pub returns-then-delete-clause-answer : goal.returns-then-delete-clause-answer
returns-then-delete-clause-answer c = λ t w. delete_next _ _ _ (sym c.hint_left.ensures ∙ c.if-hint_left.false) c.places-count.ensures _ _ c.delete.ensures.empty c.delete.ensures.answer c.if-delete.true c.with_deletion.ensures

pub returns-clause-answer : goal.returns-clause-answer
returns-clause-answer c = λ t w. delete_none _ _ _ (sym c.hint_left.ensures ∙ c.if-hint_left.false) c.places-count.ensures _ _ c.delete.ensures.empty c.delete.ensures.answer c.if-delete.false _
