use Rattle.std.proofs.Common.{arith}
use mathlib.Core.Path.{sym, ◌∙◌}
use Rattle.assignment.proofs.HeldLaws.{add_new, add_room, add_known}
use Rattle.assignment.proofs.least.Least.add.Goals.{else-is_new-via-then-is_new+then-n-lt-CODES+else-n-self, else-is_new-via-then-is_new+else-n-lt-CODES, else-is_new-via-else-is_new}
use Rattle.assignment.proofs.least.Least.add.Goals as goal

pub returns-then-n-self-clause-held : goal.returns-then-n-self-clause-held
returns-then-n-self-clause-held c = λ h. add_new _ _ _ h _ (sym c.is_new.ensures ∙ c.if-is_new.true)

pub returns-else-is_new-clause-held : goal.returns-else-is_new-clause-held
returns-else-is_new-clause-held c = λ h. elim c.else-is_new.branch [
  | else-is_new-via-then-is_new+then-n-lt-CODES+else-n-self w ↦ let k = h.long_list in absurd (omega arith)
  | else-is_new-via-then-is_new+else-n-lt-CODES w ↦ let a = add_room _ _ _ h _ (sym c.is_new.ensures ∙ w.if-is_new.true) in absurd (omega arith)
  | else-is_new-via-else-is_new w ↦ add_known _ _ _ h _ (sym c.is_new.ensures ∙ w.if-is_new.false)
]
