use mathlib.Core.Path.{sym, ◌∙◌}
use borrow.Author.Tests.{not-true}
use Rattle.lines.proofs.Runs.{none_past, none_here}
use Rattle.lines.proofs.past_blanks.Goals.{then-s-at-via-then-s-at, then-s-at-via-else-s-at+then-not-is_blank}
use Rattle.lines.proofs.past_blanks.Goals as goal

pub returns-then-s-at : goal.returns-then-s-at
returns-then-s-at c = elim c.then-s-at.branch [
  | then-s-at-via-then-s-at w ↦ none_past _ _ _ w.if-s-at.true
  | then-s-at-via-else-s-at+then-not-is_blank w ↦ none_here _ _ _ w.if-s-at.false (sym w.is_blank.ensures ∙ not-true _ w.if-not-is_blank.true-raw)
]
