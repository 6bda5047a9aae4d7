use mathlib.Core.Path.{ap, sym, ◌∙◌}
use mathlib.Core.Bool.{not}
use Rattle.lines.specs.declared.Run.TheVariants.{Line}
use Rattle.lines.specs.Scan.{passes}
use Rattle.lines.proofs.Runs.{none_past, none_here}
use Rattle.lines.proofs.line_end.Goals.{then-s-at-via-then-s-at, then-s-at-via-else-s-at+then-is_line_end}
use Rattle.lines.proofs.line_end.Goals as goal

pub returns-then-s-at : goal.returns-then-s-at
returns-then-s-at c = elim c.then-s-at.branch [
  | then-s-at-via-then-s-at w ↦ none_past (passes Line) _ _ w.if-s-at.true
  | then-s-at-via-else-s-at+then-is_line_end w ↦ none_here (passes Line) _ _ w.if-s-at.false (ap not (sym w.is_line_end.ensures ∙ w.if-is_line_end.true))
]
