use native.Mathlib.Omega.{arith}
use mathlib.Core.Path.{refl}
use Rattle.lines.specs.declared.Run.TheVariants.{Blanks}
use Rattle.lines.specs.Scan.{passes}
use Rattle.lines.proofs.Runs.{to_end, over_last}
use Rattle.lines.proofs.blank_to_end.Goals as goal

pub returns : goal.returns
returns c = λ e. to_end _ _ _ (omega arith) (omega arith) (omega arith) (over_last (passes Blanks) c.args.s.now _ (omega arith) refl (c.all_blank.ensures e))
