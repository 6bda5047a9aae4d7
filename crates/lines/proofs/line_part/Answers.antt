use native.Mathlib.Omega.{arith}
use mathlib.Core.Path.{refl}
use Rattle.lines.proofs.Runs.{line_within}
use Rattle.lines.proofs.Parts.{start_within, part_is}
use Rattle.lines.proofs.line_part.Goals as goal

pub slice_bounds-result-end : goal.slice_bounds-result-end
slice_bounds-result-end c = line_within _ c.line_start-at.result c.line_end-e.ensures (omega (arith, c.line_start-at.ensures, start_within c.args.line c.args.s.now))

pub returns : goal.returns
returns c = record { bytes = part_is _ _ c.line_start-at.ensures c.line_end-e.ensures; block = refl; place = omega (arith, c.line_start-at.ensures) }
