use native.Mathlib.Omega.{arith}
use Rattle.tables.proofs.Rooms.{places_same}
use Rattle.verdict.specs.Program.{held_in}
use Rattle.verdict.proofs.LimitLaws.{printed}
use Rattle.verdict.proofs.verdict_line.Goals as goal

pub returns : goal.returns
returns c =
    printed _ _ (held_in c.args.held.now) c.report_of-r.result _ (omega arith) (omega arith)
    (places_same (omega arith) (omega arith) (omega arith) (omega arith) (omega arith) (omega arith))
    c.loaded.ensures c.loaded-2.ensures c.report_of-r.ensures.reported c.render_report.ensures
