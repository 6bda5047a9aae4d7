use Rattle.std.proofs.Common.{ap, length}
use native.Mathlib.Omega.{arith}
use Rattle.lines.proofs.Runs.{line_within}
use Rattle.lines.proofs.LinesLeft.{lines_step}
use Rattle.lines.proofs.each.LinesIterator.next.Goals as goal

pub overflow_add-self : goal.overflow_add-self
overflow_add-self c =
    let s = c.args.self.now in
    let w = line_within s.bytes.now s.place c.line_end-end.ensures c.if-bytes-start.false in
    omega arith

pub slice_bounds-result-end : goal.slice_bounds-result-end
slice_bounds-result-end c = let s = c.args.self.now in line_within s.bytes.now s.place c.line_end-end.ensures c.if-bytes-start.false

pub returns-clause-steps : goal.returns-clause-steps
returns-clause-steps c = let s = c.args.self.now in lines_step s.bytes.now s.place _ c.line_end-end.ensures c.if-bytes-start.false

pub returns-clause-goes : goal.returns-clause-goes
returns-clause-goes c =
    let s = c.args.self.now in
    let e = ap length (lines_step s.bytes.now s.place _ c.line_end-end.ensures c.if-bytes-start.false) in
    record { on = λ _. (tt, tt, omega arith); keeps = tt; rests = λ _. tt }
