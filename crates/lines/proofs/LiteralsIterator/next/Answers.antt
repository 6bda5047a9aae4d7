use native.Mathlib.Omega.{arith}
use mathlib.Core.Path.{sym, ◌∙◌}
use Rattle.lines.proofs.Words.{literal_told}
use Rattle.lines.proofs.LiteralsIterator.next.Goals as goal

pub returns-clause-goes : goal.returns-clause-goes
returns-clause-goes c =
    let t = literal_told c.args.self.now.line.now c.args.self.now.at (sym c.literal_at.ensures ∙ c.in_ok-x.was) in
    record { on = λ _. (tt, tt, omega (arith, t.further, t.within)); keeps = tt; rests = λ _. tt }
