use Rattle.std.proofs.Common.{ap, sym, ◌∙◌, ◌≡◌, ◌<◌, ◌+◌, length, ◌∷◌}
use native.Mathlib.Omega.{arith}
use Rattle.cells.specs.Cells.{code_at, list_at}
use Rattle.cells.proofs.Laws.{list_end, list_more, in_table}
use Rattle.cells.proofs.CodesIterator.next.Goals as goal

pub returns-then-x-eq0-clause-steps : goal.returns-then-x-eq0-clause-steps
returns-then-x-eq0-clause-steps c =
    let e : code_at c.args.self.now.table.now c.args.self.now.place ≡ 0 = omega arith in
    let l = list_end c.args.self.now.table.now c.args.self.now.place e in
    (l, l)

pub overflow_add-self : goal.overflow_add-self
overflow_add-self c =
    let n = c.args.self.now.place in
    let h : c.args.self.now.place < length c.args.self.now.table.now = in_table c.args.self.now.table.now c.args.self.now.place (λ e. omega arith) in
    omega arith

pub returns-clause-steps : goal.returns-clause-steps
returns-clause-steps c =
    let e : c.code-x.result ≡ code_at c.args.self.now.table.now c.args.self.now.place = c.code-x.ensures.0 in
    list_more c.args.self.now.table.now c.args.self.now.place (λ z. omega arith) ∙ ap (λ n. n ∷ list_at c.args.self.now.table.now (c.args.self.now.place + 1)) (sym e)

pub returns-clause-goes : goal.returns-clause-goes
returns-clause-goes c =
    let e = ap length (list_more c.args.self.now.table.now c.args.self.now.place (λ z. omega arith)) in
    record { on = λ _. (tt, tt, omega arith); keeps = tt; rests = λ _. tt }
