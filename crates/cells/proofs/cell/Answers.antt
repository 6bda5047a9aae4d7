use borrow.Author.Rules.{sfits_of}
use mir.Syntax.{w32}
use mir.Val.{SFits}
use Rattle.std.proofs.Common.{◌≡◌, ◌∙◌, ap, pos, get_or, arith, rules}
use Rattle.cells.specs.Cells.{num, cell_at}
use Rattle.cells.proofs.Laws.{read_num, read_neg, at_past}
use Rattle.cells.proofs.cell.Goals as goal

pub returns-in-Some : goal.returns-in-Some
unfolding cell_at
returns-in-Some c =
    let e : c.in-Some.x.now ≡ get_or c.args.t.now c.args.i (pos 0) = grind arith in
    let r : SFits w32 c.in-Some.x.now = search (rules, sfits_of) in
    read_num c.in-Some.x.now r c.if-x-ge0.true ∙ ap num e

pub returns-in_default : goal.returns-in_default
unfolding cell_at
returns-in_default c =
    let e : c.in-Some.x.now ≡ get_or c.args.t.now c.args.i (pos 0) = grind arith in
    let r : SFits w32 c.in-Some.x.now = search (rules, sfits_of) in
    read_neg c.in-Some.x.now r c.if-x-ge0.false ∙ ap num e

pub returns-in_default-2 : goal.returns-in_default-2
returns-in_default-2 c = at_past c.args.t.now c.args.i (grind arith)
