use Rattle.std.proofs.Common.{◌≡◌, ap, sym, ◌∙◌, Err, rules}
use Rattle.rules.specs.Rule.{broken}
use Rattle.mapped.proofs.MarkLaws.{noting_end, noting_high, noting_old, noting_more}
use Rattle.mapped.proofs.note.Goals.{then-p-gt-COPIES-via-then-p-gt-COPIES, then-p-gt-COPIES-via-else-p-gt-COPIES+then-noted-p-ne0}
use Rattle.mapped.proofs.note.Goals as goal

pub returns-in_err-p : goal.returns-in_err-p
returns-in_err-p c =
    let r = rw c.in_err-p.was at c.in-Some.ensures.steps in
    let e : c.from_residual.result ≡ Err c.in_err-p.field-0.0 = search rules in
    noting_end c.loop-copy.invariant _ r.0 (ap broken e ∙ r.1)

pub returns-then-p-gt-COPIES : goal.returns-then-p-gt-COPIES
returns-then-p-gt-COPIES c =
    let g = rw c.in_ok-p.was at c.in-Some.ensures.steps in
    elim c.then-p-gt-COPIES.branch [
      | then-p-gt-COPIES-via-then-p-gt-COPIES w ↦ noting_high c.loop-copy.invariant _ g.0 w.if-p-gt-COPIES.true
      | then-p-gt-COPIES-via-else-p-gt-COPIES+then-noted-p-ne0 w ↦ noting_old c.loop-copy.invariant _ g.0 w.if-noted-p-ne0.true
    ]

pub loop-copy-preserved : goal.loop-copy-preserved
loop-copy-preserved c =
    let g = rw c.in_ok-p.was at c.in-Some.ensures.steps in
    noting_more c.loop-copy.invariant 0 g.0 c.if-p-gt-COPIES.false c.if-noted-p-ne0.false g.1

pub returns : goal.returns
returns c = let g = c.in-None.ensures.steps in noting_end c.loop-copy.invariant _ g.0 (sym g.1)
