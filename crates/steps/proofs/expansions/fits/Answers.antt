use Rattle.std.proofs.Common.{sym, rules}
use Rattle.copies.proofs.MarkLaws.{zeros_unmarked, zeros_long}
use Rattle.assignment.specs.Least.{IsEmpty}
use Rattle.steps.specs.Expands.{fits_at}
use Rattle.steps.proofs.expansions.fits.Goals as goal

pub returns-then-is_some : goal.returns-then-is_some
unfolding fits_at
returns-then-is_some c = λ marks.
    let n = c.new-least.ensures in
    let v = c.of-view.ensures in
    let z : IsEmpty c.new-least.result = rw (n.now.0, n.now.1) (zeros_unmarked, zeros_long, n.none) in
    let x = (c.expands_named.ensures.answer z).0 in
    rw (sym v.prefix, sym v.values, sym v.map, sym v.proof, sym c.written.ensures, sym v.line) (search rules)

pub returns : goal.returns
unfolding fits_at
returns c = λ marks.
    let n = c.new-least.ensures in
    let v = c.of-view.ensures in
    let x = (c.expands_any.ensures.answer (rw (n.now.0, n.now.1) (zeros_unmarked, zeros_long, n.none))).0 in
    rw (sym v.prefix, sym v.values, sym v.map, sym v.proof, sym c.written.ensures, sym v.line) (search rules)
