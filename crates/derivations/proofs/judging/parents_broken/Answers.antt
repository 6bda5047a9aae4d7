use Rattle.std.proofs.Common.{◌≡◌, refl, Err, rules}
use Rattle.rules.specs.declared.Rule.TheVariants.{BadParent}
use Rattle.copies.proofs.Choices.{yes, no}
use Rattle.tables.specs.Lent.{read_of}
use Rattle.derivations.specs.Shown.{beside}
use Rattle.derivations.proofs.CodeLaws.{first_missing, second_missing, parents_judged}
use Rattle.derivations.proofs.judging.parents_broken.Goals as goal

pub returns-in_err-i : goal.returns-in_err-i
returns-in_err-i c = λ w.
    let r : c.from_residual.result ≡ Err BadParent = search rules in
    let t = read_of c.args.tables c.args.marks.now in
    let v = beside w w.starts w.noted c.args.indexes.now c.args.seen.now in
    rw r (λ s. (first_missing _ _ _ t v c.place_of.ensures c.in_err-i.ensures.ok_part, s))

pub returns-in_err-j : goal.returns-in_err-j
returns-in_err-j c = λ w.
    let r : c.from_residual-in_err-j.result ≡ Err BadParent = search rules in
    let t = read_of c.args.tables c.args.marks.now in
    let v = beside w w.starts w.noted c.args.indexes.now c.args.seen.now in
    rw r (λ s. (second_missing _ _ _ t v c.place_of.ensures c.in_ok-i.ensures.ok_part c.place_of-2.ensures c.in_err-j.ensures.ok_part, s))

pub returns-then-not-resolves : goal.returns-then-not-resolves
returns-then-not-resolves c = λ w.
    let t = read_of c.args.tables c.args.marks.now in
    let v = beside w w.starts w.noted c.args.indexes.now c.args.seen.now in
    parents_judged _ _ _ t v c.place_of.ensures c.in_ok-i.ensures.ok_part c.place_of-2.ensures c.in_ok-j.ensures.ok_part c.pending.ensures.left
    c.standing-standing.ensures.proof c.standing-standing.ensures.marks c.clause-d.ensures c.clause-e.ensures c.resolves.ensures (no _ _ _ c.if-not-resolves.true refl)

pub returns : goal.returns
returns c = λ w.
    let t = read_of c.args.tables c.args.marks.now in
    let v = beside w w.starts w.noted c.args.indexes.now c.args.seen.now in
    parents_judged _ _ _ t v c.place_of.ensures c.in_ok-i.ensures.ok_part c.place_of-2.ensures c.in_ok-j.ensures.ok_part c.pending.ensures.left
    c.standing-standing.ensures.proof c.standing-standing.ensures.marks c.clause-d.ensures c.clause-e.ensures c.resolves.ensures (yes _ _ _ c.if-not-resolves.false refl)
