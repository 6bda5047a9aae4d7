use Rattle.std.proofs.Common.{◌≡◌, refl, ap, sym, ◌∙◌, ◌≤◌, length, Err, rules, arith}
use Rattle.rules.specs.Rule.{broken}
use Rattle.lists.proofs.StoreLaws.{ending_good}
use Rattle.mapped.specs.Numbers.{numbers_at}
use Rattle.mapped.proofs.NumberLaws.{list_ends, numbers_few}
use Rattle.mapping.proofs.CopyLaws.{stored_list, stored_lost, copying_end, copying_short, end_copies, end_existentials, pairs_more, storing}
use Rattle.mapping.proofs.stores.store.Goals as goal

pub returns-in_err-store_list-clause-ends : goal.returns-in_err-store_list-clause-ends
returns-in_err-store_list-clause-ends c =
    let r : c.from_residual.result ≡ Err c.in_err-store_list.field-0.0 = search rules in
    ap broken r ∙ stored_lost _ _ c.store_list.ensures.1 c.in_err-store_list.was _ _

pub returns-in_err-store_list-clause-stores : goal.returns-in_err-store_list-clause-stores
returns-in_err-store_list-clause-stores c = λ l. absurd (ending_good _ _ c.store_list.ensures.1 c.in_err-store_list.was l)

pub returns-in_err-p-clause-ends : goal.returns-in_err-p-clause-ends
returns-in_err-p-clause-ends c =
    let g = rw c.in_err-p.was at c.in-Some.ensures.steps in
    let r : c.from_residual-in_err-p.result ≡ Err c.in_err-p.field-0.0 = search rules in
    end_copies c.loop-copy.invariant _ (stored_list _ _ c.store_list.ensures.1 c.in_ok-store_list.was) g.0 (ap broken r ∙ g.1)

pub returns-in_err-p-clause-stores : goal.returns-in_err-p-clause-stores
returns-in_err-p-clause-stores c = λ l.
    let g = rw c.in_err-p.was at c.in-Some.ensures.steps in
    let r : c.from_residual-in_err-p.result ≡ Err c.in_err-p.field-0.0 = search rules in
    storing _ _ _ _ c.args.lists.literals c.args.used _ _ c.store_list.ensures.0
    (copying_end c.loop-copy.invariant.copying g.0, λ a b. ap broken r ∙ g.1 ∙ c.loop-copy.invariant.copying.copies_end ∙ list_ends _ _ a)

pub returns-in_default-clause-ends : goal.returns-in_default-clause-ends
returns-in_default-clause-ends c =
    let g = rw c.in_ok-p.was at c.in-Some.ensures.steps in
    let h = c.in_default.ensures.steps in
    end_existentials c.loop-copy.invariant _ (stored_list _ _ c.store_list.ensures.1 c.in_ok-store_list.was) g.0 h.0 (sym h.1)

pub returns-in_default-clause-stores : goal.returns-in_default-clause-stores
returns-in_default-clause-stores c = λ l.
    storing _ _ _ _ c.args.lists.literals c.args.used _ _ c.store_list.ensures.0
    (copying_short c.loop-copy.invariant.copying c.in_default.ensures.steps.0, λ a b. refl)

pub returns-in_err-e-clause-ends : goal.returns-in_err-e-clause-ends
returns-in_err-e-clause-ends c =
    let g = rw c.in_ok-p.was at c.in-Some.ensures.steps in
    let h = rw c.in_err-e.was at c.in-Some-next.ensures.steps in
    let r : c.from_residual-in_err-e.result ≡ Err c.in_err-e.field-0.0 = search rules in
    end_existentials c.loop-copy.invariant _ (stored_list _ _ c.store_list.ensures.1 c.in_ok-store_list.was) g.0 h.0 (ap broken r ∙ h.1)

pub returns-in_err-e-clause-stores : goal.returns-in_err-e-clause-stores
returns-in_err-e-clause-stores c = λ l.
    let g = rw c.in_err-e.was at c.in-Some-next.ensures.steps in
    let r : c.from_residual-in_err-e.result ≡ Err c.in_err-e.field-0.0 = search rules in
    storing _ _ _ _ c.args.lists.literals c.args.used _ _ c.store_list.ensures.0
    (copying_short c.loop-copy.invariant.copying g.0, λ a b. ap broken r ∙ g.1 ∙ c.loop-copy.invariant.copying.existentials_end ∙ list_ends _ _ b)

pub loop-copy-preserved : goal.loop-copy-preserved
loop-copy-preserved c =
    let g = rw c.in_ok-p.was at c.in-Some.ensures.steps in
    let h = rw c.in_ok-e.was at c.in-Some-next.ensures.steps in
    let few : length (numbers_at c.args.line.now c.args.at) ≤ length c.args.line.now = numbers_few _ _ _ (omega arith) in
    pairs_more c.loop-copy.invariant g.0 h.0 h.3 few g.1 h.1 c.put.ensures c.put-in-loop-copy.ensures c.put-in-loop-copy-2.ensures

pub returns-clause-ends : goal.returns-clause-ends
returns-clause-ends c =
    let g = c.in-None.ensures.steps in
    end_copies c.loop-copy.invariant _ (stored_list _ _ c.store_list.ensures.1 c.in_ok-store_list.was) g.0 (sym g.1)

pub returns-clause-stores : goal.returns-clause-stores
returns-clause-stores c = λ l.
    storing _ _ _ _ c.args.lists.literals c.args.used _ _ c.store_list.ensures.0
    (copying_end c.loop-copy.invariant.copying c.in-None.ensures.steps.0, λ a b. refl)
