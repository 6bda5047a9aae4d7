use Rattle.std.proofs.Common.{refl, sym, ◌∙◌, arith}
use Rattle.mapped.proofs.NumberLaws.{number_lost, number_end, number_more, number_further, place_further}
use Rattle.mapped.proofs.numbers.NumbersIterator.next.Goals as goal

pub returns-in-None-clause-steps : goal.returns-in-None-clause-steps
returns-in-None-clause-steps c = rw c.in_ok-at.was (number_lost _ _ (sym c.literal_at.ensures ∙ c.in-None.is))

pub returns-in-Some-eq0-default-clause-steps : goal.returns-in-Some-eq0-default-clause-steps
returns-in-Some-eq0-default-clause-steps c = rw c.in_ok-at.was (number_end _ _ (sym c.literal_at.ensures ∙ c.in-Some-eq0-default.is) c.in-Some-eq0-default.field-0-0-test)

pub returns-in-Some-clause-steps : goal.returns-in-Some-clause-steps
returns-in-Some-clause-steps c =
    let p = sym c.literal_at.ensures ∙ c.in-Some.is in
    let n = number_more _ _ p c.in-Some.x-test.1 in rw c.in_ok-at.was (n.0, n.1, n.2, n.3, refl, place_further _ _ p)

pub returns-in-Some-clause-goes : goal.returns-in-Some-clause-goes
returns-in-Some-clause-goes c = rw c.in_ok-at.was (let f = number_further _ _ (sym c.literal_at.ensures ∙ c.in-Some.is) in record { on = λ _. (tt, tt, omega arith); keeps = tt; rests = λ _. tt })
