use Rattle.std.proofs.Common.{rules, tests}
use Rattle.propagation.proofs.LookLaws.{on, other, find_none, find_some, saw_none, saw_one, saw_two}
use Rattle.propagation.proofs.looks.read_clause.Goals as goal

pub returns-in_default : goal.returns-in_default
returns-in_default c = let f = c.args.trail.now.falses in saw_none f (find_none _ (on f) (λ x b q k. search (rules, tests)) c.args.clause c.find.new.self c.in_default.ensures.ran)

pub returns-in-None : goal.returns-in-None
returns-in-None c = let f = c.args.trail.now.falses in
    saw_one f (find_some _ (on f) (λ x b q k. search (rules, tests)) c.args.clause c.find.new.self c.in-Some.ensures.ran)
    (find_none _ (other f c.in-Some.one) (λ x b q k. search (rules, tests)) c.find.new.self c.find-2.new.self c.in-None.ensures.ran)

pub returns-in-Some-find : goal.returns-in-Some-find
returns-in-Some-find c = let f = c.args.trail.now.falses in
    saw_two f (find_some _ (on f) (λ x b q k. search (rules, tests)) c.args.clause c.find.new.self c.in-Some.ensures.ran)
    (find_some _ (other f c.in-Some.one) (λ x b q k. search (rules, tests)) c.find.new.self c.find-2.new.self c.in-Some-find.ensures.ran)
