use Rattle.propagation.proofs.ClauseLaws.{judge_conflict, judge_unit}
use Rattle.propagation.proofs.judge.Goals as goal

pub returns-in-Falsified : goal.returns-in-Falsified
returns-in-Falsified c = λ r h. judge_conflict _ _ _ _ h c.stands.ensures c.if-not-stands.false _ c.clause.ensures _ r c.seek.ensures c.in-Falsified.is

pub returns-in-Unit : goal.returns-in-Unit
returns-in-Unit c = λ r h. judge_unit _ _ _ _ h c.stands.ensures c.if-not-stands.false _ c.clause.ensures _ r c.seek.ensures c.in-Unit.is c.make_true.ensures
