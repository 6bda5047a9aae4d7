use native.Mathlib.Omega.{arith}
use Rattle.tables.specs.Lent.{tables_of}
use Rattle.checks.proofs.ListLaws.{ran_ferat, ran_ferp, ran_none}
use Rattle.checks.proofs.check_kind.Goals as goal

pub returns-in-1-clause-ran : goal.returns-in-1-clause-ran
returns-in-1-clause-ran c = ran_ferat _ _ c.in-1.is c.check.ensures.checked

pub returns-in-2-clause-ran : goal.returns-in-2-clause-ran
returns-in-2-clause-ran c = ran_ferp _ _ (λ e. omega (arith, e, c.in-2.is)) c.in-2.is c.check-in-2.ensures.checked

pub returns-in_default-clause-ran : goal.returns-in_default-clause-ran
returns-in_default-clause-ran c = ran_none _ _ (tables_of c.args.tables.now) (λ e. omega (arith, e, c.in_default)) (λ e. omega (arith, e, c.in_default))
