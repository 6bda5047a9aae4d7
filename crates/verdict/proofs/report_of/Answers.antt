use Rattle.tables.specs.Lent.{tables_of}
use Rattle.verdict.proofs.LimitLaws.{overlong_formula, overlong_certificate, held}
use Rattle.verdict.proofs.report_of.Goals as goal

pub returns-then-formula-gt-FORMULA-clause-reported : goal.returns-then-formula-gt-FORMULA-clause-reported
returns-then-formula-gt-FORMULA-clause-reported c = overlong_formula _ _ (tables_of c.args.tables.now) c.if-formula-gt-FORMULA.true _ (rw c.into.ensures at c.refused_early.ensures)

pub returns-then-certificate-gt-CERTIFICATE-clause-reported : goal.returns-then-certificate-gt-CERTIFICATE-clause-reported
returns-then-certificate-gt-CERTIFICATE-clause-reported c =
    overlong_certificate _ _ (tables_of c.args.tables.now) c.if-formula-gt-FORMULA.false c.if-certificate-gt-CERTIFICATE.true _ (rw c.into-then-certificate-gt-CERTIFICATE.ensures at c.refused_early-then-certificate-gt-CERTIFICATE.ensures)

pub returns-clause-reported : goal.returns-clause-reported
returns-clause-reported c = held _ _ _ c.if-formula-gt-FORMULA.false c.if-certificate-gt-CERTIFICATE.false _ _ c.check.ensures.checked
