use Rattle.tables.specs.Lent.{tables_of}
use Rattle.certificates.proofs.CheckLaws.{overlong_formula, overlong_certificate, formula_refused, certificate_checked}
use Rattle.certificates.proofs.checking.check.Goals as goal

pub returns-then-formula-gt-BYTES-clause-checked : goal.returns-then-formula-gt-BYTES-clause-checked
returns-then-formula-gt-BYTES-clause-checked g c =
    let m = g.met.C in
    overlong_formula m.Kind.apt m.Checker.of_both_files _ _ _ _ (λ l. m.Checker.in_range l _ _) c.if-formula-gt-BYTES.true _ (rw c.into.ensures at c.refused_early.ensures)

pub returns-then-certificate-gt-BYTES-clause-checked : goal.returns-then-certificate-gt-BYTES-clause-checked
returns-then-certificate-gt-BYTES-clause-checked g c =
    let m = g.met.C in
    overlong_certificate m.Kind.apt m.Checker.of_both_files _ _ _ _ (λ l. m.Checker.in_range l _ _) c.if-formula-gt-BYTES.false c.if-certificate-gt-BYTES.true _
    (rw c.into-then-certificate-gt-BYTES.ensures at c.refused_early-then-certificate-gt-BYTES.ensures)

pub returns-in-Err-clause-checked : goal.returns-in-Err-clause-checked
returns-in-Err-clause-checked g c =
    let m = g.met.C in
    formula_refused m.Kind.apt m.Checker.of_both_files _ _ _ (tables_of c.args.tables.now) (λ l. m.Checker.in_range l _ _) c.if-formula-gt-BYTES.false c.if-certificate-gt-BYTES.false _ _
    c.read_formula.ensures _ c.in-Err.is _ c.refused_early-in-Err.ensures

pub returns-in-Ok-clause-checked : goal.returns-in-Ok-clause-checked
returns-in-Ok-clause-checked g c =
    let m = g.met.C in
    certificate_checked m.Kind.apt m.Checker.of_both_files _ _ _ (tables_of c.args.tables.now) (λ l. m.Checker.in_range l _ _) c.if-formula-gt-BYTES.false c.if-certificate-gt-BYTES.false _ _
    c.read_formula.ensures _ c.in-Ok.is _ _ c.certificate_keeping_lengths.ensures.read _ c.report_of.ensures
