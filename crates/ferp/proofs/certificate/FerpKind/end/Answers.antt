use Rattle.tables.specs.Lent.{tables_of}
use Rattle.ferp.proofs.CertificateLaws.{end_tested}
use Rattle.ferp.proofs.certificate.FerpKind.end.Goals as goal

pub returns : goal.returns
returns c = let s = c.standing.ensures in end_tested _ (tables_of c.args.tables.now) s.proof s.marks s.count c.closed.ensures
