use Rattle.tables.specs.Lent.{tables_of}
use Rattle.ferat.proofs.CertificateLaws.{ended_is}
use Rattle.ferat.proofs.certificate.FeratKind.end.Goals as goal

pub returns : goal.returns
returns c = record { ends = λ w f s sh. ended_is {u = tables_of c.args.tables.now} c.end_broken.ensures f s sh }
