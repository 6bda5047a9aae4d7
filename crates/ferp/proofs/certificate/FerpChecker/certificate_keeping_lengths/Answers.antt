use Rattle.tables.specs.Lent.{tables_of}
use Rattle.ferp.proofs.CheckLaws.{formula_checked}
use Rattle.ferp.proofs.certificate.FerpChecker.certificate_keeping_lengths.Goals as goal

pub returns-clause-read : goal.returns-clause-read
returns-clause-read c = λ l. formula_checked c.args.r c.begin.result c.begin.ensures c.args.certificate.now (tables_of c.args.tables.now) c.index_clauses.ensures c.read_certificate.result (tables_of c.read_certificate.new.tables) (c.read_certificate.ensures.read l)
