use mathlib.Core.Path.{refl}
use Prim.Native.Nat.{ℕ}
use lib.ListN.{replicate, length-replicate}
use Rattle.tables.specs.Lent.{tables_of}
use Rattle.trail.proofs.TrailLaws.{ready_start}
use Rattle.ferat.proofs.CheckLaws.{formula_checked}
use Rattle.ferat.proofs.certificate.FeratChecker.certificate_keeping_lengths.Goals as goal

pub returns-clause-read : goal.returns-clause-read
returns-clause-read c = λ z.
    formula_checked c.args.r _ c.begin.ensures _ (tables_of c.args.tables.now) _ c.index_clauses.ensures refl
    (ready_start (replicate 65536 0) (length-replicate {A = ℕ} 65536 0)) refl _ _ (c.read_certificate.ensures.read z)
