use Rattle.std.proofs.Common.{◌≡◌, refl, Err, rules}
use Rattle.tables.specs.Lent.{tables_of}
use Rattle.reading.specs.Lines.{with_map}
use Rattle.ferp.specs.Lines.{with_noted}
use Rattle.ferp.proofs.MappingLaws.{mapping_refused, mapping_next}
use Rattle.ferp.proofs.mapping_lines.mapping_line.Goals as goal

pub returns-in_err-mapping_line-clause-read : goal.returns-in_err-mapping_line-clause-read
returns-in_err-mapping_line-clause-read c = λ t w.
    let u = tables_of c.args.tables.now in
    let r : c.from_residual.result ≡ Err c.in_err-mapping_line.field-0.0 = search rules in
    rw r (mapping_refused _ _ _ (with_map t u) (with_noted w c.args.work.now) _ c.before_clauses.ensures _ _ c.mapping_line.ensures
    c.in_err-mapping_line.was refl)

pub returns-clause-read : goal.returns-clause-read
returns-clause-read c = λ t w.
    let u = tables_of c.args.tables.now in
    mapping_next _ _ _ (with_map t u) (with_noted w c.args.work.now) _ c.before_clauses.ensures _ _ c.mapping_line.ensures
    c.in_ok-mapping_line.was refl
