use Rattle.std.proofs.Common.{◌≡◌, sym, ◌∙◌, Err, rules}
use native.Mathlib.Omega.{arith}
use Rattle.rules.specs.declared.Rule.TheVariants.{Malformed}
use Rattle.tables.specs.Lent.{tables_of}
use Rattle.ferp.proofs.ClauseLaws.{clause_bad, clause_limited, literals_ended, in_buffer, clause_judged}
use Rattle.ferp.proofs.clause_lines.clause_line.Goals as goal

pub returns-in_err-d-clause-read : goal.returns-in_err-d-clause-read
returns-in_err-d-clause-read c =
    let r : c.from_residual.result ≡ Err Malformed = search rules in
    rw r (clause_bad _ _ _ _ _ (sym c.derivation_at.ensures.measured ∙ c.in_err-d.ensures.ok_part) _)

pub returns-in_err-limit_broken-clause-read : goal.returns-in_err-limit_broken-clause-read
returns-in_err-limit_broken-clause-read c =
    let r : c.from_residual-in_err-limit_broken.result ≡ Err c.in_err-limit_broken.field-0.0 = search rules in
    rw r (clause_limited _ _ _ _ _ (sym c.derivation_at.ensures.measured ∙ c.in_ok-d.ensures.ok_part) c.in_err-limit_broken.ensures _)

pub returns-in_err-store_line-clause-read : goal.returns-in_err-store_line-clause-read
returns-in_err-store_line-clause-read c =
    absurd (literals_ended _ _ (sym c.derivation_at.ensures.measured ∙ c.in_ok-d.ensures.ok_part)
    (c.store_line.ensures (in_buffer c.args.line.now 0 c.args.p (tables_of c.args.tables.now) c.args.work.now (sym c.derivation_at.ensures.measured ∙ c.in_ok-d.ensures.ok_part) c.in_ok-limit_broken.ensures c.args.work.now.buffer c.derivation_at.ensures c.in_ok-d.ensures.ok_part)).1 c.in_err-store_line.was)

pub returns-clause-read : goal.returns-clause-read
returns-clause-read c =
    let w = c.args.work.now in
    let read = record w { buffer = c.derivation_at.new.buffer } in
    let judged = record w { held = c.derive.new.held; buffer = c.derivation_at.new.buffer } in
    clause_judged _ _ _ _ _ (sym c.derivation_at.ensures.measured ∙ c.in_ok-d.ensures.ok_part) c.in_ok-limit_broken.ensures _
    (c.store_line.ensures (in_buffer c.args.line.now 0 c.args.p (tables_of c.args.tables.now) w (sym c.derivation_at.ensures.measured ∙ c.in_ok-d.ensures.ok_part) c.in_ok-limit_broken.ensures w.buffer c.derivation_at.ensures c.in_ok-d.ensures.ok_part)).0
    (c.derive.ensures read judged (omega arith))
