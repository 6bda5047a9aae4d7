use Rattle.std.proofs.Common.{◌≡◌, sym, ◌∙◌, Err, rules}
use Rattle.rules.specs.declared.Rule.TheVariants.{Malformed}
use Rattle.lists.proofs.FormLaws.{clause_ended}
use Rattle.tables.specs.Lent.{tables_of}
use Rattle.ferat.specs.Lines.{with_three}
use Rattle.ferat.proofs.ClauseLaws.{additions, addition_turn, clause_bad, clause_limited, clause_judged}
use Rattle.ferat.proofs.clause_lines.addition_line.Goals as goal

pub returns-in_err-measure-clause-read : goal.returns-in_err-measure-clause-read
returns-in_err-measure-clause-read c = λ t w.
    let r : c.from_residual.result ≡ Err Malformed = search rules in
    rw r (clause_bad additions _ _ _ _ _ (sym c.clause_at.ensures ∙ c.in_err-measure.ensures.ok_part) _)

pub returns-in_err-limit_broken-clause-read : goal.returns-in_err-limit_broken-clause-read
returns-in_err-limit_broken-clause-read c = λ t w.
    let r : c.from_residual-in_err-limit_broken.result ≡ Err c.in_err-limit_broken.field-0.0 = search rules in
    rw r (clause_limited additions _ _ _ _ _ (sym c.clause_at.ensures ∙ c.in_ok-measure.ensures.ok_part)
    (λ f s sh. addition_turn s _) c.in_err-limit_broken.ensures _)

pub returns-in_err-store_line-clause-read : goal.returns-in_err-store_line-clause-read
returns-in_err-store_line-clause-read c = λ t w.
    absurd (clause_ended _ _ (sym c.clause_at.ensures ∙ c.in_ok-measure.ensures.ok_part) c.store_line.ensures.1 c.in_err-store_line.was)

pub returns-clause-read : goal.returns-clause-read
returns-clause-read c = λ t w.
    clause_judged additions _ _ _ _ _ (sym c.clause_at.ensures ∙ c.in_ok-measure.ensures.ok_part)
    (λ f s sh. addition_turn s _) c.in_ok-limit_broken.ensures _ c.store_line.ensures.0 (c.add.ensures (with_three t (tables_of c.args.tables.now)) w)
