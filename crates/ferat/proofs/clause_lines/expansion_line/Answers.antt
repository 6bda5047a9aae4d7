use Rattle.std.proofs.Common.{◌≡◌, sym, ◌∙◌, Err, rules}
use Rattle.rules.specs.declared.Rule.TheVariants.{Malformed}
use Rattle.lists.proofs.FormLaws.{clause_ended}
use Rattle.ferat.proofs.ClauseLaws.{expansions, expansion_turn, clause_bad, clause_late, clause_limited, clause_judged}
use Rattle.ferat.proofs.clause_lines.expansion_line.Goals as goal

pub returns-in_err-measure-clause-read : goal.returns-in_err-measure-clause-read
returns-in_err-measure-clause-read c =
    let r : c.from_residual.result ≡ Err Malformed = search rules in
    rw r (clause_bad expansions _ _ _ _ _ (sym c.clause_at.ensures ∙ c.in_err-measure.ensures.ok_part) _)

pub returns-then-not-before_additions-clause-read : goal.returns-then-not-before_additions-clause-read
returns-then-not-before_additions-clause-read c =
    clause_late expansions _ _ _ _ _ (sym c.clause_at.ensures ∙ c.in_ok-measure.ensures.ok_part)
    (λ f s sh. expansion_turn c.before_additions.ensures _ f s sh ∙ c.if-not-before_additions.true) _

pub returns-in_err-limit_broken-clause-read : goal.returns-in_err-limit_broken-clause-read
returns-in_err-limit_broken-clause-read c =
    let r : c.from_residual-in_err-limit_broken.result ≡ Err c.in_err-limit_broken.field-0.0 = search rules in
    rw r (clause_limited expansions _ _ _ _ _ (sym c.clause_at.ensures ∙ c.in_ok-measure.ensures.ok_part)
    (λ f s sh. expansion_turn c.before_additions.ensures _ f s sh ∙ c.if-not-before_additions.false) c.in_err-limit_broken.ensures _)

pub returns-in_err-store_line-clause-read : goal.returns-in_err-store_line-clause-read
returns-in_err-store_line-clause-read c =
    absurd (clause_ended _ _ (sym c.clause_at.ensures ∙ c.in_ok-measure.ensures.ok_part) c.store_line.ensures.1 c.in_err-store_line.was)

pub returns-clause-read : goal.returns-clause-read
returns-clause-read c =
    clause_judged expansions _ _ _ _ _ (sym c.clause_at.ensures ∙ c.in_ok-measure.ensures.ok_part)
    (λ f s sh. expansion_turn c.before_additions.ensures _ f s sh ∙ c.if-not-before_additions.false) c.in_ok-limit_broken.ensures _ c.store_line.ensures.0 c.expand.ensures
