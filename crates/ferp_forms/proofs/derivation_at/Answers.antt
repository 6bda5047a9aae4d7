use mathlib.Core.Path.{sym, ◌∙◌}
use Rattle.ferp_forms.proofs.DerivationLaws.{index_lost, index_zero, no_clause_lem, without_reason, with_reason, unmeasured, measured_as}
use Rattle.ferp_forms.proofs.derivation_at.Goals as goal

pub returns-in_err-index : goal.returns-in_err-index
returns-in_err-index c =
    rw c.from_residual.ensures (record { measured = unmeasured _ _ (index_lost _ _ (sym c.natural_at.ensures ∙ c.in_err-index.was)); kept = tt })

pub returns-then-index-eq0 : goal.returns-then-index-eq0
returns-then-index-eq0 c = record {
  measured = unmeasured _ _ (index_zero _ _ (sym c.natural_at.ensures ∙ c.in_ok-index.was) c.if-index-eq0.true);
  kept = tt;
}

pub returns-in_err-literals : goal.returns-in_err-literals
returns-in_err-literals c = rw c.from_residual-in_err-literals.ensures (record {
  measured = unmeasured _ _ (no_clause_lem _ _ (sym c.natural_at.ensures ∙ c.in_ok-index.was) (sym c.list_at.ensures.0 ∙ c.in_err-literals.was));
  kept = tt;
})

pub returns-in_err-reason : goal.returns-in_err-reason
returns-in_err-reason c = rw c.from_residual-in_err-reason.ensures (record {
  measured =
      unmeasured _ _
      (without_reason _ _ (sym c.natural_at.ensures ∙ c.in_ok-index.was) c.if-index-eq0.false (sym c.list_at.ensures.0 ∙ c.in_ok-literals.was)
      (sym c.reason_at.ensures ∙ c.in_err-reason.was));
  kept = tt;
})

pub returns : goal.returns
returns c = record {
  measured =
      measured_as _ _
      (with_reason _ _ (sym c.natural_at.ensures ∙ c.in_ok-index.was) c.if-index-eq0.false (sym c.list_at.ensures.0 ∙ c.in_ok-literals.was)
      (sym c.reason_at.ensures ∙ c.in_ok-reason.was));
  kept = c.list_at.ensures.1;
}
