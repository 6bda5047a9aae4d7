use Rattle.std.proofs.Common.{refl, ap, sym, ◌∙◌}
use Rattle.tables.specs.Lent.{tables_of}
use Rattle.derivations.specs.Shown.{ferp_rules, ferp_code}
use Rattle.ferp_rules.specs.Forms.{derivation_form}
use Rattle.reading.proofs.LineLaws.{line_skipped, line_judged, line_lent}
use Rattle.reading.proofs.MappingLaws.{map_lent}
use Rattle.ferp.specs.Kinds.{letter_kind}
use Rattle.ferp.specs.Lines.{same_form, judged}
use Rattle.ferp.proofs.KindLaws.{head_means, plain_letter}
use Rattle.ferp.proofs.certificate.FerpKind.line_keeping_lengths.Goals as goal
use Rattle.ferp.proofs.certificate.FerpKind.line_keeping_lengths.Goals.{in_default-via-in-Letter+in_default, in_default-via-in_default}

pub returns-in-Skipped-clause-read : goal.returns-in-Skipped-clause-read
returns-in-Skipped-clause-read c =
    line_skipped ferp_rules ferp_code (λ f s. head_means _ (tables_of c.args.tables.now) f s (sym c.line_head.ensures ∙ c.in-Skipped.is) refl)

pub returns-in-Letter-eq120-default-clause-read : goal.returns-in-Letter-eq120-default-clause-read
unfolding letter_kind
returns-in-Letter-eq120-default-clause-read c =
    let h = c.in-Letter-eq120-default in
    let x = c.mapping_line.ensures in
    let t = tables_of c.args.tables.now in
    line_lent ferp_rules ferp_code (map_lent t (tables_of c.mapping_line.new.tables) x.rest) (sym x.noted)
    (line_judged ferp_rules ferp_code (judged same_form _ _ _)
    (λ f s. head_means _ _ f s (sym c.line_head.ensures ∙ h.is) (ap (λ b. letter_kind b h.at) h.field-0-test)) (x.read t c.args.work.now).steps)

pub returns-in_default-clause-read : goal.returns-in_default-clause-read
returns-in_default-clause-read c =
    line_judged ferp_rules ferp_code (judged derivation_form _ 0 _) (λ f s. elim c.in_default.branch [
      | in_default-via-in-Letter+in_default w ↦ head_means _ _ f s (sym w.in_default.ensures) (plain_letter _ _ w.in_default.field-0-test.1)
      | in_default-via-in_default w ↦ head_means _ _ f s (sym c.line_head.ensures ∙ w.in_default.is) refl
    ]) c.clause_line.ensures.read.steps
