use Rattle.std.proofs.Common.{refl, ap, sym, ◌∙◌}
use Rattle.rules.specs.Forms.{mapping_form, hints_form, clause_form, expansion, addition, deletion}
use Rattle.tables.specs.Lent.{tables_of}
use Rattle.reading.proofs.LineLaws.{line_lent}
use Rattle.reading.proofs.MappingLaws.{map_lent}
use Rattle.progress.specs.Shown.{ferat_rules, ferat_code}
use Rattle.ferat.specs.Kinds.{letter_kind}
use Rattle.ferat.proofs.KindLaws.{head_means, plain_letter}
use Rattle.ferat.proofs.LentLaws.{three_lent, among_lent, beside_lent}
use Rattle.ferat.proofs.LineLaws.{line_skipped, line_formed}
use Rattle.ferat.proofs.certificate.FeratKind.line_keeping_lengths.Goals as goal
use Rattle.ferat.proofs.certificate.FeratKind.line_keeping_lengths.Goals.{in_default-via-in-Letter+in_default, in_default-via-in_default}

pub returns-in-Skipped-clause-read : goal.returns-in-Skipped-clause-read
returns-in-Skipped-clause-read c = line_skipped (λ f s. head_means _ (tables_of c.args.tables.now) f s (sym c.line_head.ensures ∙ c.in-Skipped.is) refl)

pub returns-in-Letter-eq120-default-clause-read : goal.returns-in-Letter-eq120-default-clause-read
unfolding letter_kind
returns-in-Letter-eq120-default-clause-read c =
    let h = c.in-Letter-eq120-default in
    let x = c.mapping_line.ensures in
    let t = tables_of c.args.tables.now in
    line_lent ferat_rules ferat_code (map_lent t (tables_of c.mapping_line.new.tables) x.rest) (sym x.noted)
    (line_formed mapping_form _ (λ f s. head_means _ _ f s (sym c.line_head.ensures ∙ h.is) (ap (λ b. letter_kind b h.at) h.field-0-test)) (x.read t c.args.work.now))

pub returns-in-Letter-eq111-default-clause-read : goal.returns-in-Letter-eq111-default-clause-read
unfolding letter_kind
returns-in-Letter-eq111-default-clause-read c =
    let h = c.in-Letter-eq111-default in
    let x = c.hints_line.ensures in
    let t = tables_of c.args.tables.now in
    line_lent ferat_rules ferat_code (sym x.rest) refl
    (line_formed hints_form _ (λ f s. head_means _ _ f s (sym c.line_head.ensures ∙ h.is) (ap (λ b. letter_kind b h.at) h.field-0-test)) (x.read t c.args.work.now))

pub returns-in-Letter-eq101-default-clause-read : goal.returns-in-Letter-eq101-default-clause-read
unfolding letter_kind
returns-in-Letter-eq101-default-clause-read c =
    let h = c.in-Letter-eq101-default in
    let x = c.expansion_line.ensures in
    line_formed (clause_form expansion) _ (λ f s. head_means _ _ f s (sym c.line_head.ensures ∙ h.is) (ap (λ b. letter_kind b h.at) h.field-0-test)) x.read

pub returns-in-Letter-eq100-default-clause-read : goal.returns-in-Letter-eq100-default-clause-read
unfolding letter_kind
returns-in-Letter-eq100-default-clause-read c =
    let h = c.in-Letter-eq100-default in
    let x = c.deletion_line.ensures in
    let t = tables_of c.args.tables.now in
    line_lent ferat_rules ferat_code (among_lent t (tables_of c.deletion_line.new.tables) x.marks) (beside_lent c.args.work.now c.deletion_line.new.work x.trail)
    (line_formed (clause_form deletion) _ (λ f s. head_means _ _ f s (sym c.line_head.ensures ∙ h.is) (ap (λ b. letter_kind b h.at) h.field-0-test)) (x.read t c.args.work.now))

pub returns-in_default-clause-read : goal.returns-in_default-clause-read
returns-in_default-clause-read c =
    let x = c.addition_line.ensures in
    let t = tables_of c.args.tables.now in
    line_lent ferat_rules ferat_code (three_lent t (tables_of c.addition_line.new.tables) x.rest) (sym x.work)
    (line_formed (clause_form addition) 0 (λ f s. elim c.in_default.branch [
      | in_default-via-in-Letter+in_default w ↦
          let n = w.in_default.field-0-test in head_means _ _ f s (sym w.in_default.ensures) (plain_letter _ _ n.0.0.0.1 n.0.0.1 n.0.1 n.1)
      | in_default-via-in_default w ↦ head_means _ _ f s (sym c.line_head.ensures ∙ w.in_default.is) refl
    ]) (x.read t c.args.work.now))
