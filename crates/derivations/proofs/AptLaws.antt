-- FERP's rules and code are apt for the reading of a certificate. Assumes nothing.
use mathlib.Core.Path.{◌≡◌, refl}
use Rattle.rules.specs.Formula.{Formula}
use Rattle.rules.specs.Limits.{Limits, has_room}
use Rattle.rules.specs.Step.{◌unless◌, ◌then◌}
use Rattle.rules.specs.CertificateLines as ferat-lines
use Rattle.ferp_rules.specs.Forms.{FerpLine, mapping, expansion, resolution, ferp_line}
use Rattle.ferp_rules.specs.Lines.{Derived, ferp_needs, needing, in_sequence, in_range, kind_rules, accept, judge}
use Rattle.reading.proofs.StageLaws.{Keeps, stages_keep, bytes_keep}
use Rattle.reading.proofs.GoingLaws.{Apt}
use Rattle.derivations.specs.Shown.{ferp_rules, ferp_code}

accept_needs : (s : Derived) (line : FerpLine) → (accept s line).state.needs ≡ s.state.needs
unfolding accept ferat-lines.accept
accept_needs s (mapping ps es ls) = refl
accept_needs s (expansion i c n) = refl
accept_needs s (resolution i c a b) = refl

judge_keeps : (l : Limits) (f : Formula) (s : Derived) (line : FerpLine) → Keeps ferp_rules.part s (judge l f s line)
unfolding judge
judge_keeps l f s line =
    stages_keep ferp_rules.part s (needing s line) (accept (needing s line) line) (2 unless in_sequence s line then 3 unless in_range l f line)
    (15 unless has_room l.lengths (needing s line).state.needs then kind_rules f (needing s line) line) (ferp_needs line) refl
    (record { expansions = refl; additions = refl; deletions = refl }) (accept_needs (needing s line) line)

pub ferp_apt : Apt ferp_rules ferp_code
ferp_apt = record {
  keeps = λ l f s bs. bytes_keep ferp_rules.part ferp_line (judge l f) s (judge_keeps l f s) bs;
  begins = λ f. refl;
  counted = λ p t w f s sh. record { expansions = sh.expansions; additions = sh.additions; deletions = sh.deletions };
}
