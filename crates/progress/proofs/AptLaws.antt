-- FERAT's rules and code are apt for the reading of a certificate. Assumes nothing.
use mathlib.Core.Path.{◌≡◌, refl}
use Rattle.rules.specs.Formula.{Formula}
use Rattle.rules.specs.Forms.{CertificateLine, mapping, hints, expansion, addition, deletion, certificate_line}
use Rattle.rules.specs.Needs.{line_needs}
use Rattle.rules.specs.Limits.{Limits, has_room}
use Rattle.rules.specs.Step.{◌unless◌, ◌then◌}
use Rattle.rules.specs.CertificateLines.{State, needing, in_sequence, in_range, kind_rules, accept, judge}
use Rattle.reading.proofs.StageLaws.{Keeps, stages_keep, bytes_keep}
use Rattle.reading.proofs.GoingLaws.{Apt}
use Rattle.progress.specs.Shown.{ferat_rules, ferat_code}

accept_needs : (s : State) (line : CertificateLine) → (accept s line).needs ≡ s.needs
unfolding accept
accept_needs s (mapping ps es ls) = refl
accept_needs s (hints ns) = refl
accept_needs s (expansion c) = refl
accept_needs s (addition c) = refl
accept_needs s (deletion c) = refl

judge_keeps : (l : Limits) (f : Formula) (s : State) (line : CertificateLine) → Keeps ferat_rules.part s (judge l f s line)
unfolding judge
judge_keeps l f s line =
    stages_keep ferat_rules.part s (needing s line) (accept (needing s line) line) (2 unless in_sequence s line then 3 unless in_range l f line)
    (15 unless has_room l.lengths (needing s line).needs then kind_rules f (needing s line) line) (line_needs line) refl
    (record { expansions = refl; additions = refl; deletions = refl }) (accept_needs (needing s line) line)

pub ferat_apt : Apt ferat_rules ferat_code
ferat_apt = record {
  keeps = λ l f s bs. bytes_keep ferat_rules.part certificate_line (judge l f) s (judge_keeps l f s) bs;
  begins = λ f. refl;
  counted = λ p t w f s sh. record { expansions = sh.expansions; additions = sh.additions; deletions = sh.deletions };
}
