-- Laws of the end of the certificate. Assumes nothing.
use mathlib.Core.Path.{◌≡◌, refl, ap, ap₂, sym, ◌∙◌}
use mathlib.Core.Bool.{Bool, true, false, not, cond}
use Rattle.std.specs.List.{list_any as any}
use Rattle.lines.specs.Lists.{is_empty}
use Rattle.rules.specs.Formula.{Formula}
use Rattle.rules.specs.Limits.{Limits}
use Rattle.rules.specs.Step.{◌unless◌, ◌then◌}
use Rattle.rules.specs.CertificateLines.{State, no_hint_left, certificate_end}
use Rattle.tables.specs.Tables.{Tables}
use Rattle.progress.specs.declared.Progress.{Progress}
use Rattle.progress.specs.declared.Work.{Work}
use Rattle.progress.specs.Shown.{Shown}
use Rattle.progress.specs.Order.{end_broken}
use Rattle.reading.proofs.GoingLaws.{numbered}
use Rattle.progress.proofs.OrderLaws.{hint_left_lem}

-- WHAT THE RULES SAY
pub end_is : {p : Progress} {t : Tables} {w : Work} {f : Formula} {s : State} → Shown p t w f s → (l : Limits)
    → certificate_end s ≡ numbered (end_broken p t.proof t.marks)
unfolding certificate_end end_broken
end_is {p} {t} {s} sh l =
    go (no_hint_left s) (any is_empty s.standing)
    ∙ ap₂ (λ a b. numbered (cond a 10 (cond b 0 14))) (sym (hint_left_lem sh)) (sym (ap (any is_empty) sh.clauses))
  where
    go : (a b : Bool) → (10 unless a then 14 unless b) ≡ numbered (cond (not a) 10 (cond b 0 14))
    go true true = refl
    go true false = refl
    go false b = refl
