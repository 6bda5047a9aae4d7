-- Laws of the end of a certificate. Assumes nothing.
use mathlib.Core.Path.{◌≡◌, refl, ap, sym, ◌∙◌}
use mathlib.Core.Bool.{Bool, true, false, cond}
use mathlib.Core.List.{List}
use Prim.Native.Nat.{ℕ}
use lib.IntN.{ℤ}
use Rattle.std.specs.Prelude.{Result}
use Rattle.rules.specs.Rule.{broken}
use Rattle.rules.specs.declared.Rule.{Rule}
use Rattle.std.specs.List.{list_any as any}
use Rattle.lines.specs.Lists.{is_empty}
use Rattle.rules.specs.Formula.{Formula}
use Rattle.rules.specs.Step.{◌unless◌}
use Rattle.ferp_rules.specs.Lines.{Derived, certificate_end}
use Rattle.tables.specs.Tables.{Tables}
use Rattle.clauses.specs.Standing.{standing, places_of, has_empty}
use Rattle.reading.proofs.GoingLaws.{numbered}
use Rattle.certificates.specs.Kind.{EndRead}
use Rattle.derivations.specs.declared.Progress.{Progress}
use Rattle.derivations.specs.declared.Work.{Work}
use Rattle.derivations.specs.Shown.{Shown, ferp_rules, ferp_code}
use Rattle.ferp.specs.Certificate.{end_broken}

-- THE END: what the rules say, by the code's number
pub ended_is : {p : Progress} {t : Tables} {w : Work} {k : ℕ} → k ≡ end_broken p t.proof t.marks → (f : Formula) (s : Derived) → Shown p t w f s
    → certificate_end s ≡ numbered k
unfolding certificate_end end_broken
ended_is {p} {t} i f s sh =
    go (any is_empty s.state.standing) ∙ ap (λ b. numbered (cond b 0 14)) (sym (ap (any is_empty) sh.clauses)) ∙ ap numbered (sym i)
  where
    go : (b : Bool) → (14 unless b) ≡ numbered (cond b 0 14)
    go true = refl
    go false = refl

-- and what the code tests
pub end_tested : (p : Progress) (t : Tables) {proof marks : List ℤ} {count : ℕ} → proof ≡ t.proof → marks ≡ t.marks → count ≡ places_of p.store
    → {r : Result (Unit {0}) Rule} → broken r ≡ cond (has_empty (standing proof marks count)) 0 14 → EndRead ferp_rules ferp_code p t r
unfolding end_broken
end_tested p t a b c {r} e = record { ends = λ w f s sh. ended_is {w = w} (e ∙ rw (a, b, c) refl) f s sh }
