-- Laws of the check of two files, for FERP. Assumes nothing.
use mathlib.Core.Path.{◌≡◌, subst}
use mathlib.Core.List.{List}
use Prim.Native.Nat.{ℕ}
use lib.ListN.{replicate}
use Rattle.formula.specs.declared.Reading.{Reading}
use Rattle.tables.specs.Tables.{Tables}
use Rattle.matrix.specs.Index.{index_of}
use Rattle.reading.specs.declared.Ended.{Ended}
use Rattle.reading.specs.Lines.{CertificateRead, FormulaChecked}
use Rattle.derivations.specs.declared.Progress.{Progress}
use Rattle.derivations.specs.Shown.{ferp_rules, ferp_code}
use Rattle.ferp.specs.Check.{begun}
use Rattle.ferp.proofs.StartLaws.{fresh, shown_start, light_start}

-- THE CERTIFICATE of a formula that was read, with working memory of zeros
pub formula_checked : (r : Reading) (p : Progress) → p ≡ begun r → (cs : List ℕ) (t : Tables) {starts : List ℕ} → starts ≡ index_of t.matrix r.used (replicate 8193 0)
    → (x : Ended) (u : Tables) → CertificateRead ferp_rules ferp_code cs p t (fresh starts) x u → FormulaChecked ferp_rules cs r t x u
formula_checked r p e cs t {starts} i x u h f a b =
    subst (λ q. CertificateRead ferp_rules ferp_code cs q t (fresh starts) x u) e h f (shown_start r t f a b i) (light_start r)
