-- The certificate of a formula that was read, with the working memory of one check. Assumes nothing.
use mathlib.Core.Path.{◌≡◌, subst}
use mathlib.Core.List.{List}
use Prim.Native.Nat.{ℕ}
use lib.ListN.{replicate}
use Rattle.formula.specs.declared.Reading.{Reading}
use Rattle.tables.specs.Tables.{Tables}
use Rattle.matrix.specs.Index.{index_of}
use Rattle.trail.specs.Trail.{ReadyIn}
use Rattle.reading.specs.declared.Ended.{Ended}
use Rattle.progress.specs.declared.Progress.{Progress}
use Rattle.progress.specs.declared.Work.{Work}
use Rattle.ferat.specs.Certificate.{CertificateRead}
use Rattle.ferat.specs.Check.{begun, FormulaChecked}
use Rattle.ferat.proofs.StartLaws.{shown_start, light_start}

pub formula_checked : (r : Reading) (p : Progress) → p ≡ begun r → (cs : List ℕ) (t : Tables) (w : Work) → w.starts ≡ index_of t.matrix r.used (replicate 8193 0)
    → w.noted ≡ replicate 16385 0 → ReadyIn w.propagation.trail → w.propagation.trail.length ≡ 0
    → (x : Ended) (u : Tables) → CertificateRead cs p t w x u → FormulaChecked cs r t x u
formula_checked r p e cs t w i j ready none x u h f a b =
    subst (λ q. CertificateRead cs q t w x u) e h f (shown_start r t f a b i j ready none) (light_start r)
