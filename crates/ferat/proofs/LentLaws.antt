-- The tables and the working memory that were lent, among any others. Assumes nothing.
use mathlib.Core.Path.{◌≡◌, ap, sym, ◌∙◌}
use Rattle.tables.specs.Tables.{Tables}
use Rattle.progress.specs.declared.Work.{Work}
use Rattle.steps.specs.Judges.{among, beside}
use Rattle.ferat.specs.Lines.{with_three}

pub three_lent : (t u : Tables) → u ≡ record t { proof = u.proof; marks = u.marks } → with_three t u ≡ u
three_lent t u e = ap (λ (x : Tables). record t { proof = u.proof; marks = u.marks; values = x.values }) e ∙ sym e

pub among_lent : (t u : Tables) → u ≡ record t { marks = u.marks } → among t u.proof u.marks ≡ u
among_lent t u e = ap (λ (x : Tables). among t x.proof u.marks) e ∙ sym e

pub beside_lent : (w v : Work) → v ≡ record w { propagation = record w.propagation { trail = v.propagation.trail } } → beside w v.propagation ≡ v
beside_lent w v e = ap (λ (x : Work). beside w x.propagation) e ∙ sym e
