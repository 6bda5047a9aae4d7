-- Laws of one line of the certificate, by its kind. Assumes nothing.
use mathlib.Core.Path.{◌≡◌}
use mathlib.Core.List.{List}
use mathlib.Core.Option.{Option}
use Prim.Native.Nat.{ℕ}
use Rattle.std.specs.Prelude.{Result, Ok}
use Rattle.rules.specs.declared.Rule.{Rule}
use Rattle.lines.specs.Lines.{Token}
use Rattle.rules.specs.Formula.{Formula}
use Rattle.rules.specs.Forms.{CertificateLine}
use Rattle.rules.specs.Limits.{limits}
use Rattle.rules.specs.CertificateLines.{State}
use Rattle.tables.specs.Tables.{Tables, lengths_of}
use Rattle.progress.specs.declared.Progress.{Progress}
use Rattle.reading.proofs.LineLaws as reading
use Rattle.progress.specs.declared.Work.{Work}
use Rattle.progress.specs.Shown.{ferat_rules, ferat_code}
use Rattle.ferat.specs.Kinds.{Skip}
use Rattle.ferat.specs.Lines.{judged, Line}
use Rattle.ferat.specs.Certificate.{judge_line, AnyLine}
use Rattle.ferat.proofs.KindLaws.{Means}

module _ {bs : List ℕ} {p : Progress} {t : Tables} {w : Work} where
  pub line_skipped : ((f : Formula) (s : State) → Means bs t f s Skip) → AnyLine bs p t w (Ok p) t w
  line_skipped m = reading.line_skipped ferat_rules ferat_code m

  -- a line of a form
  pub line_formed : (form : List Token → Option CertificateLine) (at : ℕ) {r : Result Progress Rule} {u : Tables} {v : Work}
      → ((f : Formula) (s : State) → judge_line (limits (lengths_of t)) f s bs ≡ judged form bs at t f s)
      → Line form bs at p t w r u v → AnyLine bs p t w r u v
  line_formed form at m x = reading.line_judged ferat_rules ferat_code (judged form bs at t) m x.steps
