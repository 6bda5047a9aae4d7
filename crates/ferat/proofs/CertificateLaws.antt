-- What the rules say at the end of a FERAT certificate. Assumes nothing.
use mathlib.Core.Path.{◌≡◌, ap, sym, ◌∙◌}
use Prim.Native.Nat.{ℕ}
use Rattle.rules.specs.Formula.{Formula}
use Rattle.rules.specs.Limits.{limits}
use Rattle.rules.specs.CertificateLines.{State, certificate_end}
use Rattle.tables.specs.Tables.{Tables, lengths_of}
use Rattle.reading.proofs.GoingLaws.{numbered}
use Rattle.progress.specs.declared.Progress.{Progress}
use Rattle.progress.specs.Order.{end_broken}
use Rattle.progress.specs.declared.Work.{Work}
use Rattle.progress.specs.Shown.{Shown}
use Rattle.progress.proofs.EndLaws.{end_is}

-- the rules at the end of the file, by the code's number
pub ended_is : {q : Progress} {u : Tables} {v : Work} {k : ℕ} → k ≡ end_broken q u.proof u.marks → (f : Formula) (s : State) → Shown q u v f s
    → certificate_end s ≡ numbered k
ended_is {u} i f s sh = end_is sh (limits (lengths_of u)) ∙ ap numbered (sym i)
