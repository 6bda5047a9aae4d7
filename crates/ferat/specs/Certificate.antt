-- The certificate's lines one after the other, as crate reading has them. Assumes nothing.
use Rattle.std.specs.Prelude.{List, ℕ, Result}
use Rattle.rules.specs.Formula.{Formula}
use Rattle.rules.specs.Limits.{Limits}
use Rattle.rules.specs.Step as rules
use Rattle.rules.specs.CertificateLines.{State}
use Rattle.tables.specs.Tables.{Tables}
use Rattle.reading.specs.declared.Ended.{Ended}
use Rattle.reading.specs.Lines as reading
use Rattle.progress.specs.declared.Progress.{Progress}
use Rattle.progress.specs.declared.Work.{Work}
use Rattle.rules.specs.declared.Rule.{Rule}
use Rattle.progress.specs.Shown.{ferat_rules, ferat_code}

-- the rules' judge of a line's bytes
abbrev pub judge_line : Limits → Formula → State → List ℕ → rules.Step State
judge_line l f = ferat_rules.judge l f

-- ANY LINE: the tables t and the working memory w become u and v, and the step is the rules' step
abbrev pub AnyLine : List ℕ → Progress → Tables → Work → Result Progress Rule → Tables → Work → Type 0
AnyLine bs p t w r u v = reading.AnyLine ferat_rules ferat_code bs p t w r u v

-- THE WHOLE CERTIFICATE, for every formula that is shown with nothing read yet
abbrev pub CertificateRead : List ℕ → Progress → Tables → Work → Ended → Tables → Type 0
CertificateRead = reading.CertificateRead ferat_rules ferat_code
