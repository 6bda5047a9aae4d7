-- What a line of the certificate comes to, read by its form. Assumes nothing.
use Rattle.std.specs.Prelude.{Bool, Result, List, ℕ, eqb, length}
use Rattle.std.proofs.Math.Option.{Option}
use Rattle.lines.specs.Lines.{Token}
use Rattle.lines.specs.Scan.{tokens_from}
use Rattle.rules.specs.Basics.{maybe}
use Rattle.rules.specs.declared.Rule.{Rule}
use Rattle.rules.specs.Formula.{Formula}
use Rattle.rules.specs.Forms.{mapping_form, ◌>>=◌}
use Rattle.rules.specs.Limits.{limits}
use Rattle.rules.specs.Step as rules
use Rattle.ferp_rules.specs.Forms.{FerpLine, same_mapping}
use Rattle.ferp_rules.specs.Lines.{Derived, judge}
use Rattle.tables.specs.Tables.{Tables, lengths_of}
use Rattle.mapping.specs.declared.Mapped.{Mapped}
use Rattle.clauses.specs.Standing.{places_of}
use Rattle.reading.specs.Lines.{Light, Leads}
use Rattle.derivations.specs.declared.Progress.{Progress}
use Rattle.derivations.specs.declared.Work.{Work}
use Rattle.derivations.specs.Shown.{Shown, ferp_rules, ferp_code}

-- "the same mapping lines"
abbrev pub same_form : List Token → Option FerpLine
same_form ts = mapping_form ts >>= same_mapping

-- no clause line came before
unfoldable pub no_clause : Progress → Bool
no_clause p = eqb (places_of p.store) 0

-- the rules' answer to what stands in the line from a place on, read by the form
unfoldable pub judged : (List Token → Option FerpLine) → List ℕ → ℕ → Tables → Formula → Derived → rules.Step Derived
judged form bs at t f s = maybe (form (tokens_from bs at)) (rules.refuse 2 s) (judge (limits (lengths_of t)) f s)

-- A LINE OF A FORM: the tables t and the working memory w become u and v, and the step is the rules' step
pub record Line (form : List Token → Option FerpLine) (bs : List ℕ) (at : ℕ) (p : Progress) (t : Tables) (w : Work) (r : Result Progress Rule) (u : Tables) (v : Work)
    : Type 0 where
  pub steps : (f : Formula) (s : Derived) → Shown p t w f s → Light ferp_rules ferp_code p (length bs)
      → Leads ferp_rules ferp_code f p (length bs) t (judged form bs at t f s) r u v

-- the working memory w with another's notes: all that a mapping line depends on
abbrev pub with_noted : Work → Work → Work
with_noted w v = record w { noted = v.noted }

-- the progress after a mapping line
abbrev pub mapped_in : Progress → Mapped → Progress
mapped_in p m = record { formula = p.formula; mapped = m; store = p.store; counts = p.counts }
