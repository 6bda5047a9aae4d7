-- What a line of the certificate comes to, read by its form. Assumes nothing.
use Rattle.std.specs.Prelude.{◌≡◌, List, map, ℕ, ◌+◌, ◌%◌, length, take, Result, Some}
use Rattle.std.proofs.Math.Option.{Option}
use Rattle.lines.specs.Lines.{Token}
use Rattle.lines.specs.Scan.{tokens_from}
use Rattle.cells.specs.Cells.{up_to}
use Rattle.lists.specs.Stores.{codes_at}
use Rattle.rules.specs.Basics.{maybe, is_in}
use Rattle.rules.specs.Formula.{Formula}
use Rattle.rules.specs.Forms.{CertificateLine}
use Rattle.rules.specs.Limits.{limits}
use Rattle.rules.specs.Step as rules
use Rattle.rules.specs.CertificateLines.{State, judge}
use Rattle.tables.specs.Tables.{Tables, lengths_of}
use Rattle.mapping.specs.declared.Mapped.{Mapped}
use Rattle.clauses.specs.declared.Store.{Store}
use Rattle.clauses.specs.Standing.{empty_above}
use Rattle.trail.specs.declared.Trail.{Trail}
use Rattle.deletion.specs.Deletions.{Listed}
use Rattle.progress.specs.declared.Progress.{Progress}
use Rattle.progress.specs.declared.Work.{Work}
use Rattle.rules.specs.declared.Rule.{Rule}
use Rattle.progress.specs.Shown.{Shown, Light, Stepped}

-- the rules' answer to what stands in the line from a place on, read by the form
unfoldable pub judged : (List Token → Option CertificateLine) → List ℕ → ℕ → Tables → Formula → State → rules.Step State
judged form bs at t f s = maybe (form (tokens_from bs at)) (rules.refuse 2 s) (judge (limits (lengths_of t)) f s)

-- A LINE OF A FORM: the tables t and the working memory w become u and v, and the step is the rules' step
pub record Line (form : List Token → Option CertificateLine) (bs : List ℕ) (at : ℕ) (p : Progress) (t : Tables) (w : Work) (r : Result Progress Rule) (u : Tables) (v : Work)
    : Type 0 where
  pub steps : (f : Formula) (s : State) → Shown p t w f s → Light p (length bs) → Stepped f p (length bs) t (judged form bs at t f s) r u v

-- the tables t with some of another's, and the working memory w with another's notes: all that an `o` line, an addition and, with the
-- tables of `with_map`, a mapping line depend on
abbrev pub with_proof : Tables → Tables → Tables
with_proof t u = record t { proof = u.proof }

abbrev pub with_three : Tables → Tables → Tables
with_three t u = record t { proof = u.proof; marks = u.marks; values = u.values }

abbrev pub with_noted : Work → Work → Work
with_noted w v = record w { noted = v.noted }

-- the progress after an `o` line of n hints, with a store above them
abbrev pub hinted_with : Progress → ℕ → Store → Progress
hinted_with p n s = record p { hinted = Some n; store = s }

abbrev pub hinted_in : Progress → ℕ → Progress
hinted_in p n = hinted_with p n (empty_above (n % 1073741824 + 1))

-- the progress after a mapping line
abbrev pub mapped_in : Progress → Mapped → Progress
mapped_in p m = record p { mapped = m }

-- the codes of a deletion's literals from a place on, modulo 65536
unfoldable pub line_codes : List ℕ → ℕ → List ℕ
line_codes bs at = map (λ k. k % 65536) (up_to (codes_at bs at))

-- the trail has the line's literals
pub record LineListed (bs : List ℕ) (at : ℕ) (t : Trail) : Type 0 where
  pub listed : Listed t.falses t.literals t.length
  pub same : (x : ℕ) → is_in (take t.length t.literals) x ≡ is_in (line_codes bs at) x
