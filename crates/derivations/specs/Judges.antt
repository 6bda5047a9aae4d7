-- Judging a clause line that is stored. Assumes nothing.
use Rattle.std.specs.Prelude.{◌≡◌, Result, List, map, ℕ, ◌+◌, ◌%◌, ◌<◌, ◌≤◌, max, length, ℤ}
use Rattle.rules.specs.Basics.{greatest}
use Rattle.rules.specs.Literals.{Lits, vars}
use Rattle.rules.specs.Codes.{code_of}
use Rattle.rules.specs.declared.Rule.{Rule}
use Rattle.rules.specs.Formula.{Formula}
use Rattle.rules.specs.Step as rules
use Rattle.rules.specs.Step.{refuse_in}
use Rattle.ferp_rules.specs.Forms.{FerpLine, expansion, resolution}
use Rattle.ferp_rules.specs.Lines.{Derived, needing, kind_rules, accept}
use Rattle.tables.specs.Tables.{Tables}
use Rattle.clauses.specs.declared.Store.{Store}
use Rattle.clauses.specs.Standing.{pending, proof_need, marks_need, places_of, StandsNow}
use Rattle.indexes.specs.Shown.{noted}
use Rattle.reading.specs.declared.Counts.{Counts}
use Rattle.reading.specs.Counting.{one_expansion, one_addition}
use Rattle.reading.specs.Lines.{Light, Leads}
use Rattle.derivations.specs.declared.Progress.{Progress}
use Rattle.derivations.specs.declared.Reason.{Reason}
use Rattle.derivations.specs.declared.Reason.TheVariants.{Clause, Parents}
use Rattle.derivations.specs.declared.Derivation.{Derivation}
use Rattle.derivations.specs.declared.Work.{Work}
use Rattle.derivations.specs.Shown.{Shown, ferp_rules, ferp_code}

-- the line of a clause with index i
abbrev pub line_of : ℕ → Reason → Lits → FerpLine
line_of i (Clause n) c = expansion i c n
line_of i (Parents a b) c = resolution i c a b

-- WHAT THE RULES SAY OF A LINE once 2, 3 and 15 are out
abbrev pub kind_judge : Formula → Derived → FerpLine → rules.Step Derived
kind_judge f s line = refuse_in (needing s line) (kind_rules f (needing s line) line) (rules.next (accept (needing s line) line))

-- the numbers of a line that passed 2 and 3
abbrev pub Named : Formula → ℕ → Reason → Type 0
Named f i (Clause n) = (i ≤ 65536) × (1 ≤ n) × (n ≤ f.count)
Named f i (Parents a b) = (i ≤ 65536) × (a ≤ 65536) × (b ≤ 65536)

-- THE CLAUSE c OF A LINE is stored, does not stand yet, and has its places
pub record Pending (p : Progress) (t : Tables) (d : Derivation) (c : Lits) : Type 0 where
  pub stored : pending t.proof p.store ≡ map code_of c
  pub count : d.size ≡ length c
  pub most : d.largest ≡ greatest (vars c)
  pub range : d.largest ≤ 16384
  pub proof : proof_need p.store + places_of p.store + d.size + 2 ≤ length t.proof
  pub marks : marks_need p.store + 1 ≤ length t.marks
  pub values : max p.mapped.largest d.largest ≤ length t.values

-- one line more
abbrev pub counted_by : Reason → Counts → Counts
counted_by (Clause n) c = one_expansion c
counted_by (Parents a b) c = one_addition c

-- the progress with one clause more
abbrev pub stood_in : Progress → Derivation → Store → Progress
stood_in p d store = record {
  formula = p.formula;
  mapped = record { used = p.mapped.used; largest = max p.mapped.largest d.largest };
  store = store;
  counts = counted_by d.reason p.counts;
}

-- THE PENDING CLAUSE STANDS, and its index is noted
pub record StandsAs (p : Progress) (d : Derivation) (marks : List ℤ) (indexes : List ℕ) (q : Progress) (marks' : List ℤ)
    (indexes' : List ℕ) : Type 0 where
  pub next : q ≡ stood_in p d q.store
  pub stands : StandsNow marks marks' p.store d.size q.store
  pub index : indexes' ≡ noted indexes d.index (places_of p.store % 1073741824)

-- THE JUDGE of a pending clause: the tables t and the working memory w become u and v, and the step is the rules' step
pub record Judges (d : Derivation) (p : Progress) (t : Tables) (w : Work) (r : Result Progress Rule) (u : Tables) (v : Work) : Type 0 where
  pub steps : (c : Lits) (k : ℕ) (f : Formula) (s : Derived) → Pending p t d c → Named f d.index d.reason → Shown p t w f s → Light ferp_rules ferp_code p k
      → d.size < k → Leads ferp_rules ferp_code f p k t (kind_judge f s (line_of d.index d.reason c)) r u v
