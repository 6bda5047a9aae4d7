-- Judging what is stored. Assumes nothing.
use Rattle.std.specs.Prelude.{◌≡◌, List, map, ℕ, ◌<◌, ◌≤◌, max, length, ℤ, Result}
use Rattle.rules.specs.Basics.{greatest, is_in}
use Rattle.rules.specs.Literals.{Lits, vars}
use Rattle.rules.specs.Codes.{code_of}
use Rattle.rules.specs.Formula.{Formula}
use Rattle.rules.specs.Forms.{CertificateLine, deletion}
use Rattle.rules.specs.declared.Rule.{Rule}
use Rattle.rules.specs.Step as rules
use Rattle.rules.specs.Step.{refuse_in}
use Rattle.rules.specs.CertificateLines.{State, needing, kind_rules, accept}
use Rattle.tables.specs.Tables.{Tables}
use Rattle.clauses.specs.Standing.{pending, grown, proof_need, marks_need}
use Rattle.trail.specs.declared.Trail.{Trail}
use Rattle.propagation.specs.declared.Propagation.{Propagation}
use Rattle.deletion.specs.Deletions.{ListedIn, list_in}
use Rattle.progress.specs.declared.Progress.{Progress}
use Rattle.progress.specs.declared.Work.{Work}
use Rattle.progress.specs.Shown.{Shown, Light, Stepped}

-- WHAT THE RULES SAY OF A LINE once 2, 3 and 15 are out
abbrev pub kind_judge : Formula → State → CertificateLine → rules.Step State
kind_judge f s line = refuse_in (needing s line) (kind_rules f (needing s line) line) (rules.next (accept (needing s line) line))

-- A CLAUSE OF n LITERALS with copies up to m is stored, does not stand yet, and has its places
pub record Pending (p : Progress) (t : Tables) (n m : ℕ) (c : Lits) : Type 0 where
  pub stored : pending t.proof p.store ≡ map code_of c
  pub count : n ≡ length c
  pub most : m ≡ greatest (vars c)
  pub range : m ≤ 16384
  pub proof : proof_need (grown p.store n) ≤ length t.proof
  pub marks : marks_need (grown p.store n) ≤ length t.marks
  pub values : max p.mapped.largest m ≤ length t.values

-- THE JUDGE of a pending clause: the tables t and the working memory w become u and v, and the step is the rules' step
pub record Judges (kind : Lits → CertificateLine) (p : Progress) (n m : ℕ) (t : Tables) (w : Work) (r : Result Progress Rule) (u : Tables) (v : Work) : Type 0 where
  pub steps : (c : Lits) (k : ℕ) (f : Formula) (s : State) → Pending p t n m c → Shown p t w f s → Light p k → n < k
      → Stepped f p k t (kind_judge f s (kind c)) r u v

-- the proof and marks tables as a call has them, among any others
abbrev pub among : Tables → List ℤ → List ℤ → Tables
among t proof marks = record t { proof = proof; marks = marks }

-- the trail and the watches as a call has them, beside any other working memory
abbrev pub beside : Work → Propagation → Work
beside w propagation = record w { propagation = propagation }

-- the trail alone
abbrev pub with_trail : Work → Trail → Work
with_trail w trail = beside w (record w.propagation { trail = trail })

-- the whole working memory, by its parts
abbrev pub work_of : List ℕ → List ℕ → Propagation → Work
work_of starts noted propagation = record { starts = starts; noted = noted; propagation = propagation }

-- THE JUDGE of a deletion, whose distinct literals are on the trail, which was emptied before: c as a set
pub record Listing (c : Lits) (t : Trail) : Type 0 where
  pub listed : ListedIn t
  pub same : (x : ℕ) → is_in (list_in t) x ≡ is_in (map code_of c) x

pub record Deletes (p : Progress) (t : Tables) (w : Work) (r : Result Progress Rule) (u : Tables) (v : Work) : Type 0 where
  pub steps : (c : Lits) (k : ℕ) (f : Formula) (s : State) (trail : Trail) → Listing c w.propagation.trail
      → Shown p t (record w { propagation = record w.propagation { trail = trail } }) f s → Light p k → 0 < k → Stepped f p k t (kind_judge f s (deletion c)) r u v
