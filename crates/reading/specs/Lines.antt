-- The lines of a certificate one after the other, whatever its kind. Assumes nothing.
use Rattle.std.specs.Prelude.{◌≡◌, List, ℕ, ◌+◌, ◌*◌, ◌≤◌, length, Result, Ok, Err}
use Rattle.std.proofs.Math.Option.{Option}
use Rattle.lines.specs.Each.{bytes_in}
use Rattle.rules.specs.Formula.{Formula}
use Rattle.rules.specs.Limits.{Limits, limits}
use Rattle.rules.specs.Step as rules
use Rattle.rules.specs.Step.{judge_lines, judge_file}
use Rattle.rules.specs.CertificateLines.{State}
use Rattle.rules.specs.Rule.{number}
use Rattle.rules.specs.declared.Rule.{Rule}
use Rattle.tables.specs.Tables.{Tables, lengths_of, KeptAll}
use Rattle.formula.specs.declared.Reading.{Reading}
use Rattle.formula.specs.Holds.{Holds}
use Rattle.reading.specs.declared.Counts.{Counts}
use Rattle.reading.specs.declared.Ended.{Ended}
use Rattle.reading.specs.Ends.{EndedAs}

-- THE RULES OF A KIND: its state S between two lines, the part of it that all kinds have, the judge of a line's bytes, the rules at the end
-- of the file, and the state at the start
pub record Rules (S : Type 0) : Type 0 where
  pub part : S → State
  pub judge : Limits → Formula → S → List ℕ → rules.Step S
  pub at_end : S → Option ℕ
  pub start : Formula → S

-- the whole certificate by these rules
abbrev pub read_by : {S : Type 0} → Rules S → Limits → Formula → List ℕ → rules.Read S
read_by R l f bs = judge_file (R.judge l f) R.at_end bs (R.start f)

-- THE CODE OF A KIND: what is carried from line to line (P) and the working memory (W); what these and the tables show of the rules' state; the
-- lines accepted; and a measure that bounds the counters, to which a line of n bytes adds at most 3n
pub record Code (S P W : Type 0) : Type 1 where
  pub Shown : P → Tables → W → Formula → S → Type 0
  pub counts : P → Counts
  pub weight : P → ℕ

-- the tables t with another's prefix, map and values tables: all that a mapping line depends on
abbrev pub with_map : Tables → Tables → Tables
with_map t u = record t { prefix = u.prefix; map = u.map; values = u.values }

module _ {S P W : Type 0} (R : Rules S) (C : Code S P W) where
  -- a line of n bytes leaves the measure at most 2^22
  abbrev pub Light : P → ℕ → Type 0
  Light p n = C.weight p + 3 * n ≤ 4194304

  -- WHAT A LINE OF n BYTES LEADS TO: the rules' step and the code's, the next progress or the rule that is broken; the tables before, the tables and
  -- the working memory after
  abbrev pub Leads : Formula → P → ℕ → Tables → rules.Step S → Result P Rule → Tables → W → Type 0
  Leads f p n t (rules.next s) (Ok q) u w = C.Shown q u w f s × KeptAll (R.part s).needs t u × (C.weight q ≤ C.weight p + 3 * n)
  Leads f p n t (rules.next s) (Err rule) u w = ⊥
  Leads f p n t (rules.refuse m s) (Ok q) u w = ⊥
  Leads f p n t (rules.refuse m s) (Err rule) u w = (number rule ≡ m) × KeptAll (R.part s).needs t u

  -- ANY LINE: the tables t and the working memory w become u and v, and the step is the rules' step
  pub record AnyLine (bs : List ℕ) (p : P) (t : Tables) (w : W) (r : Result P Rule) (u : Tables) (v : W) : Type 0 where
    pub steps : (f : Formula) (s : S) → C.Shown p t w f s → Light p (length bs)
        → Leads f p (length bs) t (R.judge (limits (lengths_of t)) f s bs) r u v

  -- n lines are read, and these are left
  pub record Going (bs : List ℕ) (f : Formula) (t : Tables) (n : ℕ) (ls : List (List ℕ)) (p : P) (u : Tables) (w : W) : Type 0 where
    pub state : S
    pub shown : C.Shown p u w f state
    pub rest
        : judge_lines (R.judge (limits (lengths_of t)) f) R.at_end (n + 1) ls state ≡ read_by R (limits (lengths_of t)) f bs
    pub kept : KeptAll (R.part state).needs t u
    pub light : C.weight p + 3 * bytes_in ls ≤ 3 * (length bs + 1)

  -- THE WHOLE CERTIFICATE, for every formula that is shown with nothing read yet
  abbrev pub CertificateRead : List ℕ → P → Tables → W → Ended → Tables → Type 0
  CertificateRead bs p t w r u = (f : Formula) → C.Shown p t w f (R.start f) → C.weight p ≡ 0
      → EndedAs R.part t (read_by R (limits (lengths_of t)) f bs) r u

-- the certificate of each formula that the tables hold, with as many clauses as it says
abbrev pub FormulaChecked : {S : Type 0} → Rules S → List ℕ → Reading → Tables → Ended → Tables → Type 0
FormulaChecked R bs r t e u =
    (f : Formula) → Holds r t.prefix t.matrix f → length f.matrix ≡ r.c → EndedAs R.part t (read_by R (limits (lengths_of t)) f bs) e u
