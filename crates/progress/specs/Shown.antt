-- What the progress, the tables and the working memory show of the rules' state between two lines. Assumes nothing.
use Rattle.std.specs.Prelude.{◌≡◌, true, false, List, map, ℕ, ◌+◌, ◌*◌, ◌≤◌, ◌<◌, length, ℤ, Result}
use Rattle.std.specs.Prelude as prelude
use Rattle.std.proofs.Math.Option.{Option, none, some}
use Rattle.cells.specs.Cells.{list_at}
use Rattle.lists.specs.Stores.{in_range}
use Rattle.rules.specs.Basics.{maybe}
use Rattle.rules.specs.declared.Rule.{Rule}
use Rattle.rules.specs.Formula.{Formula}
use Rattle.rules.specs.Needs.{Places, places, fits}
use Rattle.rules.specs.Least.{Proper}
use Rattle.rules.specs.Step as rules
use Rattle.rules.specs.Step.{judge_bytes}
use Rattle.rules.specs.Forms.{certificate_line}
use Rattle.rules.specs.CertificateLines.{State, start, judge, certificate_end}
use Rattle.tables.specs.Tables.{Tables, lengths_of}
use Rattle.reading.specs.Lines as reading
use Rattle.reading.specs.Lines.{Rules, Code, Leads}
use Rattle.formula.specs.Shown.{FormulaShown}
use Rattle.mapping.specs.Shown.{MappingShown}
use Rattle.matrix.specs.Index.{Indexed}
use Rattle.clauses.specs.Standing.{standing, places_of, literals, proof_need, marks_need, empty_above, Filled}
use Rattle.propagation.specs.Answers.{HeldIn}
use Rattle.progress.specs.declared.Progress.{Progress}
use Rattle.progress.specs.declared.Work.{Work}

-- THE HINTS: the proof table begins with them, each as twice its number, and a 0
abbrev pub HintsShown : prelude.Option ℕ → List ℤ → ℕ → Option (List ℕ) → Type 0
HintsShown h proof used none = h ≡ prelude.None
HintsShown h proof used (some ns) = (h ≡ prelude.Some (length ns)) × (length ns < used) × (list_at proof 0 ≡ map (λ k. 2 * k) ns)

-- the standing clauses
abbrev pub clauses_of : Progress → Tables → List (List ℕ)
clauses_of p t = standing t.proof t.marks (places_of p.store)

-- the places in use
abbrev pub needs_of : Progress → Places
needs_of p =
    places p.formula.v p.formula.used p.mapped.used (proof_need p.store) (marks_need p.store) p.mapped.largest

-- BETWEEN TWO LINES: all that is true of the progress p, the tables t and the working memory w, for the formula f and the state s
pub record Shown (p : Progress) (t : Tables) (w : Work) (f : Formula) (s : State) : Type 0 where
  pub formula : FormulaShown p.formula.v p.formula.c p.formula.used t.prefix t.matrix f
  pub indexed : Indexed w.starts f
  pub mapping : MappingShown t.map t.values w.noted p.mapped.used s.mapped
  pub proper : Proper f s.mapped
  pub copies : p.mapped.largest ≤ 16384
  pub hints : HintsShown p.hinted t.proof (proof_need p.store) s.hinted
  pub named : maybe s.hinted true (in_range p.formula.c) ≡ true
  pub fresh : p.counts.expansions + p.counts.additions ≡ 0 → p.hinted ≡ prelude.None → p.store ≡ empty_above 0
  pub clauses : literals (clauses_of p t) ≡ s.standing
  pub filled : Filled t.proof t.marks p.store
  pub held : HeldIn (clauses_of p t) w.propagation.trail
  pub expansions : p.counts.expansions ≡ s.expansions
  pub additions : p.counts.additions ≡ s.additions
  pub deletions : p.counts.deletions ≡ s.deletions
  pub needs : s.needs ≡ needs_of p
  pub room : fits (lengths_of t) (needs_of p) ≡ true

-- A measure that bounds the places of map, proof and marks in use and the three counts: a line of n bytes adds at most 3n to it.
abbrev pub weight : Progress → ℕ
weight p = p.mapped.used + proof_need p.store + marks_need p.store + p.counts.expansions + p.counts.additions + p.counts.deletions

-- THE RULES AND THE CODE of FERAT, as the reading of a certificate has them
abbrev pub ferat_rules : Rules State
ferat_rules = record { part = λ s. s; judge = λ l f. judge_bytes certificate_line (judge l f); at_end = certificate_end; start = start }

abbrev pub ferat_code : Code State Progress Work
ferat_code = record { Shown = Shown; counts = λ p. p.counts; weight = weight }

-- a line of n bytes leaves the measure at most 2^22
abbrev pub Light : Progress → ℕ → Type 0
Light = reading.Light ferat_rules ferat_code

-- WHAT A LINE OF n BYTES LEADS TO: the rules' step and the code's; the tables before, the tables and the working memory after
abbrev pub Stepped : Formula → Progress → ℕ → Tables → rules.Step State → Result Progress Rule → Tables → Work → Type 0
Stepped f p n t x r u w = Leads ferat_rules ferat_code f p n t x r u w
