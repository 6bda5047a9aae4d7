-- What the progress, the tables and the working memory show of the rules' state between two lines of a FERP certificate. Assumes nothing.
use Rattle.std.specs.Prelude.{◌≡◌, true, List, ℕ, ◌+◌, ◌≤◌, length}
use Rattle.rules.specs.Formula.{Formula}
use Rattle.rules.specs.Needs.{Places, places, fits}
use Rattle.rules.specs.Least.{Proper}
use Rattle.rules.specs.Step.{judge_bytes}
use Rattle.ferp_rules.specs.Forms.{ferp_line}
use Rattle.ferp_rules.specs.Lines.{Derived, start, judge, certificate_end}
use Rattle.tables.specs.Tables.{Tables, lengths_of}
use Rattle.formula.specs.Shown.{FormulaShown}
use Rattle.mapping.specs.Shown.{MappingShown}
use Rattle.matrix.specs.Index.{Indexed}
use Rattle.clauses.specs.Standing.{standing, places_of, literals, proof_need, marks_need, Filled}
use Rattle.indexes.specs.Shown.{IndexesShown}
use Rattle.resolvents.specs.Marks.{Clear}
use Rattle.reading.specs.Lines.{Rules, Code}
use Rattle.derivations.specs.declared.Progress.{Progress}
use Rattle.derivations.specs.declared.Work.{Work}

-- the working memory w with these parts for its own: no other part shows a state, and the judge of a clause line depends on no other
abbrev pub beside : Work → List ℕ → List ℕ → List ℕ → List ℕ → Work
beside w starts noted indexes seen = record w { starts = starts; noted = noted; indexes = indexes; seen = seen }

-- the clauses derived
abbrev pub clauses_of : Progress → Tables → List (List ℕ)
clauses_of p t = standing t.proof t.marks (places_of p.store)

-- the places in use: of the proof table one more for each clause, which nothing is written to
abbrev pub needs_of : Progress → Places
needs_of p =
    places p.formula.v p.formula.used p.mapped.used (proof_need p.store + places_of p.store) (marks_need p.store) p.mapped.largest

-- BETWEEN TWO LINES: all that is true of the progress p, the tables t and the working memory w, for the formula f and the state s
pub record Shown (p : Progress) (t : Tables) (w : Work) (f : Formula) (s : Derived) : Type 0 where
  pub formula : FormulaShown p.formula.v p.formula.c p.formula.used t.prefix t.matrix f
  pub indexed : Indexed w.starts f
  pub mapping : MappingShown t.map t.values w.noted p.mapped.used s.state.mapped
  pub proper : Proper f s.state.mapped
  pub copies : p.mapped.largest ≤ 16384
  pub clauses : literals (clauses_of p t) ≡ s.state.standing
  pub filled : Filled t.proof t.marks p.store
  pub count : places_of p.store ≡ length s.indexes
  pub paired : length s.indexes ≡ length s.state.standing
  pub indexes : IndexesShown w.indexes s.indexes
  pub clear : Clear w.seen
  pub expansions : p.counts.expansions ≡ s.state.expansions
  pub additions : p.counts.additions ≡ s.state.additions
  pub deletions : p.counts.deletions ≡ s.state.deletions
  pub needs : s.state.needs ≡ needs_of p
  pub room : fits (lengths_of t) (needs_of p) ≡ true

-- A measure that bounds the places of map, proof and marks in use and the counts: a line of n bytes adds at most 3n to it.
abbrev pub weight : Progress → ℕ
weight p = p.mapped.used + proof_need p.store + marks_need p.store + p.counts.expansions + p.counts.additions + p.counts.deletions

-- THE RULES AND THE CODE of FERP, as the reading of a certificate has them
abbrev pub ferp_rules : Rules Derived
ferp_rules = record { part = λ s. s.state; judge = λ l f. judge_bytes ferp_line (judge l f); at_end = certificate_end; start = start }

abbrev pub ferp_code : Code Derived Progress Work
ferp_code = record { Shown = Shown; counts = λ p. p.counts; weight = weight }
