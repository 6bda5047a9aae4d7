-- A pending clause that stands from now on. Assumes nothing.
use Rattle.std.specs.Prelude.{◌≡◌, ℕ, ◌≤◌, ◌<◌, max, length}
use Rattle.rules.specs.Needs.{Places, places}
use Rattle.tables.specs.Tables.{Tables}
use Rattle.clauses.specs.Standing.{standing, places_of, pending, proof_need, marks_need, grown, Filled, Stood}
use Rattle.propagation.specs.Answers.{HeldIn}
use Rattle.reading.specs.declared.Counts.{Counts}
use Rattle.reading.specs.Counting.{one_deletion}
use Rattle.progress.specs.declared.Progress.{Progress}
use Rattle.progress.specs.declared.Work.{Work}
use Rattle.progress.specs.Shown.{clauses_of}

-- what is needed with a clause of n literals more, copies up to m
abbrev pub needs_with : Progress → ℕ → ℕ → Places
needs_with p n m =
    places p.formula.v p.formula.used p.mapped.used (proof_need (grown p.store n)) (marks_need (grown p.store n))
    (max p.mapped.largest m)

-- the progress then
abbrev pub stood_in : Progress → Counts → ℕ → ℕ → ℕ → Progress
stood_in p counts n m followed = record {
  formula = p.formula;
  mapped = record { used = p.mapped.used; largest = max p.mapped.largest m };
  hinted = p.hinted;
  store = grown p.store n;
  followed = followed;
  counts = counts;
}

-- the progress after a deletion
abbrev pub deleted_in : Progress → Progress
deleted_in p = record {
  formula = p.formula;
  mapped = p.mapped;
  hinted = p.hinted;
  store = p.store;
  followed = 0;
  counts = one_deletion p.counts;
}

-- THE PENDING CLAUSE, of n literals, may stand
pub record Standable (p : Progress) (n : ℕ) (t : Tables) (w : Work) : Type 0 where
  pub filled : Filled t.proof t.marks p.store
  pub count : n ≡ length (pending t.proof p.store)
  pub small : proof_need (grown p.store n) < 1073741824
  pub room : marks_need (grown p.store n) ≤ length t.marks
  pub held : HeldIn (clauses_of p t) w.propagation.trail

-- it stands
pub record Stands (p : Progress) (counts : Counts) (n m : ℕ) (t : Tables) (q : Progress) (u : Tables) (v : Work) : Type 0 where
  pub next : q ≡ stood_in p counts n m q.followed
  pub stood : Stood t.proof t.marks u.marks p.store n
  pub held : HeldIn (standing t.proof u.marks (places_of (grown p.store n))) v.propagation.trail
