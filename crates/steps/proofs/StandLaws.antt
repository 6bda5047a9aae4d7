-- Laws of a pending clause that stands from now on. Assumes nothing.
use mathlib.Core.Path.{◌≡◌, refl, ap, ap₂, sym, ◌∙◌, subst}
use mathlib.Core.Bool.{true}
use mathlib.Core.List.{List, [], ◌∷◌, ◌++◌}
use mathlib.Core.Option.{Option, none, some}
use Prim.Native.Nat.{ℕ, ◌+◌, ◌*◌, ◌%◌, ◌<◌, ◌≤◌, max}
use native.Mathlib.Omega.{arith}
use lib.ListN.{length}
use lib.IntN.{ℤ}
use Rattle.rules.specs.Basics.{greatest}
use Rattle.rules.specs.Literals.{Lits, vars}
use Rattle.rules.specs.Formula.{Formula}
use Rattle.rules.specs.Forms.{CertificateLine, expansion, addition}
use Rattle.rules.specs.Needs.{places, fits, together, line_needs}
use Rattle.rules.specs.CertificateLines.{State, state, needing}
use Rattle.tables.specs.Tables.{Tables, lengths_of, KeptAll}
use Rattle.tables.proofs.Frames.{all_self}
use Rattle.tables.proofs.Rooms.{fits_room, room_fits, places_same}
use Rattle.clauses.specs.Standing.{standing, places_of, literals, proof_need, marks_need, grown, Stood, StandsNow}
use Rattle.clauses.specs.declared.Store.{Store}
use Rattle.clauses.proofs.StandingLaws.{literals_more}
use Rattle.clauses.proofs.StoreLaws.{proof_grown, marks_grown, place_new}
use Rattle.propagation.specs.declared.Propagation.{Propagation}
use Rattle.propagation.proofs.HeldLaws.{held_stood}
use Rattle.propagation.specs.Answers.{HeldIn}
use Rattle.reading.specs.declared.Counts.{Counts}
use Rattle.std.specs.Prelude as prelude
use Rattle.progress.specs.declared.Progress.{Progress}
use Rattle.progress.specs.declared.Work.{Work}
use Rattle.progress.specs.Shown.{HintsShown, needs_of, Shown, weight, Light}
use Rattle.steps.specs.Judges.{Pending}
use Rattle.steps.specs.Stands.{needs_with, stood_in, Standable, Stands}

-- A KIND OF LINE that makes its clause stand: what it needs
pub record Adds (kind : Lits → CertificateLine) : Type 0 where
  pub needs : (c : Lits) → line_needs (kind c) ≡ places 0 0 0 (length c + 1) 1 (greatest (vars c))

pub expansions_add : Adds expansion
unfolding line_needs
expansions_add = record { needs = λ c. refl }

pub additions_add : Adds addition
unfolding line_needs
additions_add = record { needs = λ c. refl }

module _ {p : Progress} {t : Tables} {w : Work} {f : Formula} {s : State} (sh : Shown p t w f s) where
  pub clause_needs_lem : {kind : Lits → CertificateLine} → Adds kind → (c : Lits) {n m : ℕ} → n ≡ length c → m ≡ greatest (vars c)
      → (needing s (kind c)).needs ≡ needs_with p n m
  unfolding together
  clause_needs_lem k c {n} {m} i j =
      let a = proof_grown p.store n in
      let b = marks_grown p.store n in
      ap₂ together sh.needs (k.needs c)
      ∙ places_same (omega arith) (omega arith) (omega arith) (omega arith) (omega arith) (ap (max p.mapped.largest) (sym j))

  -- the places for the clause are there, in all six tables
  module _ (n m : ℕ) where
    pub clause_room : proof_need (grown p.store n) ≤ length t.proof → marks_need (grown p.store n) ≤ length t.marks
        → max p.mapped.largest m ≤ length t.values → fits (lengths_of t) (needs_with p n m) ≡ true
    clause_room i j k =
        let r = fits_room (lengths_of t) (needs_of p) sh.room in
        room_fits (lengths_of t) (needs_with p n m) record {
          prefix = r.prefix;
          matrix = r.matrix;
          map = r.map;
          proof = i;
          marks = j;
          values = k;
        }

-- hints stay where more of the proof table is in use
pub hints_higher : (h : prelude.Option ℕ) (proof : List ℤ) (used more : ℕ) (o : Option (List ℕ)) → used ≤ more → HintsShown h proof used o → HintsShown h proof more o
hints_higher h proof used more none l e = e
hints_higher h proof used more (some ns) l e = (e.0, let k = e.1 in omega arith, e.2)

-- one line more, where counts are small
pub more_is : {n : ℕ} → n < 1073741824 → n % 1073741824 + 1 ≡ n + 1
more_is h = omega (arith, h)

-- IT STANDS
module _ {p : Progress} {t : Tables} {w : Work} {f : Formula} {s : State} (sh : Shown p t w f s) {n m : ℕ} {c : Lits} (o : Pending p t n m c) where
  pub small_then : {k : ℕ} → Light p k → n < k → proof_need (grown p.store n) < 1073741824
  small_then l i = omega (arith, l, i, proof_grown p.store n)

  higher : proof_need p.store ≤ proof_need (grown p.store n)
  higher = omega (arith, proof_grown p.store n)

  module _ (counts : Counts) {marks : List ℤ} {q : Progress} (next : q ≡ stood_in p counts n m q.followed)
      (stood : Stood t.proof t.marks marks p.store n) where
    abbrev u : Tables
    u = record t { marks = marks }

    pub stood_kept : KeptAll (needs_with p n m) t u
    stood_kept =
        let a = all_self (needs_with p n m) t in
        record { prefix = a.prefix; matrix = a.matrix; map = a.map; proof = a.proof; marks = stood.kept; values = a.values }

    room_then : fits (lengths_of u) (needs_with p n m) ≡ true
    room_then =
        ap (λ i. fits (places (length t.prefix) (length t.matrix) (length t.map) (length t.proof) i (length t.values)) (needs_with p n m))
        stood.kept.long ∙ clause_room sh n m o.proof o.marks o.values

    pub stood_shown : (propagation : Propagation) → HeldIn (standing t.proof marks (places_of (grown p.store n))) propagation.trail → (e a d : ℕ) → counts.expansions ≡ e → counts.additions ≡ a → counts.deletions ≡ d → (counts.expansions + counts.additions ≡ 0 → ⊥)
        → Shown q u (record w { propagation = propagation }) f (state s.mapped s.hinted (s.standing ++ (c ∷ [])) e a d (needs_with p n m))
    stood_shown propagation held e a d i j k z =
        subst (λ r. Shown r u (record w { propagation = propagation }) f (state s.mapped s.hinted (s.standing ++ (c ∷ [])) e a d (needs_with p n m))) (sym next) record {
          formula = sh.formula;
          indexed = sh.indexed;
          mapping = sh.mapping;
          proper = sh.proper;
          copies = omega (arith, sh.copies, o.range);
          hints = hints_higher p.hinted t.proof (proof_need p.store) (proof_need (grown p.store n)) s.hinted higher sh.hints;
          named = sh.named;
          fresh = λ x y. absurd (z x);
          clauses =
              ap literals (stood.standing_then ∙ ap (λ l. standing t.proof t.marks (places_of p.store) ++ (l ∷ [])) o.stored)
              ∙ literals_more (standing t.proof t.marks (places_of p.store)) c ∙ ap (λ S. S ++ (c ∷ [])) sh.clauses;
          filled = stood.filled;
          held = held;
          expansions = i;
          additions = j;
          deletions = k;
          needs = refl;
          room = room_then;
        }

    -- a line of k bytes, more than it has literals
    low : {k : ℕ} → n < k
        → counts.expansions + counts.additions + counts.deletions ≤ p.counts.expansions + p.counts.additions + p.counts.deletions + 1
        → weight (stood_in p counts n m q.followed) ≤ weight p + 3 * k
    low l e = omega (arith, l, e, proof_grown p.store n, marks_grown p.store n)

    pub stood_weight : {k : ℕ} → n < k
        → counts.expansions + counts.additions + counts.deletions ≤ p.counts.expansions + p.counts.additions + p.counts.deletions + 1
        → weight q ≤ weight p + 3 * k
    stood_weight {k} l e = subst (λ r. weight r ≤ weight p + 3 * k) (sym next) (low l e)

-- WHAT THE CODE DID
module _ (p : Progress) (counts : Counts) (n m : ℕ) (t : Tables) (w : Work) where
  abbrev standing_as : ℕ → Store → ℕ → Progress
  standing_as largest store followed = record {
    formula = p.formula;
    mapped = record { used = p.mapped.used; largest = largest };
    hinted = p.hinted;
    store = store;
    followed = followed;
    counts = counts;
  }

  pub stands_then : {largest : ℕ} → largest ≡ max p.mapped.largest m → {place : ℕ} → place ≡ places_of p.store → (store : Store) (marks : List ℤ)
      → StandsNow t.marks marks p.store n store → {a b : List ℤ} {count : ℕ} → a ≡ t.proof → b ≡ marks → count ≡ places_of store
      → (followed : ℕ) (propagation : Propagation)
      → (HeldIn (standing a b count) w.propagation.trail → place < count
      → HeldIn (standing a b count) propagation.trail)
      → Standable p n t w
      → Stands p counts n m t (standing_as largest store followed) (record t { marks = marks }) (record w { propagation = propagation })
  stands_then {largest} e {place} g store marks stand {a} {b} {count} i j k followed propagation attach o =
      let d = stand o.small o.room in
      let st = d.1 t.proof o.filled o.count in
      let q : count ≡ places_of (grown p.store n) = k ∙ ap places_of d.0 in
      let z : standing a b count ≡ standing t.proof marks (places_of (grown p.store n))
      = ap₂ (λ a b. standing a b count) i j ∙ ap (standing t.proof marks) q in
      record {
        next = ap₂ (λ l s. standing_as l s followed) e d.0;
        stood = st;
        held =
            subst (λ S. HeldIn S propagation.trail) z
            (attach (subst (λ S. HeldIn S w.propagation.trail) (sym z) (held_stood st o.held))
            (omega (arith, g, q, place_new p.store n)));
      }
