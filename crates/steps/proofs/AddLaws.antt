-- Laws of the judge of an addition. Assumes nothing.
use mathlib.Core.Path.{◌≡◌, refl, ap, ap₂, sym, ◌∙◌, subst}
use mathlib.Core.Bool.{Bool, true, false, not, ◌||◌, false≢true}
use Rattle.std.specs.Prelude.{Option, Some, None}
use mathlib.Core.List.{List, [], ◌∷◌, ◌++◌, map}
use Prim.Native.Nat.{ℕ, ◌+◌, ◌<◌}
use native.Mathlib.Omega.{arith}
use lib.ListN.{length, length-map}
use lib.IntN.{ℤ}
use Rattle.rules.specs.Literals.{Lits}
use Rattle.rules.specs.Codes.{code_of, lit_of}
use Rattle.rules.specs.Formula.{Formula}
use Rattle.rules.specs.declared.Rule.TheVariants.{HintCount, NotImplied}
use Rattle.rules.specs.Forms.{addition}
use Rattle.rules.specs.Limits.{limits}
use Rattle.rules.specs.Step.{◌unless◌, ◌then◌}
use Rattle.rules.specs.Propagation.{rup, rat}
use Rattle.rules.specs.CertificateLines.{State, state, needing, no_hint_left, kind_rules, accept}
use Rattle.rules.proofs.CodesLaw.{lits_codes}
use Rattle.tables.specs.Tables.{Tables, lengths_of, KeptAll}
use Rattle.tables.proofs.Frames.{all_self}
use Rattle.clauses.specs.Standing.{standing, places_of, pending}
use Rattle.trail.specs.declared.Trail.{Trail}
use Rattle.propagation.specs.declared.Propagation.{Propagation}
use Rattle.propagation.specs.Answers.{HeldIn}
use Rattle.redundancy.specs.Additions.{accepts, Decided, DecidedIn}
use Rattle.reading.specs.declared.Counts.{Counts}
use Rattle.progress.specs.declared.Progress.{Progress}
use Rattle.std.specs.Prelude.{Ok, Err}
use Rattle.progress.specs.Order.{hint_left}
use Rattle.progress.specs.declared.Work.{Work}
use Rattle.progress.specs.Shown.{clauses_of, Shown, Light, Stepped}
use Rattle.steps.specs.Judges.{kind_judge, Pending, Judges}
use Rattle.reading.specs.Counting.{one_addition}
use Rattle.steps.specs.Stands.{Standable, Stands}
use Rattle.steps.proofs.JudgeLaws.{judge_kind, judge_next, refused_in, accepted_in}
use Rattle.progress.proofs.OrderLaws.{hint_left_lem}
use Rattle.steps.proofs.StandLaws.{additions_add, clause_needs_lem, more_is, small_then, stood_kept, stood_shown, stood_weight}

-- what an addition's answer says
module _ (S : List (List ℕ)) (c : List ℕ) (t : Trail) (r : Option ℕ) (d : DecidedIn S c t r) where
  pub decided_yes : {q : ℕ} → r ≡ Some q → HeldIn S t × (accepts S c ≡ true)
  unfolding Decided
  decided_yes e = subst (DecidedIn S c t) e d

  pub decided_no : r ≡ None → accepts S c ≡ false
  unfolding Decided
  decided_no e = subst (DecidedIn S c t) e d

module _ {p : Progress} {t : Tables} {w : Work} {f : Formula} {s : State} (sh : Shown p t w f s) {n m : ℕ} {c : Lits} (o : Pending p t n m c) where
  kinds : (a : Bool) {b : Bool} → hint_left p ≡ not a → accepts (clauses_of p t) (pending t.proof p.store) ≡ b
      → kind_rules f (needing s (addition c)) (addition c) ≡ (10 unless a then 12 unless b)
  unfolding kind_rules accepts
  kinds a {b} h q = ap₂ (λ a b. 10 unless a then 12 unless b) (turn (no_hint_left s) a (sym (hint_left_lem sh) ∙ h)) implied
    where
      turn : (x y : Bool) → not x ≡ not y → x ≡ y
      turn true true e = refl
      turn true false e = absurd (false≢true e)
      turn false true e = absurd (false≢true (sym e))
      turn false false e = refl

      implied : rup s.standing c || rat s.standing c ≡ b
      implied = sym (ap₂ (λ S l. rup S l || rat S l) sh.clauses (ap (map lit_of) o.stored ∙ lits_codes c)) ∙ q

module _ (p : Progress) (n m : ℕ) (t : Tables) (w : Work) where
  -- "hint count": a hint is left over
  pub add_left : hint_left p ≡ true → (v : Work) → Judges addition p n m t w (Err HintCount) t v
  add_left h v = record {
    steps = λ c k f s o sh l i.
        refused_in f p k t t v HintCount (judge_kind (limits (lengths_of t)) f s (addition c) (kinds sh o false h refl)) (all_self _ t);
  }

  module _ (h : hint_left p ≡ false) (propagation : Propagation) (r : Option ℕ) {a b : List ℤ} {count : ℕ} (x : a ≡ t.proof) (z : b ≡ t.marks)
      (d : count ≡ places_of p.store) {codes : List ℕ} (y : codes ≡ pending t.proof p.store)
      (answered : HeldIn (standing a b count) w.propagation.trail
      → DecidedIn (standing a b count) codes propagation.trail r) where
    decided : HeldIn (clauses_of p t) w.propagation.trail → DecidedIn (clauses_of p t) (pending t.proof p.store) propagation.trail r
    decided g =
        let e : standing a b count ≡ clauses_of p t = ap₂ (λ a b. standing a b count) x z ∙ ap (standing t.proof t.marks) d in
        subst (λ S. DecidedIn S (pending t.proof p.store) propagation.trail r) e
        (subst (λ c. DecidedIn (standing a b count) c propagation.trail r) y
        (answered (subst (λ S. HeldIn S w.propagation.trail) (sym e) g)))

    -- "not implied"
    pub add_refused : r ≡ None → (v : Work) → Judges addition p n m t w (Err NotImplied) t v
    add_refused e v = record {
      steps = λ c k f s o sh l i.
          refused_in f p k t t v NotImplied
          (judge_kind (limits (lengths_of t)) f s (addition c)
          (kinds sh o true h (decided_no (clauses_of p t) (pending t.proof p.store) propagation.trail r (decided sh.held) e))) (all_self _ t);
    }

    -- it stands
    module _ {followed : ℕ} (e : r ≡ Some followed) {counts : Counts} (g : counts ≡ one_addition p.counts) {marks : List ℤ} {after : Propagation} {q : Progress}
        (stands : Standable p n t (record w { propagation = propagation })
        → Stands p counts n m t q (record t { marks = marks }) (record w { propagation = after })) where
      abbrev u : Tables
      u = record t { marks = marks }

      abbrev v : Work
      v = record w { propagation = after }

      module _ (c : Lits) (k : ℕ) (f : Formula) (s : State) (o : Pending p t n m c) (sh : Shown p t w f s) (l : Light p k) (i : n < k) where
        answer : HeldIn (clauses_of p t) propagation.trail × (accepts (clauses_of p t) (pending t.proof p.store) ≡ true)
        answer = decided_yes (clauses_of p t) (pending t.proof p.store) propagation.trail r (decided sh.held) e

        stood : Stands p counts n m t q u v
        stood = stands record {
          filled = sh.filled;
          count = o.count ∙ sym (length-map c code_of) ∙ ap length (sym o.stored);
          small = small_then sh o l i;
          room = o.marks;
          held = answer.0;
        }

        one : counts.additions ≡ s.additions + 1
        one = ap (λ (x : Counts). x.additions) g ∙ more_is (omega (arith, l)) ∙ ap (λ x. x + 1) sh.additions

        next_state : Stepped f p k t (kind_judge f s (addition c)) (Ok q) u v
        unfolding accept
        next_state =
            accepted_in f p k t _ _ (judge_next (limits (lengths_of t)) f s (addition c) (kinds sh o true h answer.1)) (
              subst (λ x. Shown q u v f
                  (state s.mapped s.hinted (s.standing ++ (c ∷ [])) s.expansions (s.additions + 1) s.deletions x))
                  (sym (clause_needs_lem sh additions_add c o.count o.most))
                  (stood_shown sh o counts stood.next stood.stood after stood.held s.expansions (s.additions + 1) s.deletions
                  (ap (λ (x : Counts). x.expansions) g ∙ sh.expansions) one (ap (λ (x : Counts). x.deletions) g ∙ sh.deletions)
                  (λ a. omega (arith, a, one))),
              subst (λ x. KeptAll x t u) (sym (clause_needs_lem sh additions_add c o.count o.most))
                  (stood_kept sh o counts stood.next stood.stood),
              stood_weight sh o counts stood.next stood.stood i
                  (omega (arith, one, sh.additions, ap (λ (x : Counts). x.expansions) g, ap (λ (x : Counts). x.deletions) g)),
            )

      pub add_next : Judges addition p n m t w (Ok q) u v
      add_next = record { steps = next_state }
