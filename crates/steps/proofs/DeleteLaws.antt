-- Laws of the judge of a deletion. Assumes nothing.
use mathlib.Core.Path.{◌≡◌, refl, ap, ap₂, sym, ◌∙◌, subst}
use mathlib.Core.Bool.{Bool, true, false}
use mathlib.Core.List.{List, map}
use Prim.Native.Nat.{ℕ, ◌+◌, ◌*◌, ◌<◌, ◌≤◌}
use native.Mathlib.Omega.{arith}
use lib.ListN.{length}
use lib.IntN.{ℤ}
use Rattle.std.specs.List.{list_any as any}
use Rattle.cells.specs.Cells.{Kept}
use Rattle.rules.specs.Basics.{without_first}
use Rattle.rules.specs.Literals.{Lits, same_set}
use Rattle.rules.specs.Codes.{code_of}
use Rattle.rules.specs.Formula.{Formula}
use Rattle.rules.specs.declared.Rule.TheVariants.{HintCount, NothingToDelete}
use Rattle.rules.specs.Forms.{deletion}
use Rattle.rules.specs.Needs.{places, fits, together, line_needs}
use Rattle.rules.specs.Limits.{limits}
use Rattle.rules.specs.Step.{◌unless◌, ◌then◌}
use Rattle.rules.specs.CertificateLines.{State, needing, no_hint_left, kind_rules, accept}
use Rattle.rules.proofs.CodesLaw.{lits_codes}
use Rattle.rules.proofs.Kit.{not_t, not_f}
use Rattle.tables.specs.Tables.{Tables, lengths_of, KeptAll}
use Rattle.tables.proofs.Frames.{all_self}
use Rattle.tables.proofs.Rooms.{places_same}
use Rattle.clauses.specs.Standing.{standing, places_of, marks_need}
use Rattle.trail.specs.declared.Trail.{Trail}
use Rattle.trail.specs.Trail.{Ready, ReadyIn}
use Rattle.propagation.specs.Answers.{Held, HeldIn}
use Rattle.propagation.proofs.MoveLaws.{held_empty}
use Rattle.deletion.specs.Deletions.{ListedIn, list_in, Deleted}
use Rattle.deletion.proofs.DeletionLaws.{deleted_as}
use Rattle.reading.specs.Counting.{more}
use Rattle.progress.specs.declared.Progress.{Progress}
use Rattle.std.specs.Prelude.{Ok, Err}
use Rattle.progress.specs.Order.{hint_left}
use Rattle.progress.specs.declared.Work.{Work}
use Rattle.progress.specs.Shown.{needs_of, Shown, weight, Light, Stepped}
use Rattle.steps.specs.Judges.{kind_judge, Listing, Deletes}
use Rattle.steps.specs.Stands.{deleted_in}
use Rattle.steps.proofs.JudgeLaws.{judge_kind, judge_next, refused_in, accepted_in}
use Rattle.progress.proofs.OrderLaws.{hint_left_lem}
use Rattle.steps.proofs.StandLaws.{more_is}

module _ {p : Progress} {t : Tables} {w : Work} {f : Formula} {s : State} (sh : Shown p t w f s) (c : Lits) where
  kinds : {a b : Bool} → no_hint_left s ≡ a → any (same_set c) s.standing ≡ b
      → kind_rules f (needing s (deletion c)) (deletion c) ≡ (10 unless a then 13 unless b)
  unfolding kind_rules
  kinds i j = ap₂ (λ a b. 10 unless a then 13 unless b) i j

  -- a deletion needs nothing
  pub deletion_needs : (needing s (deletion c)).needs ≡ needs_of p
  unfolding together line_needs
  deletion_needs =
      ap (λ x. together x (line_needs (deletion c))) sh.needs
      ∙ places_same (omega arith) (omega arith) (omega arith) (omega arith) (omega arith) (omega arith)

module _ (p : Progress) (t : Tables) (w : Work) where
  -- "hint count": a hint is left over
  pub delete_left : hint_left p ≡ true → (v : Work) → Deletes p t w (Err HintCount) t v
  delete_left h v = record {
    steps = λ c k f s trail o sh l i.
        refused_in f p k t t v HintCount
        (judge_kind (limits (lengths_of t)) f s (deletion c) (kinds sh c (not_t (no_hint_left s) (sym (hint_left_lem sh) ∙ h)) refl)) (all_self _ t);
  }

  module _ (h : hint_left p ≡ false) {count : ℕ} (j : count ≡ places_of p.store) (marks : List ℤ) (after : Trail) (none : after.length ≡ 0) {r : Bool}
      (d : ListedIn w.propagation.trail → Deleted (list_in w.propagation.trail) t.proof t.marks marks count r × ReadyIn after) where
    abbrev u : Tables
    u = record t { marks = marks }

    abbrev v : Work
    v = record w { propagation = record w.propagation { trail = after } }

    module _ (c : Lits) (f : Formula) (s : State) (trail : Trail) (o : Listing c w.propagation.trail) (sh : Shown p t (record w { propagation = record w.propagation { trail = trail } }) f s) where
      deleted : Deleted (map code_of c) t.proof t.marks marks (places_of p.store) r
      deleted =
          subst (λ i. Deleted (map code_of c) t.proof t.marks marks i r) j
          (deleted_as (list_in w.propagation.trail) (map code_of c) o.same t.proof t.marks marks count r (d o.listed).0)

      empty : HeldIn (standing t.proof marks (places_of p.store)) after
      empty =
          subst (λ n. Held (standing t.proof marks (places_of p.store)) after.falses after.literals n) (sym none)
          (held_empty (standing t.proof marks (places_of p.store)) after.falses after.literals (subst (Ready after.falses after.literals) none (d o.listed).1))

      free : no_hint_left s ≡ true
      free = not_f (no_hint_left s) (sym (hint_left_lem sh) ∙ h)

      answer : any (same_set c) s.standing ≡ r
      answer = sym (deleted.answer ∙ ap₂ (λ a b. any (same_set a) b) (lits_codes c) sh.clauses)

      frame : Kept (marks_need p.store) t.marks marks
      frame = deleted.kept p.store refl

      kept : KeptAll (needing s (deletion c)).needs t u
      kept =
          subst (λ i. KeptAll i t u) (sym (deletion_needs sh c))
          (let a = all_self (needs_of p) t in
          record { prefix = a.prefix; matrix = a.matrix; map = a.map; proof = a.proof; marks = frame; values = a.values })

      module _ (k : ℕ) (l : Light p k) where
        shown : Shown (deleted_in p) u v f (accept (needing s (deletion c)) (deletion c))
        unfolding accept
        shown = record {
          formula = sh.formula;
          indexed = sh.indexed;
          mapping = sh.mapping;
          proper = sh.proper;
          copies = sh.copies;
          hints = sh.hints;
          named = sh.named;
          fresh = sh.fresh;
          clauses = deleted.standing_then ∙ ap₂ (λ a b. without_first (same_set a) b) (lits_codes c) sh.clauses;
          filled = deleted.filled p.store sh.filled;
          held = empty;
          expansions = sh.expansions;
          additions = sh.additions;
          deletions = more_is (omega (arith, l)) ∙ ap (λ i. i + 1) sh.deletions;
          needs = deletion_needs sh c;
          room =
              ap (λ i. fits (places (length t.prefix) (length t.matrix) (length t.map) (length t.proof) i (length t.values)) (needs_of p)) frame.long
              ∙ sh.room;
        }

        one : more p.counts.deletions ≡ p.counts.deletions + 1
        one = more_is (omega (arith, l))

        lighter : 0 < k → weight (deleted_in p) ≤ weight p + 3 * k
        lighter i = omega (arith, one, i)

    -- "nothing to delete"
    pub delete_none : r ≡ false → (v : Work) → Deletes p t w (Err NothingToDelete) u v
    delete_none q v = record {
      steps = λ c k f s trail o sh l i.
          refused_in f p k t u v NothingToDelete
          (judge_kind (limits (lengths_of t)) f s (deletion c) (kinds sh c (free c f s trail o sh) (answer c f s trail o sh ∙ q)))
          (kept c f s trail o sh);
    }

    pub delete_next : r ≡ true → {q : Progress} → q ≡ deleted_in p → Deletes p t w (Ok q) u v
    delete_next e {q} g = subst (λ q. Deletes p t w (Ok q) u v) (sym g) record { steps = next_state }
      where
        next_state : (c : Lits) (k : ℕ) (f : Formula) (s : State) (trail : Trail) → Listing c w.propagation.trail
            → Shown p t (record w { propagation = record w.propagation { trail = trail } }) f s → Light p k → 0 < k
            → Stepped f p k t (kind_judge f s (deletion c)) (Ok (deleted_in p)) u v
        next_state c k f s trail o sh l i =
            accepted_in f p k t u v
            (judge_next (limits (lengths_of t)) f s (deletion c) (kinds sh c (free c f s trail o sh) (answer c f s trail o sh ∙ e)))
            (shown c f s trail o sh k l, unfold accept in kept c f s trail o sh, lighter c f s trail o sh k l i)
