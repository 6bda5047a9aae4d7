-- Laws of the lines that store a clause. Assumes nothing.
use mathlib.Core.Path.{◌≡◌, refl, ap, sym, ◌∙◌, subst}
use mathlib.Core.Bool.{Bool, true, false}
use mathlib.Core.List.{List}
use mathlib.Core.Option.{Option, none, some}
use Prim.Native.Nat.{ℕ, ◌<◌, ◌≤◌}
use native.Mathlib.Omega.{arith}
use lib.Dec.{leb}
use lib.ListN.{length}
use lib.IntN.{ℤ}
use borrow.Author.Tests.{le-leb, lt-leb}
use Rattle.std.specs.Prelude.{Result, Err, Some, None}
use Rattle.rules.specs.Rule.{number}
use Rattle.rules.specs.declared.Rule.{Rule}
use Rattle.rules.specs.declared.Rule.TheVariants.{Malformed}
use Rattle.rules.proofs.RuleLaws.{number_not_zero}
use Rattle.lines.specs.Lines.{Token}
use Rattle.std.specs.List.{list_all as all}
use Rattle.lines.specs.Scan.{tokens_from}
use Rattle.lists.specs.declared.Measure.{Measure}
use Rattle.lists.specs.Lists.{lits_at, clause_at}
use Rattle.lists.proofs.ListLaws.{all_low, listed_low, listed_high}
use Rattle.lists.proofs.FormLaws.{Seen, clause_told, as_clause, bad_clause}
use Rattle.rules.specs.Basics.{greatest, maybe}
use Rattle.rules.specs.Literals.{Lits, vars}
use Rattle.rules.specs.Formula.{Formula}
use Rattle.rules.specs.Forms.{CertificateLine, clause_form, expansion, addition}
use Rattle.rules.specs.Needs.{Places, places, fits}
use Rattle.rules.specs.Limits.{limits}
use Rattle.rules.specs.Step as rules
use Rattle.rules.specs.Step.{refuse_in}
use Rattle.rules.specs.CertificateLines.{State, needing, in_sequence, in_range, kind_rules, accept, judge}
use Rattle.tables.specs.Tables.{Tables, tables, lengths_of, KeptAll}
use Rattle.tables.proofs.Frames.{all_self}
use Rattle.tables.proofs.Rooms.{no_room}
use Rattle.clauses.specs.Standing.{literals, proof_need, stored, Pended}
use Rattle.clauses.proofs.StoreLaws.{pended}
use Rattle.propagation.proofs.HeldLaws.{held_pended}
use Rattle.progress.specs.declared.Progress.{Progress}
use Rattle.progress.specs.Order.{no_additions, limit_broken}
use Rattle.reading.proofs.LineLaws.{state_of, leads_later}
use Rattle.progress.specs.declared.Work.{Work}
use Rattle.progress.specs.Shown.{needs_of, Shown, Stepped, ferat_rules, ferat_code}
use Rattle.steps.specs.Judges.{kind_judge, Pending, Judges}
use Rattle.steps.specs.Stands.{needs_with}
use Rattle.steps.proofs.JudgeLaws.{judge_order, judge_range, judge_room, judge_rest, refused_in}
use Rattle.progress.proofs.OrderLaws.{order_additions, Passed, Limited, within, beyond, full, limited}
use Rattle.steps.proofs.StandLaws.{Adds, expansions_add, additions_add, clause_needs_lem, clause_room}
use Rattle.progress.proofs.HintLaws.{hints_kept}
use Rattle.ferat.specs.Lines.{judged, Line}

-- the rules' answer by the form
module _ (form : List Token → Option CertificateLine) (bs : List ℕ) (at : ℕ) (t : Tables) (f : Formula) (s : State) where
  pub judged_none : form (tokens_from bs at) ≡ none → judged form bs at t f s ≡ rules.refuse 2 s
  unfolding judged
  judged_none e = ap (λ o. maybe o (rules.refuse 2 s) (judge (limits (lengths_of t)) f s)) e

  pub judged_some : {line : CertificateLine} → form (tokens_from bs at) ≡ some line → judged form bs at t f s ≡ judge (limits (lengths_of t)) f s line
  unfolding judged
  judged_some e = ap (λ o. maybe o (rules.refuse 2 s) (judge (limits (lengths_of t)) f s)) e

-- A LINE HAS MORE BYTES THAN LITERALS
pub count_low : {bs : List ℕ} {at : ℕ} {s : Bool} {n m : ℕ} → Seen bs at s n m → n < length bs
count_low o = let k = o.listing.further in let l = o.listing.within in omega arith

-- THE KINDS: what they need, their range and their turn
pub record ClauseKind (kind : Lits → CertificateLine) : Type 0 where
  pub adds : Adds kind
  pub range : (l : Places) (f : Formula) (c : Lits) → in_range (limits l) f (kind c) ≡ all (λ v. leb v 16384) (vars c)
  pub needs : (l : Places) (f : Formula) (s : State) (c : Lits) → (accept s (kind c)).needs ≡ s.needs

pub expansions : ClauseKind expansion
unfolding in_range accept
expansions = record { adds = expansions_add; range = λ l f c. refl; needs = λ l f s c. refl }

pub additions : ClauseKind addition
unfolding in_range accept
additions = record { adds = additions_add; range = λ l f c. refl; needs = λ l f s c. refl }

pub addition_turn : (s : State) (c : Lits) → in_sequence s (addition c) ≡ true
unfolding in_sequence
addition_turn s c = refl

pub expansion_turn : {p : Progress} {t : Tables} {w : Work} {b : Bool} → b ≡ no_additions p.counts → (c : Lits) (f : Formula) (s : State) → Shown p t w f s
    → in_sequence s (expansion c) ≡ b
unfolding in_sequence
expansion_turn e c f s sh = sym (e ∙ order_additions sh)

module _ {kind : Lits → CertificateLine} (kk : ClauseKind kind) (bs : List ℕ) (at : ℕ) (p : Progress) (t : Tables) (w : Work) where
  pub clause_bad : clause_at bs at ≡ None → (v : Work) → Line (clause_form kind) bs at p t w (Err Malformed) t v
  clause_bad h v = record {
    steps = λ f s sh l.
        refused_in f p (length bs) t t v Malformed (judged_none (clause_form kind) bs at t f s (bad_clause bs at h kind)) (all_self s.needs t);
  }

  module _ {q : Measure} (h : clause_at bs at ≡ Some q) where
    abbrev n : ℕ
    n = q.count

    abbrev m : ℕ
    m = q.largest

    seen : Seen bs at q.negative n m
    seen = clause_told bs at h

    abbrev c : Lits
    c = lits_at bs at

    judged_line : (f : Formula) (s : State) {x : rules.Step State} → judge (limits (lengths_of t)) f s (kind c) ≡ x → judged (clause_form kind) bs at t f s ≡ x
    judged_line f s e = judged_some (clause_form kind) bs at t f s (as_clause bs at seen kind) ∙ e

    low : (f : Formula) → m ≤ 16384 → in_range (limits (lengths_of t)) f (kind c) ≡ true
    low f l = kk.range (lengths_of t) f c ∙ all_low 16384 (vars c) ∙ le-leb (greatest (vars c)) 16384 (listed_low seen.listing l (omega arith))

    high : (f : Formula) → 16384 < m → in_range (limits (lengths_of t)) f (kind c) ≡ false
    high f l = kk.range (lengths_of t) f c ∙ all_low 16384 (vars c) ∙ lt-leb (greatest (vars c)) 16384 (listed_high seen.listing l)

    most : m ≤ 16384 → m ≡ greatest (vars c)
    most l = let k = seen.listing.most in omega arith

    needed : {f : Formula} {s : State} → Shown p t w f s → m ≤ 16384 → (needing s (kind c)).needs ≡ needs_with p n m
    needed sh l = clause_needs_lem sh kk.adds c seen.listing.count (most l)

    -- whether it is its turn
    abbrev Turn : Bool → Type 0
    Turn b = (f : Formula) (s : State) → Shown p t w f s → in_sequence s (kind c) ≡ b

    pub clause_late : Turn false → (v : Work) → Line (clause_form kind) bs at p t w (Err Malformed) t v
    clause_late turn v = record {
      steps = λ f s sh l.
          refused_in f p (length bs) t t v Malformed (judged_line f s (judge_order (limits (lengths_of t)) f s (kind c) (turn f s sh))) (all_self s.needs t);
    }

    module _ (turn : Turn true) where
      told : {k : ℕ} → k ≡ limit_broken p n m (length t.proof) (length t.marks) (length t.values) → Limited p n m (length t.proof) (length t.marks) (length t.values) k
      told e = subst (Limited p n m (length t.proof) (length t.marks) (length t.values)) (sym e) (limited p n m (length t.proof) (length t.marks) (length t.values))

      -- 3 or 15
      pub clause_limited : {k : Rule} → number k ≡ limit_broken p n m (length t.proof) (length t.marks) (length t.values) → (v : Work)
          → Line (clause_form kind) bs at p t w (Err k) t v
      clause_limited {k} e v = go (number k) refl (told e)
        where
          go : (i : ℕ) → number k ≡ i → Limited p n m (length t.proof) (length t.marks) (length t.values) i → Line (clause_form kind) bs at p t w (Err k) t v
          go i j (within o) = absurd (number_not_zero k j)
          go i j (beyond o) = record {
            steps = λ f s sh l.
                refused_in f p (length bs) t t v k
                (judged_line f s (judge_range (limits (lengths_of t)) f s (kind c) (turn f s sh) (high f o)) ∙ ap (λ i. rules.refuse i s) (sym j)) (all_self s.needs t);
          }
          go i j (full o x) = record {
            steps = λ f s sh l.
                refused_in f p (length bs) t t v k
                (judged_line f s (judge_room (limits (lengths_of t)) f s (kind c) (turn f s sh) (low f o)
                (ap (fits (lengths_of t)) (needed sh o)
                ∙ no_room (lengths_of t) (needs_with p n m) (λ r. x record { range = o; proof = r.proof; marks = r.marks; values = r.values })))
                ∙ ap (λ i. rules.refuse i (needing s (kind c))) (sym j))
                (all_self (needing s (kind c)).needs t);
          }

      -- the clause is stored
      module _ (z : 0 ≡ limit_broken p n m (length t.proof) (length t.marks) (length t.values)) (u₁ : List ℤ) (e : u₁ ≡ stored bs at p.store t.proof) where
        passed : Passed p n m (length t.proof) (length t.marks) (length t.values)
        passed = go 0 refl (told z)
          where
            go : (i : ℕ) → i ≡ 0 → Limited p n m (length t.proof) (length t.marks) (length t.values) i → Passed p n m (length t.proof) (length t.marks) (length t.values)
            go i j (within o) = o
            go i j (beyond o) = absurd (omega (arith, j))
            go i j (full o x) = absurd (omega (arith, j))

        abbrev t₁ : Tables
        t₁ = tables t.prefix t.matrix t.map u₁ t.marks t.values

        module _ {f : Formula} {s : State} (sh : Shown p t w f s) where
          there : Pended t.proof u₁ t.marks p.store n c
          there = pended seen.listing t.proof u₁ t.marks p.store passed.range passed.proof e sh.filled

          same : lengths_of t₁ ≡ lengths_of t
          same = ap (λ i. places (length t.prefix) (length t.matrix) (length t.map) i (length t.marks) (length t.values)) there.kept.long

          pub stored_shown : Shown p t₁ w f s
          stored_shown = record {
            formula = sh.formula;
            indexed = sh.indexed;
            mapping = sh.mapping;
            proper = sh.proper;
            copies = sh.copies;
            hints = hints_kept p.hinted t.proof u₁ (proof_need p.store) there.before s.hinted sh.hints;
            named = sh.named;
            fresh = sh.fresh;
            clauses = ap literals there.standing_then ∙ sh.clauses;
            filled = there.filled;
            held = held_pended there sh.held;
            expansions = sh.expansions;
            additions = sh.additions;
            deletions = sh.deletions;
            needs = sh.needs;
            room = ap (λ i. fits i (needs_of p)) same ∙ sh.room;
          }

          pending : Pending p t₁ n m c
          pending = record {
            stored = there.clause;
            count = seen.listing.count;
            most = most passed.range;
            range = passed.range;
            proof = omega (arith, passed.proof, there.kept.long);
            marks = passed.marks;
            values = passed.values;
          }

          kept : KeptAll (needs_with p n m) t t₁
          kept = let a = all_self (needs_with p n m) t in
              record { prefix = a.prefix; matrix = a.matrix; map = a.map; proof = there.kept; marks = a.marks; values = a.values }

          ends : (state_of ferat_rules ferat_code (kind_judge f s (kind c))).needs ≡ needs_with p n m
          ends = go (kind_rules f (needing s (kind c)) (kind c)) ∙ needed sh passed.range
            where
              go : (o : Option ℕ) → (state_of ferat_rules ferat_code (refuse_in (needing s (kind c)) o (rules.next (accept (needing s (kind c)) (kind c))))).needs ≡ (needing s (kind c)).needs
              go none = kk.needs (lengths_of t) f (needing s (kind c)) c
              go (some i) = refl

          rest : judge (limits (lengths_of t)) f s (kind c) ≡ kind_judge f s (kind c)
          rest =
              judge_rest (limits (lengths_of t)) f s (kind c) (turn f s sh) (low f passed.range)
              (ap (fits (lengths_of t)) (needed sh passed.range) ∙ clause_room sh n m passed.proof passed.marks passed.values)

        pub clause_judged : {r : Result Progress Rule} {u : Tables} {v : Work} → Judges kind p n m t₁ w r u v → Line (clause_form kind) bs at p t w r u v
        clause_judged {r} {u} {v} j = record {
          steps = λ f s sh l.
              subst (λ x. Stepped f p (length bs) t x r u v) (sym (judged_line f s (rest sh)))
              (leads_later ferat_rules ferat_code f p (length bs) t t₁ (kind_judge f s (kind c)) r u v (needs_with p n m) (ends sh) (kept sh)
              (subst (λ i. Stepped f p (length bs) t₁ (kind_judge f s (kind c)) r u v) (same sh)
              (j.steps c (length bs) f s (pending sh) (stored_shown sh) l (count_low seen))));
        }
