-- Laws of the `o` line. Assumes nothing.
use mathlib.Core.Path.{◌≡◌, refl, ap, sym, ◌∙◌, subst}
use mathlib.Core.Bool.{Bool, true, false}
use mathlib.Core.List.{List}
use Prim.Native.Nat.{ℕ, ◌+◌, ◌*◌, ◌%◌, ◌<◌, ◌≤◌}
use native.Mathlib.Omega.{arith}
use lib.Dec.{leb}
use lib.ListN.{length, length-map}
use lib.IntN.{ℤ}
use borrow.Author.Tests.{le-leb, lt-leb}
use Rattle.std.specs.Prelude.{Ok, Err, Some, None}
use Rattle.rules.specs.declared.Rule.TheVariants.{Malformed, OutOfRange, TableFull}
use Rattle.std.specs.Option.{is_some}
use Rattle.cells.proofs.Laws.{kept_later}
use Rattle.lists.specs.declared.Measure.{Measure}
use Rattle.lists.specs.Lists.{lits_at, clause_at}
use Rattle.lists.specs.Stores.{codes_at, puts}
use Rattle.lists.proofs.ListLaws.{all_low, listed_low, listed_high, listed_range}
use Rattle.lists.proofs.FormLaws.{Seen, clause_told, as_hints, not_hints, bad_hints}
use Rattle.lists.proofs.StoreLaws.{Stored, list_in_table, plain_codes}
use Rattle.rules.specs.Basics.{greatest}
use Rattle.rules.specs.Literals.{var, vars}
use Rattle.rules.specs.Formula.{Formula}
use Rattle.rules.specs.Forms.{hints, hints_form}
use Rattle.rules.specs.Needs.{Places, places, fits, line_needs, together}
use Rattle.rules.specs.Limits.{limits}
use Rattle.rules.specs.Step as rules
use Rattle.rules.specs.CertificateLines.{State, needing, in_sequence, in_range, kind_rules, accept, judge}
use Rattle.rules.proofs.Kit.{clear}
use Rattle.tables.specs.Tables.{Tables, tables, lengths_of, KeptAll}
use Rattle.tables.proofs.Frames.{all_self}
use Rattle.tables.proofs.Rooms.{fits_room, room_fits, no_room, places_same}
use Rattle.clauses.specs.Standing.{standing, places_of, literals, proof_need, marks_need, empty_above}
use Rattle.clauses.proofs.StoreLaws.{filled_hints, need_above, standing_above}
use Rattle.propagation.specs.Answers.{Held}
use Rattle.progress.specs.declared.Progress.{Progress}
use Rattle.progress.specs.Order.{no_hints}
use Rattle.progress.specs.declared.Work.{Work}
use Rattle.progress.specs.Shown.{needs_of, Shown, weight, Light, Stepped}
use Rattle.steps.proofs.JudgeLaws.{judge_order, judge_range, judge_room, judge_rest, judge_next, refused_in, accepted_in}
use Rattle.progress.proofs.OrderLaws.{order_hints, nothing_before}
use Rattle.ferat.specs.Lines.{judged, Line, hinted_with, hinted_in}
use Rattle.ferat.proofs.ClauseLaws.{judged_none, judged_some, count_low}

module _ (bs : List ℕ) (at : ℕ) (p : Progress) (t : Tables) (w : Work) where
  pub hints_bad : clause_at bs at ≡ None → Line hints_form bs at p t w (Err Malformed) t w
  hints_bad h = record {
    steps = λ f s sh l. refused_in f p (length bs) t t w Malformed (judged_none hints_form bs at t f s (bad_hints bs at h)) (all_self s.needs t);
  }

  module _ {q : Measure} (h : clause_at bs at ≡ Some q) where
    abbrev n : ℕ
    n = q.count

    abbrev k : ℕ
    k = q.largest

    seen : Seen bs at q.negative n k
    seen = clause_told bs at h

    pub hints_signed : q.negative ≡ true → Line hints_form bs at p t w (Err Malformed) t w
    hints_signed z = record {
      steps = λ f s sh l. refused_in f p (length bs) t t w Malformed (judged_none hints_form bs at t f s (not_hints bs at seen z)) (all_self s.needs t);
    }

    module _ (z : q.negative ≡ false) {b : Bool} (i : b ≡ no_hints p) where
      abbrev ns : List ℕ
      ns = vars (lits_at bs at)

      many : n ≡ length ns
      many = seen.listing.count ∙ sym (length-map (lits_at bs at) var)

      judged_line : (f : Formula) (s : State) {x : rules.Step State} → judge (limits (lengths_of t)) f s (hints ns) ≡ x → judged hints_form bs at t f s ≡ x
      judged_line f s e = judged_some hints_form bs at t f s (as_hints bs at seen z) ∙ e

      order : {f : Formula} {s : State} → Shown p t w f s → in_sequence s (hints ns) ≡ b
      unfolding in_sequence
      order sh = sym (i ∙ order_hints sh)

      pub hints_late : b ≡ false → Line hints_form bs at p t w (Err Malformed) t w
      hints_late e = record {
        steps = λ f s sh l.
            refused_in f p (length bs) t t w Malformed (judged_line f s (judge_order (limits (lengths_of t)) f s (hints ns) (order sh ∙ e))) (all_self s.needs t);
      }

      module _ (y : b ≡ true) where
        range : {f : Formula} {s : State} → Shown p t w f s → in_range (limits (lengths_of t)) f (hints ns) ≡ leb (greatest ns) p.formula.c
        unfolding in_range
        range {f} sh = all_low f.count ns ∙ ap (leb (greatest ns)) (sym sh.formula.count)

        pub hints_high : p.formula.c < k → Line hints_form bs at p t w (Err OutOfRange) t w
        hints_high l = record {
          steps = λ f s sh i.
              refused_in f p (length bs) t t w OutOfRange
              (judged_line f s (judge_range (limits (lengths_of t)) f s (hints ns) (order sh ∙ y)
              (range sh ∙ lt-leb (greatest ns) p.formula.c (listed_high seen.listing l)))) (all_self s.needs t);
        }

        module _ (l : k ≤ p.formula.c) where
          -- nothing was stored in the proof table before
          first : {f : Formula} {s : State} → Shown p t w f s → p.store ≡ empty_above 0
          first sh = let x = nothing_before p (sym i ∙ y) in sh.fresh x.1 x.0

          low : {f : Formula} {s : State} → Shown p t w f s → in_range (limits (lengths_of t)) f (hints ns) ≡ true
          low sh = range sh ∙ le-leb (greatest ns) p.formula.c (listed_low seen.listing l (omega (arith, sh.formula.few)))

          abbrev wanted : Places
          wanted = places p.formula.v p.formula.used p.mapped.used (n + 1) 0 p.mapped.largest

          needed : {f : Formula} {s : State} → Shown p t w f s → (needing s (hints ns)).needs ≡ wanted
          unfolding together line_needs
          needed sh =
              let e = many in
              let a = ap proof_need (first sh) ∙ (need_above 0).0 in
              let c = ap marks_need (first sh) ∙ (need_above 0).1 in
              ap (λ x. together x (line_needs (hints ns))) sh.needs
              ∙ places_same (omega arith) (omega arith) (omega arith) (omega arith) (omega arith) (omega arith)

          pub hints_full : length t.proof ≤ n → Line hints_form bs at p t w (Err TableFull) t w
          hints_full m = record {
            steps = λ f s sh i.
                refused_in f p (length bs) t t w TableFull
                (judged_line f s (judge_room (limits (lengths_of t)) f s (hints ns) (order sh ∙ y) (low sh)
                (ap (fits (lengths_of t)) (needed sh) ∙ no_room (lengths_of t) wanted (λ r. omega (arith, r.proof, m)))))
                (all_self (needing s (hints ns)).needs t);
          }

          -- the hints are stored
          module _ (m : n < length t.proof) {u : List ℤ} (e : u ≡ puts t.proof 0 (codes_at bs at)) where
            abbrev v : Tables
            v = tables t.prefix t.matrix t.map u t.marks t.values

            module _ {f : Formula} {s : State} (sh : Shown p t w f s) (light : Light p (length bs)) where
              there : Stored t.proof u 0 (lits_at bs at)
              there = list_in_table seen.listing t.proof u 0 (omega (arith, l, sh.formula.few)) (omega (arith, m)) e

              room : fits (lengths_of t) wanted ≡ true
              room =
                  let r = fits_room (lengths_of t) (needs_of p) sh.room in
                  room_fits (lengths_of t) wanted record {
                    prefix = r.prefix;
                    matrix = r.matrix;
                    map = r.map;
                    proof = omega (arith, m);
                    marks = omega arith;
                    values = r.values;
                  }

              accepted : judged hints_form bs at t f s ≡ rules.next (accept (needing s (hints ns)) (hints ns))
              unfolding kind_rules
              accepted =
                  judged_line f s (judge_rest (limits (lengths_of t)) f s (hints ns) (order sh ∙ y) (low sh) (ap (fits (lengths_of t)) (needed sh) ∙ room)
                  ∙ judge_next (limits (lengths_of t)) f s (hints ns) refl)

              above : empty_above (n % 1073741824 + 1) ≡ empty_above (n + 1)
              above = let i : n % 1073741824 + 1 ≡ n + 1 = omega (arith, count_low seen, light) in ap empty_above i

              empty_then : standing u t.marks (places_of (empty_above (n + 1))) ≡ standing t.proof t.marks (places_of p.store)
              empty_then =
                  standing_above u t.marks (n + 1) ∙ sym (ap (λ x. standing t.proof t.marks (places_of x)) (first sh) ∙ standing_above t.proof t.marks 0)

              abbrev after : Progress
              after = hinted_with p n (empty_above (n + 1))

              needs_after : needs_of after ≡ wanted
              needs_after = let a = need_above (n + 1) in places_same refl refl refl a.0 a.1 refl

              shown : Shown after v w f (accept (needing s (hints ns)) (hints ns))
              unfolding accept
              shown = record {
                formula = sh.formula;
                indexed = sh.indexed;
                mapping = sh.mapping;
                proper = sh.proper;
                copies = sh.copies;
                hints = (ap Some many, omega (arith, (need_above (n + 1)).0, many), there.list ∙ plain_codes (lits_at bs at) (sym seen.listing.sign ∙ z));
                named = listed_range seen.listing l (omega (arith, sh.formula.few));
                fresh = λ x y. absurd (clear refl (ap is_some y));
                clauses = ap literals empty_then ∙ sh.clauses;
                filled = filled_hints t.proof u t.marks (lits_at bs at) there (omega (arith, m, seen.listing.count)) (ap (λ i. i + 1) seen.listing.count);
                held = subst (λ S. Held S w.propagation.trail.falses w.propagation.trail.literals w.propagation.trail.length) (sym empty_then) sh.held;
                expansions = sh.expansions;
                additions = sh.additions;
                deletions = sh.deletions;
                needs = needed sh ∙ sym needs_after;
                room =
                    ap (λ i. fits (places (length t.prefix) (length t.matrix) (length t.map) i (length t.marks) (length t.values)) (needs_of after)) there.kept.long
                    ∙ ap (fits (lengths_of t)) needs_after ∙ room;
              }

              kept : KeptAll wanted t v
              kept = let a = all_self wanted t in
                  record { prefix = a.prefix; matrix = a.matrix; map = a.map; proof = kept_later there.kept (let y = seen.listing.count in omega arith); marks = a.marks; values = a.values }

              heavier : weight after ≤ weight p + 3 * length bs
              heavier = let a = need_above (n + 1) in let i = count_low seen in omega (arith, a.0, a.1, i)

              next_state : Stepped f p (length bs) t (judged hints_form bs at t f s) (Ok after) v w
              next_state =
                  accepted_in f p (length bs) t v w accepted (shown, unfold accept in subst (λ i. KeptAll i t v) (sym (needed sh)) kept, heavier)

            pub hints_next : {q : Progress} → q ≡ hinted_in p n → Line hints_form bs at p t w (Ok q) v w
            hints_next {q} i = record {
              steps = λ f s sh x.
                  subst (λ r. Stepped f p (length bs) t (judged hints_form bs at t f s) (Ok r) v w) (sym (i ∙ ap (hinted_with p n) (above sh x))) (next_state sh x);
            }
