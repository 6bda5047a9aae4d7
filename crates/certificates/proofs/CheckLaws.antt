-- Laws of the check of two files, whatever the certificate's kind, by its own rules over both. Assumes nothing.
use mathlib.Core.Path.{◌≡◌, refl, ap, sym, ◌∙◌, subst}
use mathlib.Core.Bool.{Bool, true, false, cond}
use mathlib.Core.List.{List, [], ◌∷◌}
use mathlib.Core.Option.{Option, none, some}
use Prim.Native.Nat.{ℕ, ◌+◌, ◌≤◌, ◌<◌}
use lib.Dec.{leb}
use borrow.Author.Tests.{le-leb, lt-leb}
use lib.IntN.{ℤ}
use lib.ListN.{length}
use Rattle.std.specs.Prelude.{Result, Ok, Err}
use Rattle.cells.specs.Cells.{Kept}
use Rattle.rules.specs.Rule.{of_file}
use Rattle.rules.specs.declared.Rule.TheVariants.{Overlong}
use Rattle.rules.specs.declared.Refusal.{Refusal}
use Rattle.rules.specs.Formula.{Formula}
use Rattle.rules.specs.Needs.{Places, places, formula_needs, formula_needs_so_far}
use Rattle.rules.specs.Limits.{Limits, limits}
use Rattle.rules.specs.Step as rules
use Rattle.rules.specs.Step.{refuse_in, go_on, judge_lines, judge_file}
use Rattle.rules.specs.FormulaLines.{read_formula}
use Rattle.rules.specs.Verdict.{Checked, early, of_lines, of_formula}
use Rattle.rules.specs.declared.Verdict.{Verdict}
use Rattle.rules.specs.declared.Verdict.TheVariants.{Accepted, Refused}
use Rattle.rules.specs.declared.Report.{Report}
use Rattle.formula.specs.declared.Reading.{Reading}
use Rattle.formula.specs.Answers.{Answer, Answers, Answered, reading, read_state}
use Rattle.tables.specs.Tables.{Tables, tables, lengths_of, KeptAll}
use Rattle.tables.specs.Checked.{CheckedBy}
use Rattle.tables.proofs.Frames.{same_lengths, all_self, Below, below_self, all_then}
use Rattle.reading.specs.declared.Ended.{Ended}
use Rattle.reading.specs.declared.Counts.{Counts}
use Rattle.reading.specs.Ends.{report_of, refused_early, EndedWith, EndedAs}
use Rattle.reading.specs.Lines.{Rules, read_by, Code, FormulaChecked}
use Rattle.reading.proofs.StageLaws.{below_then, Keeps}
use Rattle.reading.proofs.GoingLaws.{Apt}
use Rattle.certificates.specs.Check.{BothFiles}

-- WHAT THE CERTIFICATE NEEDS is at least what the formula needs
module _ {S P W : Type 0} (R : Rules S) (C : Code S P W) (apt : Apt R C) (l : Limits) (f : Formula) where
  abbrev needs_at : rules.Read S → Places
  needs_at r = (R.part (read_state r)).needs

  lines_below : (ls : List (List ℕ)) (n : ℕ) (s : S) → Below (R.part s).needs (needs_at (judge_lines (R.judge l f) R.at_end n ls s))
  unfolding judge_lines
  lines_below [] n s = go (R.at_end s)
    where
      go : (r : Option ℕ) → Below (R.part s).needs (needs_at (go_on (refuse_in s r (rules.next s)) rules.ended 0))
      go none = below_self (R.part s).needs
      go (some k) = below_self (R.part s).needs
  lines_below (x ∷ ls) n s = go (R.judge l f s x) (apt.keeps l f s x) (λ s'. lines_below ls (n + 1) s')
    where
      go : (r : rules.Step S) → Keeps R.part s r
          → ((s' : S) → Below (R.part s').needs (needs_at (judge_lines (R.judge l f) R.at_end (n + 1) ls s')))
          → Below (R.part s).needs (needs_at (go_on r (judge_lines (R.judge l f) R.at_end (n + 1) ls) n))
      go (rules.next s') b h = below_then b (h s')
      go (rules.refuse k s') b h = b.0

  read_below : (bs : List ℕ) → Below (formula_needs f) (needs_at (read_by R l f bs))
  unfolding judge_file
  read_below bs = subst (λ m. Below m (needs_at (read_by R l f bs))) (apt.begins f) (lines_below _ 1 (R.start f))

-- THE CERTIFICATE READ gives the report and the frame
module _ {S : Type 0} (R : Rules S) (t u w : Tables) (f : Formula) (k : KeptAll (formula_needs f) t u) where
  abbrev Reported : Checked → Report → Type 0
  Reported c r = (r ≡ c.report) × KeptAll c.needs t w

  reported_with : (x : rules.Read S) (o : Result (Unit {0}) Refusal) (c : Counts) → EndedWith R.part u x o c w → Below (formula_needs f) (R.part (read_state x)).needs
      → Reported (of_lines R.part x) (report_of (record { outcome = o; counts = c }))
  reported_with (rules.ended s) (Ok y) c h b =
      ((λ i. record { verdict = Accepted; expansions = h.0.expansions i; additions = h.0.additions i; deletions = h.0.deletions i }), all_then b k h.1)
  reported_with (rules.ended s) (Err refusal) c h b = absurd h
  reported_with (rules.refused_at n m s) (Ok y) c h b = absurd h
  reported_with (rules.refused_at n m s) (Err refusal) c h b =
      ((λ i. record { verdict = Refused (h.0 i) 2 (h.1 i); expansions = h.2.expansions i; additions = h.2.additions i; deletions = h.2.deletions i }), all_then b k h.3)

  reported : (x : rules.Read S) (e : Ended) → EndedAs R.part u x e w → Below (formula_needs f) (R.part (read_state x)).needs
      → Reported (of_lines R.part x) (report_of e)
  reported x e h b = reported_with x e.outcome e.counts h b

-- THE CHECK OF BOTH FILES, by a kind's own rules over both, for any range of its verdicts
module _ {S P W : Type 0} {R : Rules S} {C : Code S P W} (apt : Apt R C) {checked : Limits → List ℕ → List ℕ → Checked} (same : BothFiles R checked)
    (Range : Verdict → Type 0) (bs cs : List ℕ) (t : Tables) where
  abbrev L : Limits
  L = limits (lengths_of t)

  -- the certificate of a formula, by the rules of the kind
  abbrev pub lines : Limits → Formula → Checked
  lines l f = of_lines R.part (read_by R l f cs)

  -- the lines of both files
  abbrev inner : Checked
  inner = of_formula (read_formula L bs) (lines L)

  abbrev outer : Bool → Bool → Checked
  outer a b = cond a (cond b inner (early (Refused 1 2 0) (places 0 0 0 0 0 0))) (early (Refused 1 1 0) (places 0 0 0 0 0 0))

  abbrev Promised : Report → Tables → Type 0
  Promised r u = CheckedBy (λ l. checked l bs cs) Range t r u

  -- every verdict on the files is within the range
  abbrev pub Within : Type 0
  Within = (l : Limits) → Range (checked l bs cs).report.verdict

  told : Within → (r : Report) (u : Tables) (a b : Bool) → leb (length bs) 1048576 ≡ a → leb (length cs) 1048576 ≡ b
      → r ≡ (outer a b).report → KeptAll (outer a b).needs t u → Promised r u
  told within r u a b p q h k =
      let e : outer a b ≡ checked L bs cs
      = sym (ap (λ z. outer z b) p) ∙ sym (ap (outer (leb (length bs) 1048576)) q) ∙ sym (same L bs cs) in
      let f : r ≡ (checked L bs cs).report = h ∙ ap (λ (c : Checked). c.report) e in
      record {
        report = f;
        ranged = subst (λ (z : Report). Range z.verdict) (sym f) (within L);
        kept = subst (λ (c : Checked). KeptAll c.needs t u) e k;
      }

  module _ (within : Within) where
    -- "1 overlong", of the formula and of the certificate
    pub overlong_formula : 1048576 < length bs → (r : Report) → r ≡ refused_early (of_file Overlong) 1 → Promised r t
    overlong_formula h r e = told within r t false (leb (length cs) 1048576) (lt-leb (length bs) 1048576 h) refl e (all_self _ t)

    module _ (a : length bs ≤ 1048576) where
      pub overlong_certificate : 1048576 < length cs → (r : Report) → r ≡ refused_early (of_file Overlong) 2 → Promised r t
      overlong_certificate h r e = told within r t true false (le-leb (length bs) 1048576 a) (lt-leb (length cs) 1048576 h) e (all_self _ t)

      module _ (b : length cs ≤ 1048576) (p m : List ℤ) {y : Answer} (h : Answered bs t.prefix t.matrix y p m) where
        answers : Answers (read_formula L bs) t.prefix t.matrix y p m
        unfolding reading
        answers =
            subst (λ z. Answers (cond z (read_formula L bs) (rules.refused_at 1 0 none)) t.prefix t.matrix y p m) (le-leb (length bs) 1048576 a)
            (h.answers (lengths_of t) (record { prefix = refl; matrix = refl }))

        -- the formula is read
        abbrev read : Tables
        read = tables p m t.map t.proof t.marks t.values

        kept : (n : Places) → Kept n.prefix t.prefix p → Kept n.matrix t.matrix m → KeptAll n t read
        kept n x z = let s = all_self n t in record { prefix = x; matrix = z; map = s.map; proof = s.proof; marks = s.marks; values = s.values }

        both_read : (r : Report) (u : Tables) → r ≡ inner.report → KeptAll inner.needs t u → Promised r u
        both_read r u i k = told within r u true true (le-leb (length bs) 1048576 a) (le-leb (length cs) 1048576 b) i k

        pub formula_refused : (refusal : Refusal) → y ≡ Err refusal → (r : Report) → r ≡ refused_early refusal 1 → Promised r read
        formula_refused refusal e r i =
            let o = go (read_formula L bs) (subst (λ z. Answers (read_formula L bs) t.prefix t.matrix z p m) e answers) in
            both_read r read (i ∙ o.0) o.1
          where
            go : (x : rules.Read (Option Formula)) → Answers x t.prefix t.matrix (Err refusal) p m
                → (refused_early refusal 1 ≡ (of_formula x (lines L)).report) × KeptAll (of_formula x (lines L)).needs t read
            go (rules.ended none) o = ((λ j. record { verdict = Refused (o.answer.0 j) 1 (o.answer.1 j); expansions = 0; additions = 0; deletions = 0 }), kept (places 0 0 0 0 0 0) o.prefix o.matrix)
            go (rules.ended (some f)) o = absurd o.answer
            go (rules.refused_at n i s) o = ((λ j. record { verdict = Refused (o.answer.0 j) 1 (o.answer.1 j); expansions = 0; additions = 0; deletions = 0 }), kept (formula_needs_so_far s) o.prefix o.matrix)

        module _ (r : Reading) (e : y ≡ Ok r) where
          done : Answers (read_formula L bs) t.prefix t.matrix (Ok r) p m
          done = subst (λ z. Answers (read_formula L bs) t.prefix t.matrix z p m) e answers

          pub certificate_checked : (x : Ended) (w : Tables) → (length cs ≤ 1048576 → FormulaChecked R cs r read x w) → (q : Report) → q ≡ report_of x → Promised q w
          certificate_checked x w d q i =
              let o = go (read_formula L bs) done in
              both_read q w (i ∙ o.0) o.1
            where
              go : (z : rules.Read (Option Formula)) → Answers z t.prefix t.matrix (Ok r) p m
                  → (report_of x ≡ (of_formula z (lines L)).report) × KeptAll (of_formula z (lines L)).needs t w
              go (rules.ended none) o = absurd o.answer
              go (rules.ended (some f)) o =
                  let k = kept (formula_needs f) o.prefix o.matrix in
                  reported R t read w f k (read_by R L f cs) x
                  (subst (λ z. EndedAs R.part read (read_by R (limits z) f cs) x w) (same_lengths k)
                  (d b f o.answer.0 o.answer.1))
                  (read_below R C apt L f cs)
              go (rules.refused_at n i s) o = absurd o.answer
