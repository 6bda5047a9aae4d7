-- Laws of the certificate's lines one after the other. Assumes nothing.
use mathlib.Core.Path.{◌≡◌, refl, ap, sym, ◌∙◌, subst}
use mathlib.Core.List.{List, [], ◌∷◌}
use mathlib.Core.Option.{Option, none, some}
use mathlib.Core.Bool.{cond}
use Prim.Native.Nat.{ℕ, ◌+◌}
use native.Mathlib.Omega.{arith}
use lib.Dec.{eqb}
use borrow.Author.Tests.{ne_eqb}
use lib.ListN.{length}
use Rattle.std.specs.Prelude.{Result, Ok, Err}
use Rattle.lines.specs.Lines.{lines_of}
use Rattle.lines.specs.Each.{bytes_in}
use Rattle.lines.proofs.LinesLeft.{bytes_of_lines}
use Rattle.rules.specs.Formula.{Formula}
use Rattle.rules.specs.Rule.{number, broken}
use Rattle.rules.specs.declared.Rule.{Rule}
use Rattle.rules.proofs.RuleLaws.{number_not_zero}
use Rattle.rules.specs.Needs.{formula_needs}
use Rattle.rules.specs.Limits.{Limits, limits}
use Rattle.rules.specs.Step as rules
use Rattle.rules.specs.Step.{refuse_in, go_on, judge_lines, judge_file}
use Rattle.rules.specs.CertificateLines.{State}
use Rattle.tables.specs.Tables.{Tables, lengths_of}
use Rattle.tables.proofs.Frames.{same_lengths, all_self, all_then}
use Rattle.reading.specs.declared.Counts.{Counts}
use Rattle.reading.specs.Ends.{Counted, EndedAs, ended_by}
use Rattle.reading.specs.Lines.{Rules, read_by, Code, Leads, Going}
use Rattle.reading.proofs.StageLaws.{SameCounts, Keeps}

-- a number of a rule, 0 for none
abbrev pub numbered : ℕ → Option ℕ
numbered k = cond (eqb k 0) none (some k)

-- WHAT IS ASKED OF A KIND: every step keeps what the reading needs; at the start the formula's needs are there; the code's counts are the rules'
pub record Apt {S P W : Type 0} (R : Rules S) (C : Code S P W) : Type 0 where
  pub keeps : (l : Limits) (f : Formula) (s : S) (bs : List ℕ) → Keeps R.part s (R.judge l f s bs)
  pub begins : (f : Formula) → (R.part (R.start f)).needs ≡ formula_needs f
  pub counted : (p : P) (t : Tables) (w : W) (f : Formula) (s : S) → C.Shown p t w f s → Counted (C.counts p) (R.part s)

module _ {S P W : Type 0} (R : Rules S) (C : Code S P W) (apt : Apt R C) (bs : List ℕ) (f : Formula) (t : Tables) where
  abbrev L : Limits
  L = limits (lengths_of t)

  recounted : (c : Counts) (s s' : State) → Counted c s → SameCounts s s' → Counted c s'
  recounted c s s' h k = record {
    expansions = h.expansions ∙ k.expansions;
    additions = h.additions ∙ k.additions;
    deletions = h.deletions ∙ k.deletions;
  }

  pub going_start : (p : P) (w : W) {ls : List (List ℕ)} → ls ≡ lines_of bs → C.Shown p t w f (R.start f) → C.weight p ≡ 0 → Going R C bs f t 0 ls p t w
  unfolding judge_file
  going_start p w {ls} i h e = record {
    state = R.start f;
    shown = h;
    rest = ap (λ ls. judge_lines (R.judge L f) R.at_end 1 ls (R.start f)) i;
    kept = all_self _ t;
    light = omega (arith, e, ap bytes_in i, bytes_of_lines bs);
  }

  module _ {n : ℕ} {ls : List (List ℕ)} {p : P} {u : Tables} {w : W} (g : Going R C bs f t n ls p u w) where
    abbrev s : S
    s = g.state

    -- no line is left: what the rules at the end of the file say
    pub going_last : ls ≡ [] → (k : Result (Unit {0}) Rule) → ((s' : S) → C.Shown p u w f s' → R.at_end s' ≡ numbered (broken k))
        → EndedAs R.part t (read_by R L f bs) (ended_by k (C.counts p)) u
    unfolding judge_lines
    going_last e k i =
        subst (λ y. EndedAs R.part t y (ended_by k (C.counts p)) u)
        (ap (λ o. go_on (refuse_in s o (rules.next s)) rules.ended 0) (sym (i s g.shown))
        ∙ sym (ap (λ ls. judge_lines (R.judge L f) R.at_end (n + 1) ls s) e) ∙ g.rest)
        (by k)
      where
        by : (k : Result (Unit {0}) Rule)
            → EndedAs R.part t (go_on (refuse_in s (numbered (broken k)) (rules.next s)) rules.ended 0) (ended_by k (C.counts p)) u
        by (Ok a) = (apt.counted p u w f s g.shown, g.kept)
        by (Err rule) =
            subst (λ b. EndedAs R.part t (go_on (refuse_in s (cond b none (some (number rule))) (rules.next s)) rules.ended 0) (ended_by (Err rule) (C.counts p)) u)
            (sym (ne_eqb (number rule) 0 (number_not_zero rule))) (refl, refl, apt.counted p u w f s g.shown, g.kept)

    module _ {line : List ℕ} {rest : List (List ℕ)} (h : ls ≡ line ∷ rest) where
      -- the step of the rules, at the lengths that the tables have now
      abbrev step : rules.Step S
      step = R.judge (limits (lengths_of u)) f s line

      keeps : Keeps R.part s step
      keeps = apt.keeps (limits (lengths_of u)) f s line

      -- what the rules read, by this step
      read_on : (r : rules.Step S) → step ≡ r → go_on r (judge_lines (R.judge L f) R.at_end (n + 1 + 1) rest) (n + 1) ≡ read_by R L f bs
      unfolding judge_lines
      read_on r j =
          sym (ap (λ x. judge_lines (R.judge L f) R.at_end (n + 1) x s) h
          ∙ ap (λ x. go_on x (judge_lines (R.judge L f) R.at_end (n + 1 + 1) rest) (n + 1)) (sym (ap (λ m. R.judge (limits m) f s line) (same_lengths g.kept)) ∙ j))
          ∙ g.rest

      module _ (v : Tables) (x : W) where
        pub going_next : {q : P} → Leads R C f p (length line) u step (Ok q) v x → Going R C bs f t (n + 1) rest q v x
        going_next {q} d = go step refl keeps d
          where
            go : (r : rules.Step S) → step ≡ r → Keeps R.part s r → Leads R C f p (length line) u r (Ok q) v x → Going R C bs f t (n + 1) rest q v x
            go (rules.next s') j b d = record {
              state = s';
              shown = d.0;
              rest = read_on (rules.next s') j;
              kept = all_then b g.kept d.1;
              light = omega (arith, d.2, g.light, ap bytes_in h);
            }
            go (rules.refuse m s') j b d = absurd d

        -- the line is refused
        pub going_refused : (k : Rule) → Leads R C f p (length line) u step (Err k) v x
            → EndedAs R.part t (read_by R L f bs) (record { outcome = Err (record { rule = k; line = n + 1 }); counts = C.counts p }) v
        going_refused k d = go step refl keeps d
          where
            go : (r : rules.Step S) → step ≡ r → Keeps R.part s r → Leads R C f p (length line) u r (Err k) v x
                → EndedAs R.part t (read_by R L f bs) (record { outcome = Err (record { rule = k; line = n + 1 }); counts = C.counts p }) v
            go (rules.next s') j b d = absurd d
            go (rules.refuse m' s') j b d =
                subst (λ x. EndedAs R.part t x (record { outcome = Err (record { rule = k; line = n + 1 }); counts = C.counts p }) v) (read_on (rules.refuse m' s') j) (
                  d.0,
                  refl,
                  recounted (C.counts p) (R.part s) (R.part s') (apt.counted p u w f s g.shown) b.1,
                  all_then b.0 g.kept d.1,
                )
