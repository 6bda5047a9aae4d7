-- Laws of the judge of a clause line that is stored. Assumes nothing.
use Rattle.std.specs.Prelude.{Result, Ok, Err}
use Rattle.std.proofs.Common.{Some, None}
use Rattle.std.proofs.Common as std
use Rattle.std.specs.Option.{is_some}
use mathlib.Core.Path.{◌≡◌, refl, ap, sym, ◌∙◌, subst}
use mathlib.Core.Bool.{Bool, true, false, cond}
use mathlib.Core.List.{List}
use mathlib.Core.Option.{Option, none, some}
use Prim.Native.Nat.{ℕ, ◌≤◌}
use lib.IntN.{ℤ}
use borrow.Author.Tests.{eq-eqb, ne_eqb}
use Rattle.rules.specs.Literals.{Lits}
use Rattle.rules.specs.Formula.{Formula}
use Rattle.rules.specs.Rule.{number, broken}
use Rattle.rules.specs.declared.Rule.{Rule}
use Rattle.rules.specs.declared.Rule.TheVariants.{IndexUsed}
use Rattle.rules.proofs.RuleLaws.{number_not_zero}
use Rattle.rules.specs.Step as rules
use Rattle.rules.specs.Step.{refuse_in}
use Rattle.ferp_rules.specs.Lines.{Derived, needing, kind_rules, accept}
use Rattle.tables.specs.Tables.{Tables}
use Rattle.tables.proofs.Frames.{all_self}
use Rattle.indexes.specs.Shown.{place_at}
use Rattle.indexes.proofs.IndexLaws.{not_used}
use Rattle.resolvents.specs.Marks.{Clear}
use Rattle.reading.specs.Lines.{Leads}
use Rattle.reading.proofs.GoingLaws.{numbered}
use Rattle.derivations.specs.declared.Progress.{Progress}
use Rattle.derivations.specs.declared.Reason.{Reason}
use Rattle.derivations.specs.declared.Reason.TheVariants.{Clause, Parents}
use Rattle.derivations.specs.declared.Derivation.{Derivation}
use Rattle.derivations.specs.declared.Work.{Work}
use Rattle.derivations.specs.Shown.{beside, Shown, ferp_rules, ferp_code}
use Rattle.derivations.specs.Rules.{rule_broken, RuleJudged, line_broken}
use Rattle.derivations.specs.Judges.{line_of, kind_judge, Named, StandsAs, Judges}
use Rattle.derivations.proofs.RuleLaws.{kinds}
use Rattle.derivations.proofs.StandLaws.{marked, accepted_as, stood_kept, stood_shown, stood_weight}

-- the index of a line that passed 3
low_index : (f : Formula) (i : ℕ) (reason : Reason) → Named f i reason → i ≤ 65536
low_index f i (Clause n) h = h.0
low_index f i (Parents a b) h = h.0

-- WHAT THE JUDGE SAYS, by its number
module _ (f : Formula) (s : Derived) (i : ℕ) (reason : Reason) (c : Lits) (k : ℕ)
    (e : kind_rules f (needing s (line_of i reason c)) (line_of i reason c) ≡ numbered k) where
  abbrev then : Option ℕ → rules.Step Derived
  then o = refuse_in (needing s (line_of i reason c)) o (rules.next (accept (needing s (line_of i reason c)) (line_of i reason c)))

  judged_refuse : (k ≡ 0 → ⊥) → kind_judge f s (line_of i reason c) ≡ rules.refuse k (needing s (line_of i reason c))
  judged_refuse z = ap then (e ∙ ap (λ b. cond b none (some k)) (ne_eqb k 0 z))

  judged_next : k ≡ 0 → kind_judge f s (line_of i reason c) ≡ rules.next (accept (needing s (line_of i reason c)) (line_of i reason c))
  judged_next z = ap then (e ∙ ap (λ b. cond b none (some k)) (eq-eqb k 0 z))

no_place : (y : std.Option ℕ) → is_some y ≡ false → y ≡ None
no_place None h = refl
no_place (Some n) h = cc

module _ (d : Derivation) (p : Progress) (t : Tables) (w : Work) where
  refused : (k : Rule) → ((f : Formula) (s : Derived) → Shown p t w f s → number k ≡ line_broken p d.index d.reason t w) → (v : Work)
      → Judges d p t w (Err k) t v
  refused k is v = record {
    steps = λ c j f s o h sh l a.
        subst (λ x. Leads ferp_rules ferp_code f p j t x (Err k) t v)
        (sym (judged_refuse f s d.index d.reason c (number k) (kinds sh o d.index d.reason h ∙ ap numbered (sym (is f s sh))) (number_not_zero k)))
        (refl, all_self _ t);
  }

  module _ {x : std.Option ℕ} (e : x ≡ place_at w.indexes d.index) {b : Bool} (g : b ≡ is_some x) where
    by_used : {a : Bool} → b ≡ a → line_broken p d.index d.reason t w ≡ cond a 17 (rule_broken p d.reason t w)
    by_used z = ap (λ a. cond a 17 (rule_broken p d.reason t w)) (sym (ap is_some e) ∙ sym g ∙ z)

    -- 17
    pub index_used : b ≡ true → (v : Work) → Judges d p t w (Err IndexUsed) t v
    index_used z v = refused IndexUsed (λ f s sh. sym (by_used z)) v

    -- seen are the marks after the tests, and r their answer
    module _ (z : b ≡ false) (r : Result (Unit {0}) Rule) (seen : List ℕ) (j : RuleJudged p d.reason t w (broken r) seen) where
      first : (f : Formula) (s : Derived) → Shown p t w f s → broken r ≡ line_broken p d.index d.reason t w
      first f s sh = (j sh.clear).0 ∙ sym (by_used z)

      -- 16, 9 and 11
      pub rule_refused : {k : Rule} → r ≡ Err k → (v : Work) → Judges d p t w (Err k) t v
      rule_refused {k} y v = refused k (λ f s sh. sym (ap broken y) ∙ first f s sh) v

      -- it stands
      pub line_stands : {a : Unit {0}} → r ≡ Ok a → {marks : List ℤ} {indexes : List ℕ} {q : Progress}
          → StandsAs p d t.marks w.indexes q marks indexes → (v : Work) → Judges d p t w (Ok q) (marked t marks) (beside v w.starts w.noted indexes seen)
      line_stands y {marks} {indexes} {q} h v = record {
        steps = λ c j f s o i sh l a.
            subst (λ x. Leads ferp_rules ferp_code f p j t x (Ok q) (marked t marks) (beside v w.starts w.noted indexes seen))
            (sym (judged_next f s d.index d.reason c (broken r) (kinds sh o d.index d.reason i ∙ ap numbered (sym (first f s sh))) (ap broken y) ∙ ap rules.next (accepted_as sh d c o.count o.most))) (
              stood_shown sh d o l a h (low_index f d.index d.reason i)
                  (not_used s.indexes d.index (sym (sh.indexes.each d.index (low_index f d.index d.reason i)) ∙ sym e ∙ no_place x (sym g ∙ z)))
                  refl refl refl (clean sh),
              stood_kept sh d o l a h,
              stood_weight sh d o l a h,
            );
      }
        where
          clean : {f : Formula} {s : Derived} → Shown p t w f s → Clear seen
          clean sh = (j sh.clear).1
