-- How a line is judged, rule by rule. Assumes nothing.
use mathlib.Core.Path.{◌≡◌, refl, ap, ap₂, sym, ◌∙◌, subst}
use mathlib.Core.Bool.{true, false}
use mathlib.Core.Option.{none, some}
use Prim.Native.Nat.{ℕ}
use Rattle.rules.specs.Formula.{Formula}
use Rattle.rules.specs.Forms.{CertificateLine}
use Rattle.rules.specs.Limits.{Limits, has_room}
use Rattle.rules.specs.Step.{next, refuse, ◌unless◌, ◌then◌, refuse_in}
use Rattle.rules.specs.Step as rules
use Rattle.rules.specs.Rule.{number}
use Rattle.rules.specs.declared.Rule.{Rule}
use Rattle.rules.specs.CertificateLines.{State, needing, in_sequence, in_range, kind_rules, accept, judge}
use Rattle.tables.specs.Tables.{Tables, KeptAll}
use Rattle.progress.specs.declared.Progress.{Progress}
use Rattle.std.specs.Prelude.{Ok, Err}
use Rattle.progress.specs.declared.Work.{Work}
use Rattle.progress.specs.Shown.{Stepped}
use Rattle.steps.specs.Judges.{kind_judge}

-- THE JUDGE, by the first rule that is broken
module _ (L : Limits) (f : Formula) (s : State) (line : CertificateLine) where
  abbrev full : rules.Step State
  full =
      refuse_in (needing s line) (15 unless has_room L.lengths (needing s line).needs then kind_rules f (needing s line) line)
      (next (accept (needing s line) line))

  pub judge_order : in_sequence s line ≡ false → judge L f s line ≡ refuse 2 s
  unfolding judge
  judge_order a = ap (λ x. refuse_in s (2 unless x then 3 unless in_range L f line) full) a

  module _ (a : in_sequence s line ≡ true) where
    pub judge_range : in_range L f line ≡ false → judge L f s line ≡ refuse 3 s
    unfolding judge
    judge_range b = ap₂ (λ x y. refuse_in s (2 unless x then 3 unless y) full) a b

    module _ (b : in_range L f line ≡ true) where
      judge_full : judge L f s line ≡ full
      unfolding judge
      judge_full = ap₂ (λ x y. refuse_in s (2 unless x then 3 unless y) full) a b

      pub judge_room : has_room L.lengths (needing s line).needs ≡ false → judge L f s line ≡ refuse 15 (needing s line)
      judge_room r =
          judge_full
          ∙ ap (λ x. refuse_in (needing s line) (15 unless x then kind_rules f (needing s line) line) (next (accept (needing s line) line))) r

      pub judge_rest : has_room L.lengths (needing s line).needs ≡ true → judge L f s line ≡ kind_judge f s line
      judge_rest r =
          judge_full
          ∙ ap (λ x. refuse_in (needing s line) (15 unless x then kind_rules f (needing s line) line) (next (accept (needing s line) line))) r

  -- from 7 on
  pub judge_kind : {k : ℕ} → kind_rules f (needing s line) line ≡ some k → kind_judge f s line ≡ refuse k (needing s line)
  judge_kind e = ap (λ x. refuse_in (needing s line) x (next (accept (needing s line) line))) e

  pub judge_next : kind_rules f (needing s line) line ≡ none → kind_judge f s line ≡ next (accept (needing s line) line)
  judge_next e = ap (λ x. refuse_in (needing s line) x (next (accept (needing s line) line))) e

-- A STEP of the rules and of the code
module _ (f : Formula) (p : Progress) (n : ℕ) (t u : Tables) (w : Work) where
  pub refused_in : {x : rules.Step State} (k : Rule) {s : State} → x ≡ refuse (number k) s → KeptAll s.needs t u → Stepped f p n t x (Err k) u w
  refused_in k e h = subst (λ y. Stepped f p n t y (Err k) u w) (sym e) (refl, h)

  pub accepted_in : {x : rules.Step State} {s : State} {q : Progress} → x ≡ next s → Stepped f p n t (next s) (Ok q) u w → Stepped f p n t x (Ok q) u w
  accepted_in {q} e h = subst (λ y. Stepped f p n t y (Ok q) u w) (sym e) h
