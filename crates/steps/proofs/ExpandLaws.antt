-- Laws of the judge of an `e` line. Assumes nothing.
use mathlib.Core.Path.{◌≡◌, refl, ap, ap₂, sym, ◌∙◌, subst}
use mathlib.Core.Bool.{Bool, true, false, not, cond, ◌&&◌, ◌||◌}
use mathlib.Core.List.{List, [], ◌∷◌, ◌++◌, map}
use mathlib.Core.Option.{Option, none, some}
use Prim.Native.Nat.{ℕ, ◌+◌, ◌-◌, ◌/◌, ◌<◌, ◌≤◌}
use native.Mathlib.Omega.{arith}
use lib.Dec.{eqb, leb, ltb}
use lib.ListN.{length, get_or, length-map}
use lib.IntN.{ℤ}
use borrow.Author.Tests.{leb-true, ltb-true, ne_eqb}
use Rattle.std.specs.List.{list_all as all, list_any as any}
use Rattle.cells.specs.Cells.{list_at, code_at}
use Rattle.lists.specs.Stores as stores
use Rattle.lists.proofs.StoreLaws.{all_at}
use Rattle.rules.specs.Basics.{maybe}
use Rattle.rules.specs.Literals.{Lits, vars}
use Rattle.rules.specs.Codes.{code_of}
use Rattle.rules.specs.Formula.{Formula}
use Rattle.rules.specs.Forms.{expansion}
use Rattle.rules.specs.Limits.{limits}
use Rattle.rules.specs.Expansion.{is_mapped, expands}
use Rattle.rules.specs.Step.{◌unless◌, ◌then◌}
use Rattle.rules.specs.CertificateLines.{State, state, needing, hint_there, candidates, kind_rules, accept}
use Rattle.rules.proofs.Kit.{and_l, and_r}
use Rattle.tables.specs.Tables.{Tables, lengths_of, KeptAll}
use Rattle.tables.proofs.Frames.{all_self}
use Rattle.unmapped.specs.Copies.{all_mapped}
use Rattle.unmapped.proofs.CopyLaws.{mapped_all}
use Rattle.mapping.proofs.LineLaws.{shown_copy}
use Rattle.copies.specs.Copies.{stands_of, annotation_at, annotation_of}
use Rattle.expansion.specs.Codes.{expands_named, expands_any}
use Rattle.expansion.proofs.ClauseLaws.{CopiesTold, named_tested, any_tested}
use Rattle.clauses.specs.Standing.{pending, written_at, proof_need}
use Rattle.clauses.proofs.LiteralLaws.{written_there}
use Rattle.propagation.specs.declared.Propagation.{Propagation}
use Rattle.reading.specs.declared.Counts.{Counts}
use Rattle.progress.specs.declared.Progress.{Progress}
use Rattle.std.specs.Prelude.{Result, Ok, Err}
use Rattle.std.specs.Option.{is_some}
use Rattle.rules.specs.Rule.{number, broken}
use Rattle.rules.specs.declared.Rule.{Rule}
use Rattle.rules.proofs.RuleLaws.{number_not_zero}
use Rattle.progress.specs.declared.Work.{Work}
use Rattle.progress.specs.Shown.{HintsShown, Shown, Light, Stepped}
use Rattle.steps.specs.Judges.{kind_judge, Pending, Judges}
use Rattle.reading.specs.Counting.{one_expansion}
use Rattle.steps.specs.Stands.{Standable, Stands}
use Rattle.steps.specs.Expands.{hint_at, fits_at, rule_broken}
use Rattle.steps.proofs.JudgeLaws.{judge_kind, judge_next, refused_in, accepted_in}
use Rattle.progress.proofs.OrderLaws.{hint_missing_lem}
use Rattle.steps.proofs.StandLaws.{expansions_add, clause_needs_lem, more_is, small_then, stood_kept, stood_shown, stood_weight}
use Rattle.progress.proofs.HintLaws.{hint_read}

-- the test of one clause, and of any
module _ (p : Progress) (t : Tables) (starts : List ℕ) where
  abbrev named : ℕ → Bool
  named k = expands_named t.prefix t.values t.map t.proof (written_at p.store) t.matrix starts k

  abbrev any_one : ℕ → Bool
  any_one k = expands_any t.prefix t.values t.map t.proof (written_at p.store) t.matrix starts k

-- THE RULES FROM 9 ON, as a number that is 0 where none is broken
abbrev first_rule : Bool → Bool → Bool → ℕ
first_rule a b c = cond a (cond (not b) 10 (cond c 0 11)) 9

abbrev refusal : ℕ → Option ℕ
refusal k = cond (eqb k 0) none (some k)

first_broken : (a b c : Bool) → (9 unless a then 10 unless b then 11 unless c) ≡ refusal (first_rule a b c)
first_broken true true true = refl
first_broken true true false = refl
first_broken true false c = refl
first_broken false b c = refl

module _ {p : Progress} {t : Tables} {w : Work} {f : Formula} {s : State} (sh : Shown p t w f s) {n m : ℕ} {c : Lits} (o : Pending p t n m c) where
  abbrev all_copies : Bool
  all_copies = all (is_mapped s.mapped) (vars c)

  abbrev fitting : Bool
  fitting = any (expands f s.mapped c) (candidates s f)

  copies_same : all_mapped w.noted (pending t.proof p.store) ≡ all_copies
  copies_same = mapped_all sh.mapping.noted c o.stored

  there : list_at t.proof (written_at p.store) ≡ map code_of c
  there = written_there t.proof p.store ∙ o.stored

  told : CopiesTold t.values t.map s.mapped
  unfolding stands_of annotation_at annotation_of
  told = shown_copy sh.mapping

  -- the clauses that may be expanded
  fits_same : all_copies ≡ true → (q : Option (List ℕ)) → HintsShown p.hinted t.proof (proof_need p.store) q
      → maybe q true (stores.in_range p.formula.c) ≡ true → maybe q true (λ ns. ltb s.expansions (length ns)) ≡ true
      → fits_at p t w.starts ≡ any (expands f s.mapped c) (maybe q f.matrix (λ ns. get_or f.matrix (get_or ns s.expansions 0 - 1) [] ∷ []))
  unfolding fits_at hint_at
  fits_same a none g l b =
      ap (λ h. cond (is_some h) (named p t w.starts (hint_at t.proof p.counts.expansions)) (any_one p t w.starts p.formula.c)) g
      ∙ any_tested sh.formula sh.indexed sh.proper t.values t.map told t.proof (written_at p.store) c there a
  fits_same a (some ns) g l b =
      let i : s.expansions < length ns = ltb-true s.expansions (length ns) b in
      let k = get_or ns s.expansions 0 in
      let x = all_at (λ x. leb 1 x && leb x p.formula.c) 0 ns s.expansions l i in
      let least : 1 ≤ k = leb-true 1 k (and_l (leb 1 k) (leb k p.formula.c) x) in
      let most : k ≤ p.formula.c = leb-true k p.formula.c (and_r (leb 1 k) (leb k p.formula.c) x) in
      ap (λ h. cond (is_some h) (named p t w.starts (hint_at t.proof p.counts.expansions)) (any_one p t w.starts p.formula.c)) g.0
      ∙ ap (named p t w.starts) (ap (λ e. code_at t.proof e / 2) sh.expansions ∙ hint_read p.hinted t.proof (proof_need p.store) ns g s.expansions i)
      ∙ named_tested sh.formula sh.indexed sh.proper t.values t.map told t.proof (written_at p.store) c there a k least
      (omega (arith, most, sh.formula.whole, sh.formula.count))
      ∙ single (expands f s.mapped c (get_or f.matrix (k - 1) []))
    where
      single : (b : Bool) → b ≡ b || false
      single true = refl
      single false = refl

  number_same : rule_broken p t w ≡ first_rule all_copies (hint_there s) fitting
  unfolding rule_broken
  number_same =
      ap₂ (chosen (fits_at p t w.starts)) copies_same (hint_missing_lem sh) ∙ go all_copies refl (hint_there s) refl
    where
      chosen : Bool → Bool → Bool → ℕ
      chosen x a b = cond a (cond b 10 (cond x 0 11)) 9

      go : (a : Bool) → all_copies ≡ a → (b : Bool) → hint_there s ≡ b → first_rule a b (fits_at p t w.starts) ≡ first_rule a b fitting
      go true x true y = ap (first_rule true true) (fits_same x s.hinted sh.hints sh.named y)
      go true x false y = refl
      go false x b y = refl

  kinds : {k : ℕ} → k ≡ rule_broken p t w → kind_rules f (needing s (expansion c)) (expansion c) ≡ refusal k
  unfolding kind_rules
  kinds q = first_broken all_copies (hint_there s) fitting ∙ ap refusal (sym (q ∙ number_same))

module _ (p : Progress) (n m : ℕ) (t : Tables) (w : Work) {a : Result (Unit {0}) Rule} (q : broken a ≡ rule_broken p t w) where
  pub expand_refused : {k : Rule} → a ≡ Err k → (v : Work) → Judges expansion p n m t w (Err k) t v
  expand_refused {k} z v = record {
    steps = λ c j f s o sh l i.
        refused_in f p j t t v k
        (judge_kind (limits (lengths_of t)) f s (expansion c)
        (kinds sh o (sym (ap broken z) ∙ q) ∙ ap (λ b. cond b none (some (number k))) (ne_eqb (number k) 0 (number_not_zero k)))) (all_self _ t);
  }

  -- it stands
  module _ {x : Unit {0}} (z : a ≡ Ok x) {counts : Counts} (g : counts ≡ one_expansion p.counts) {marks : List ℤ} {propagation : Propagation} {r : Progress}
      (stands : Standable p n t w → Stands p counts n m t r (record t { marks = marks }) (record w { propagation = propagation })) where
    abbrev u : Tables
    u = record t { marks = marks }

    abbrev v : Work
    v = record w { propagation = propagation }

    module _ (c : Lits) (j : ℕ) (f : Formula) (s : State) (o : Pending p t n m c) (sh : Shown p t w f s) (l : Light p j) (i : n < j) where
      stood : Stands p counts n m t r u v
      stood = stands record {
        filled = sh.filled;
        count = o.count ∙ sym (length-map c code_of) ∙ ap length (sym o.stored);
        small = small_then sh o l i;
        room = o.marks;
        held = sh.held;
      }

      one : counts.expansions ≡ s.expansions + 1
      one = ap (λ (x : Counts). x.expansions) g ∙ more_is (omega (arith, l)) ∙ ap (λ x. x + 1) sh.expansions

      next_state : Stepped f p j t (kind_judge f s (expansion c)) (Ok r) u v
      unfolding accept
      next_state =
          accepted_in f p j t _ _ (judge_next (limits (lengths_of t)) f s (expansion c) (kinds sh o q ∙ ap (λ a. refusal (broken a)) z)) (
            subst (λ x. Shown r u v f
                (state s.mapped s.hinted (s.standing ++ (c ∷ [])) (s.expansions + 1) s.additions s.deletions x))
                (sym (clause_needs_lem sh expansions_add c o.count o.most))
                (stood_shown sh o counts stood.next stood.stood propagation stood.held (s.expansions + 1) s.additions s.deletions
                one (ap (λ (x : Counts). x.additions) g ∙ sh.additions) (ap (λ (x : Counts). x.deletions) g ∙ sh.deletions)
                (λ y. omega (arith, y, one))),
            subst (λ x. KeptAll x t u) (sym (clause_needs_lem sh expansions_add c o.count o.most))
                (stood_kept sh o counts stood.next stood.stood),
            stood_weight sh o counts stood.next stood.stood i
                (omega (arith, one, sh.expansions, ap (λ (x : Counts). x.additions) g, ap (λ (x : Counts). x.deletions) g)),
          )

    pub expand_next : Judges expansion p n m t w (Ok r) u v
    expand_next = record { steps = next_state }
