-- Laws of the order of lines, of hints and of limits. Assumes nothing.
use mathlib.Core.Path.{◌≡◌, refl, ap, ap₂, sym, ◌∙◌}
use mathlib.Core.Bool.{Bool, true, false, ◌&&◌, not, cond}
use mathlib.Core.List.{List}
use mathlib.Core.Option.{Option, none, some}
use Prim.Native.Nat.{ℕ, ◌+◌, ◌<◌, ◌≤◌, max}
use native.Mathlib.Omega.{arith}
use lib.Dec.{eqb, leb, ltb}
use lib.ListN.{length}
use lib.IntN.{ℤ}
use borrow.Author.Tests.{leb-true, leb-false, ltb-true, ltb-false, le-leb, lt-leb, eqb-true, eqb-false, eq-eqb, ne_eqb}
use Rattle.rules.specs.Basics.{maybe}
use Rattle.rules.specs.Formula.{Formula}
use Rattle.rules.specs.CertificateLines.{State, before_additions, before_hints, hint_there, no_hint_left}
use Rattle.rules.proofs.Kit.{clear}
use Rattle.tables.specs.Tables.{Tables}
use Rattle.clauses.specs.Standing.{proof_need, marks_need, grown, room_for}
use Rattle.std.specs.Prelude as prelude
use Rattle.std.specs.Option.{is_some}
use Rattle.progress.specs.declared.Progress.{Progress}
use Rattle.progress.specs.declared.Work.{Work}
use Rattle.progress.specs.Shown.{HintsShown, Shown}
use Rattle.progress.specs.Order.{no_additions, no_hints, with_hints, hint_missing, hint_left, limit_broken}

module _ (p : Progress) where
  -- what stands before every line but mapping lines
  pub nothing_before : no_hints p ≡ true → (p.hinted ≡ prelude.None) × (p.counts.expansions + p.counts.additions ≡ 0)
  unfolding no_hints no_additions
  nothing_before h = go p.hinted refl (eqb p.counts.expansions 0) refl (eqb p.counts.additions 0) refl h
    where
      go : (a : prelude.Option ℕ) → p.hinted ≡ a → (b : Bool) → eqb p.counts.expansions 0 ≡ b → (c : Bool) → eqb p.counts.additions 0 ≡ c
          → cond (is_some a) false (cond b (cond c (eqb p.counts.deletions 0) false) false) ≡ true
          → (p.hinted ≡ prelude.None) × (p.counts.expansions + p.counts.additions ≡ 0)
      go (prelude.Some n) x b y c z e = absurd (clear e refl)
      go prelude.None x false y c z e = absurd (clear e refl)
      go prelude.None x true y false z e = absurd (clear e refl)
      go prelude.None x true y true z e = (x, omega (arith, eqb-true p.counts.expansions 0 y, eqb-true p.counts.additions 0 z))

-- WHAT THE RULES SAY
additions_same : (a d : ℕ) → cond (eqb a 0) (eqb d 0) false ≡ eqb (a + d) 0
additions_same a d = go (eqb a 0) refl (eqb d 0) refl
  where
    go : (x : Bool) → eqb a 0 ≡ x → (y : Bool) → eqb d 0 ≡ y → cond x y false ≡ eqb (a + d) 0
    go true e true g = sym (eq-eqb (a + d) 0 (omega (arith, eqb-true a 0 e, eqb-true d 0 g)))
    go true e false g = sym (ne_eqb (a + d) 0 (λ z. eqb-false d 0 g (omega arith)))
    go false e y g = sym (ne_eqb (a + d) 0 (λ z. eqb-false a 0 e (omega arith)))

hints_same : (o : Option (List ℕ)) (h : prelude.Option ℕ) (proof : List ℤ) (used : ℕ) → HintsShown h proof used o
    → (a e : Bool) → cond (is_some h) false (cond e a false) ≡ a && e && maybe o true (λ ns. false)
hints_same none h proof used g a e = ap (λ h. cond (is_some h) false (cond e a false)) g ∙ go a e
  where
    go : (a e : Bool) → cond e a false ≡ a && e && true
    go true true = refl
    go true false = refl
    go false true = refl
    go false false = refl
hints_same (some ns) h proof used g a e = ap (λ h. cond (is_some h) false (cond e a false)) g.0 ∙ go a e
  where
    go : (a e : Bool) → false ≡ a && e && false
    go true true = refl
    go true false = refl
    go false true = refl
    go false false = refl

turned : (a b : ℕ) → ltb a b ≡ not (leb b a)
turned a b = go (ltb a b) refl
  where
    go : (x : Bool) → ltb a b ≡ x → x ≡ not (leb b a)
    go true z = sym (ap not (lt-leb b a (ltb-true a b z)))
    go false z = sym (ap not (le-leb b a (ltb-false a b z)))

missing_same : (o : Option (List ℕ)) (h : prelude.Option ℕ) (e : ℕ) (proof : List ℤ) (used : ℕ) → HintsShown h proof used o
    → with_hints h (λ n. leb n e) ≡ not (maybe o true (λ ns. ltb e (length ns)))
missing_same none h e proof used g = ap (λ h. with_hints h (λ n. leb n e)) g
missing_same (some ns) h e proof used g = ap (λ h. with_hints h (λ n. leb n e)) g.0 ∙ go (ltb e (length ns)) refl
  where
    go : (b : Bool) → ltb e (length ns) ≡ b → leb (length ns) e ≡ not b
    go true q = lt-leb (length ns) e (ltb-true e (length ns) q)
    go false q = le-leb (length ns) e (ltb-false e (length ns) q)

left_same : (o : Option (List ℕ)) (h : prelude.Option ℕ) (e : ℕ) (proof : List ℤ) (used : ℕ) → HintsShown h proof used o
    → with_hints h (λ n. ltb e n) ≡ not (maybe o true (λ ns. leb (length ns) e))
left_same none h e proof used g = ap (λ h. with_hints h (λ n. ltb e n)) g
left_same (some ns) h e proof used g = ap (λ h. with_hints h (λ n. ltb e n)) g.0 ∙ turned e (length ns)

module _ {p : Progress} {t : Tables} {w : Work} {f : Formula} {s : State} (sh : Shown p t w f s) where
  pub order_additions : no_additions p.counts ≡ before_additions s
  unfolding no_additions
  order_additions = additions_same p.counts.additions p.counts.deletions ∙ ap₂ (λ a d. eqb (a + d) 0) sh.additions sh.deletions

  pub order_hints : no_hints p ≡ before_hints s
  unfolding no_hints
  order_hints =
      hints_same s.hinted p.hinted t.proof (proof_need p.store) sh.hints (no_additions p.counts) (eqb p.counts.expansions 0)
      ∙ ap₂ (λ a e. a && e && maybe s.hinted true (λ ns. false)) order_additions (ap (λ e. eqb e 0) sh.expansions)

  pub hint_missing_lem : hint_missing p ≡ not (hint_there s)
  unfolding hint_missing
  hint_missing_lem =
      missing_same s.hinted p.hinted p.counts.expansions t.proof (proof_need p.store) sh.hints
      ∙ ap (λ e. not (maybe s.hinted true (λ ns. ltb e (length ns)))) sh.expansions

  pub hint_left_lem : hint_left p ≡ not (no_hint_left s)
  unfolding hint_left
  hint_left_lem =
      left_same s.hinted p.hinted p.counts.expansions t.proof (proof_need p.store) sh.hints
      ∙ ap (λ e. not (maybe s.hinted true (λ ns. leb (length ns) e))) sh.expansions

-- THE LIMITS 3 AND 15
abbrev first_limit : Bool → Bool → Bool → ℕ
first_limit a b c = cond a (cond b (cond c 0 15) 15) 3

-- none is broken by n literals with copies up to m, in tables of these lengths
pub record Passed (p : Progress) (n m a b c : ℕ) : Type 0 where
  pub range : m ≤ 16384
  pub proof : proof_need (grown p.store n) ≤ a
  pub marks : marks_need (grown p.store n) ≤ b
  pub values : max p.mapped.largest m ≤ c

-- what is so by the number
pub data Limited (p : Progress) (n m proof marks values : ℕ) : ℕ → Type 0 where
  within : Passed p n m proof marks values → Limited p n m proof marks values 0
  beyond : 16384 < m → Limited p n m proof marks values 3
  full : m ≤ 16384 → (Passed p n m proof marks values → ⊥) → Limited p n m proof marks values 15

module _ (p : Progress) (n m proof marks values : ℕ) where
  abbrev room : Bool
  room = room_for p.store n proof marks

  abbrev most : ℕ
  most = max p.mapped.largest m

  pub limited : Limited p n m proof marks values (limit_broken p n m proof marks values)
  unfolding limit_broken
  limited =
      go (leb m 16384) refl (leb (proof_need (grown p.store n)) proof) refl (leb (marks_need (grown p.store n)) marks) refl (leb most values) refl
    where
      go : (a : Bool) → leb m 16384 ≡ a → (b : Bool) → leb (proof_need (grown p.store n)) proof ≡ b
          → (c : Bool) → leb (marks_need (grown p.store n)) marks ≡ c → (d : Bool) → leb most values ≡ d
          → Limited p n m proof marks values (first_limit a (b && c) d)
      go false i b j c k d l = beyond (leb-false m 16384 i)
      go true i false j c k d l = full (leb-true m 16384 i) (λ h. let z = leb-false (proof_need (grown p.store n)) proof j in omega (arith, z, h.proof))
      go true i true j false k d l = full (leb-true m 16384 i) (λ h. let z = leb-false (marks_need (grown p.store n)) marks k in omega (arith, z, h.marks))
      go true i true j true k false l = full (leb-true m 16384 i) (λ h. let z = leb-false most values l in omega (arith, z, h.values))
      go true i true j true k true l = within record {
        range = leb-true m 16384 i;
        proof = leb-true (proof_need (grown p.store n)) proof j;
        marks = leb-true (marks_need (grown p.store n)) marks k;
        values = leb-true most values l;
      }
