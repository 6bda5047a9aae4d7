-- Laws of one line, whatever the certificate's kind. Assumes nothing.
use mathlib.Core.Path.{◌≡◌, refl, sym, subst}
use mathlib.Core.List.{List}
use Prim.Native.Nat.{ℕ}
use native.Mathlib.Omega.{arith}
use lib.ListN.{length}
use Rattle.std.specs.Prelude.{Result, Ok, Err}
use Rattle.rules.specs.declared.Rule.{Rule}
use Rattle.rules.specs.Rule.{number}
use Rattle.rules.specs.Formula.{Formula}
use Rattle.rules.specs.Needs.{Places}
use Rattle.rules.specs.Limits.{limits}
use Rattle.rules.specs.Step as rules
use Rattle.tables.specs.Tables.{Tables, lengths_of, KeptAll}
use Rattle.tables.proofs.Frames.{all_self, all_then, below_self}
use Rattle.reading.specs.Lines.{Rules, Code, Light, Leads, AnyLine}

module _ {S P W : Type 0} (R : Rules S) (C : Code S P W) where
  -- A STEP from tables that were written into before
  abbrev pub state_of : rules.Step S → S
  state_of (rules.next s) = s
  state_of (rules.refuse n s) = s

  pub leads_later : (f : Formula) (p : P) (n : ℕ) (t t₁ : Tables) (x : rules.Step S) (r : Result P Rule) (u : Tables) (v : W) (m : Places)
      → (R.part (state_of x)).needs ≡ m → KeptAll m t t₁ → Leads R C f p n t₁ x r u v → Leads R C f p n t x r u v
  leads_later f p n t t₁ (rules.next s) (Ok q) u v m e k h =
      (h.0, all_then (below_self (R.part s).needs) (subst (λ i. KeptAll i t t₁) (sym e) k) h.1, h.2)
  leads_later f p n t t₁ (rules.next s) (Err i) u v m e k h = h
  leads_later f p n t t₁ (rules.refuse j s) (Ok q) u v m e k h = h
  leads_later f p n t t₁ (rules.refuse j s) (Err i) u v m e k h =
      (h.0, all_then (below_self (R.part s).needs) (subst (λ i. KeptAll i t t₁) (sym e) k) h.1)

  -- A REFUSAL that leaves the tables as they are
  pub refused_now : (f : Formula) (p : P) (n : ℕ) (t : Tables) (v : W) {x : rules.Step S} (k : Rule) (s : S) → x ≡ rules.refuse (number k) s → Leads R C f p n t x (Err k) t v
  refused_now f p n t v k s e = subst (λ y. Leads R C f p n t y (Err k) t v) (sym e) (refl, all_self (R.part s).needs t)

  module _ {bs : List ℕ} {p : P} {t : Tables} {w : W} where
    -- a line that is skipped
    pub line_skipped : ((f : Formula) (s : S) → R.judge (limits (lengths_of t)) f s bs ≡ rules.next s) → AnyLine R C bs p t w (Ok p) t w
    line_skipped m = record {
      steps = λ f s sh l. subst (λ y. Leads R C f p (length bs) t y (Ok p) t w) (sym (m f s)) (sh, all_self (R.part s).needs t, omega arith);
    }

    -- a line that is judged by its form
    pub line_judged : {r : Result P Rule} {u : Tables} {v : W} (step : Formula → S → rules.Step S) → ((f : Formula) (s : S) → R.judge (limits (lengths_of t)) f s bs ≡ step f s)
        → ((f : Formula) (s : S) → C.Shown p t w f s → Light R C p (length bs) → Leads R C f p (length bs) t (step f s) r u v) → AnyLine R C bs p t w r u v
    line_judged {r} {u} {v} step m x = record {
      steps = λ f s sh l. subst (λ y. Leads R C f p (length bs) t y r u v) (sym (m f s)) (x f s sh l);
    }

  -- what is promised of a line, for the tables and the working memory that were lent
  pub line_lent : {bs : List ℕ} {p : P} {t : Tables} {w : W} {r : Result P Rule} {u u' : Tables} {v v' : W} → u ≡ u' → v ≡ v'
      → AnyLine R C bs p t w r u v → AnyLine R C bs p t w r u' v'
  line_lent {bs} {p} {t} {w} {r} {u' = u'} {v = v} e g x = subst (AnyLine R C bs p t w r u') g (subst (λ u. AnyLine R C bs p t w r u v) e x)
