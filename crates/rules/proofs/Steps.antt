-- Files judged line by line: what holds where no rule is broken.
use mathlib.Core.Path.{◌≡◌, refl, ap, subst, ◌∙◌}
use mathlib.Core.Logic.{◌⊎◌, inl, inr}
use mathlib.Core.Bool.{Bool, true, false}
use mathlib.Core.List.{List, [], ◌∷◌}
use mathlib.Core.Option.{Option, none, some}
use Prim.Native.Nat.{ℕ, ◌+◌}
use native.Mathlib.Omega.{arith}
use Rattle.lines.specs.Lines.{Token, read_line}
use Rattle.rules.specs.Basics.{maybe}
use Rattle.rules.specs.Step.{◌unless◌, ◌then◌, Step, next, refuse, Read, ended, refuse_in, go_on, judge_lines, judge_bytes}

-- a rule that is not broken
pub unless_none : (n : ℕ) (b : Bool) → n unless b ≡ none → b ≡ true
unless_none n true h = refl
unless_none n false h = let z : ◌≡◌ {A = ℕ} 0 1 = cc in absurd (omega arith)

pub then_none : (r q : Option ℕ) → (r then q) ≡ none → (r ≡ none) × (q ≡ none)
then_none none q h = (refl, h)
then_none (some n) q h = let z : ◌≡◌ {A = ℕ} 0 1 = cc in absurd (omega arith)

module _ {S : Type 0} where
  pub next_same : {s s' : S} → next s ≡ next s' → s ≡ s'
  next_same h = cc

  pub refused : {n : ℕ} {s s' : S} → refuse n s ≡ next s' → ⊥
  refused h = let z : ◌≡◌ {A = ℕ} 0 1 = cc in omega arith

  pub refuse_next : (s : S) (r : Option ℕ) (step : Step S) (s' : S) → refuse_in s r step ≡ next s' → (r ≡ none) × (step ≡ next s')
  refuse_next s none step s' h = (refl, h)
  refuse_next s (some n) step s' h = absurd (refused h)

  pub refuse_none : (s : S) (r : Option ℕ) (step : Step S) → r ≡ none → refuse_in s r step ≡ step
  refuse_none s r step h = ap (λ k. refuse_in s k step) h

  go_ended : (step : Step S) (k : S → Read S) (line : ℕ) (s' : S) → go_on step k line ≡ ended s'
      → (s : S) × (step ≡ next s) × (k s ≡ ended s')
  go_ended (next s) k line s' h = (s, refl, h)
  go_ended (refuse n s) k line s' h = let z : ◌≡◌ {A = ℕ} 0 1 = cc in absurd (omega arith)

  module _ (judge : S → List ℕ → Step S) (at_end : S → Option ℕ) where
    -- what every accepted line keeps holds at the end, where no rule is broken either
    pub lines_keep : (P : S → Type 0) → ((s : S) (bs : List ℕ) (s' : S) → judge s bs ≡ next s' → P s → P s')
        → (line : ℕ) (ls : List (List ℕ)) (s s' : S) → judge_lines judge at_end line ls s ≡ ended s' → P s → P s' × (at_end s' ≡ none)
    unfolding judge_lines
    lines_keep P keep line [] s s' h p =
        let g = go_ended (refuse_in s (at_end s) (next s)) ended 0 s' h in
        let r = refuse_next s (at_end s) (next s) g.0 g.1 in
        let e : s ≡ s' = let a = r.1 in let b = g.2 in cc in
        (subst P e p, subst (λ x. at_end x ≡ none) e r.0)
    lines_keep P keep line (l ∷ ls) s s' h p =
        let g = go_ended (judge s l) (judge_lines judge at_end (line + 1) ls) line s' h in
        lines_keep P keep (line + 1) ls g.0 s' g.2 (keep s l g.0 g.1 p)

    -- rules that accept no less come to the same end
    pub lines_same : (judge' : S → List ℕ → Step S)
        → ((s : S) (bs : List ℕ) (s' : S) → judge s bs ≡ next s' → judge' s bs ≡ next s')
        → (line : ℕ) (ls : List (List ℕ)) (s s' : S) → judge_lines judge at_end line ls s ≡ ended s'
        → judge_lines judge' at_end line ls s ≡ ended s'
    unfolding judge_lines
    lines_same judge' less line [] s s' h = h
    lines_same judge' less line (l ∷ ls) s s' h =
        let g = go_ended (judge s l) (judge_lines judge at_end (line + 1) ls) line s' h in
        ap (λ k. go_on k (judge_lines judge' at_end (line + 1) ls) line) (less s l g.0 g.1)
        ∙ lines_same judge' less (line + 1) ls g.0 s' g.2

module _ {S L : Type 0} (form : List Token → Option L) (judge : S → L → Step S) where
  -- a line whose form the judge accepted
  abbrev pub Judged : S → List ℕ → S → Type 0
  Judged s bs s' = (ts : List Token) × (line : L) × (form ts ≡ some line) × (judge s line ≡ next s')

  -- an accepted line is skipped or judged
  pub bytes_next : (s : S) (bs : List ℕ) (s' : S) → judge_bytes form judge s bs ≡ next s' → (s ≡ s') ⊎ Judged s bs s'
  unfolding judge_bytes
  bytes_next s bs s' h = read (read_line bs) h
    where
      formed : (ts : List Token) (o : Option L) → form ts ≡ o → maybe o (refuse 2 s) (judge s) ≡ next s' → (s ≡ s') ⊎ Judged s bs s'
      formed ts none e k = absurd (refused k)
      formed ts (some line) e k = inr (ts, line, e, k)

      read : (o : Option (List Token)) → maybe o (next s) (λ ts. maybe (form ts) (refuse 2 s) (judge s)) ≡ next s' → (s ≡ s') ⊎ Judged s bs s'
      read none k = inl (next_same k)
      read (some ts) k = formed ts (form ts) refl k

  -- another judge that accepts no less
  pub bytes_same : (judge' : S → L → Step S) → ((s : S) (line : L) (s' : S) → judge s line ≡ next s' → judge' s line ≡ next s')
      → (s : S) (bs : List ℕ) (s' : S) → judge_bytes form judge s bs ≡ next s' → judge_bytes form judge' s bs ≡ next s'
  unfolding judge_bytes
  bytes_same judge' less s bs s' h = read (read_line bs) h
    where
      formed : (o : Option L) → maybe o (refuse 2 s) (judge s) ≡ next s' → maybe o (refuse 2 s) (judge' s) ≡ next s'
      formed none k = k
      formed (some line) k = less s line s' k

      read : (o : Option (List Token)) → maybe o (next s) (λ ts. maybe (form ts) (refuse 2 s) (judge s)) ≡ next s'
          → maybe o (next s) (λ ts. maybe (form ts) (refuse 2 s) (judge' s)) ≡ next s'
      read none k = k
      read (some ts) k = formed (form ts) k
