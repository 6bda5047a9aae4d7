-- An accepted line has passed every rule; and what every accepted line keeps, the reading of a file keeps.
use mathlib.Core.Path.{◌≡◌, refl}
use mathlib.Core.Bool.{Bool, true, false}
use mathlib.Core.List.{List, [], ◌∷◌}
use mathlib.Core.Option.{Option, none, some}
use Prim.Native.Nat.{ℕ, suc, ◌+◌, ◌≤◌, ◌<◌}
use lib.ListN.{length}
use native.Mathlib.Omega.{arith}
use Rattle.lines.specs.Lines.{Token, lines_of, read_line}
use Rattle.rules.specs.Basics.{maybe}
use Rattle.rules.specs.Formula.{Formula}
use Rattle.rules.specs.Forms.{CertificateLine}
use Rattle.rules.specs.Limits.{Limits, has_room}
use Rattle.rules.specs.Step.{Step, next, refuse, Read, ended, refused_at, ◌unless◌, ◌then◌, refuse_in, go_on, judge_lines, judge_file, judge_bytes}
use Rattle.rules.specs.CertificateLines.{State, needing, in_sequence, in_range, kind_rules, accept, judge}
use Rattle.rules.proofs.Steps.{unless_none, then_none, refuse_next}

-- what it means that a line is accepted in s and leads to s'
pub record Judged (limits : Limits) (f : Formula) (s : State) (line : CertificateLine) (s' : State) : Type 0 where
  pub sequence : in_sequence s line ≡ true
  pub range : in_range limits f line ≡ true
  pub room : has_room limits.lengths (needing s line).needs ≡ true
  pub kind : kind_rules f (needing s line) line ≡ none
  pub after : accept (needing s line) line ≡ s'

pub judged : (limits : Limits) (f : Formula) (s : State) (line : CertificateLine) (s' : State) → judge limits f s line ≡ next s'
    → Judged limits f s line s'
unfolding judge
judged limits f s line s' e =
    let a = refuse_next s before (refuse_in (needing s line) rules (next after)) s' e in
    let b = refuse_next (needing s line) rules (next after) s' a.1 in
    let c = then_none (2 unless in_sequence s line) (3 unless in_range limits f line) a.0 in
    let d = then_none (15 unless room) (kind_rules f (needing s line) line) b.0 in
    record {
      sequence = unless_none 2 (in_sequence s line) c.0;
      range = unless_none 3 (in_range limits f line) c.1;
      room = unless_none 15 room d.0;
      kind = d.1;
      after = let q : next after ≡ next s' = b.1 in cc;
    }
  where
    room : Bool
    room = has_room limits.lengths (needing s line).needs

    before : Option ℕ
    before = 2 unless in_sequence s line then 3 unless in_range limits f line

    rules : Option ℕ
    rules = 15 unless room then kind_rules f (needing s line) line

    after : State
    after = accept (needing s line) line

-- Every state keeps P; a refusal's number and state have R; lines are below `most`.
module _ {S : Type 0} (P : S → Type 0) (R : ℕ → S → Type 0) where
  abbrev pub OfRules : Option ℕ → S → Type 0
  OfRules none s = Unit {0}
  OfRules (some n) s = R n s

  abbrev pub OfStep : Step S → Type 0
  OfStep (next s) = P s
  OfStep (refuse n s) = R n s

  abbrev pub OfRead : (S → Option ℕ) → ℕ → Read S → Type 0
  OfRead at_end most (ended s) = P s × (at_end s ≡ none)
  OfRead at_end most (refused_at n line s) = R n s × (line < most)

  pub of_unless : (n : ℕ) (b : Bool) (s : S) → R n s → OfRules (n unless b) s
  of_unless n true s r = tt
  of_unless n false s r = r

  pub of_then : (a b : Option ℕ) (s : S) → OfRules a s → OfRules b s → OfRules (a then b) s
  of_then none b s p q = q
  of_then (some n) b s p q = p

  pub of_refuse_in : (s : S) (r : Option ℕ) (step : Step S) → OfRules r s → (r ≡ none → OfStep step) → OfStep (refuse_in s r step)
  of_refuse_in s none step p q = q refl
  of_refuse_in s (some n) step p q = p

  of_end : (at_end : S → Option ℕ) (k : ℕ) (s : S) → 0 < k → P s → (r : Option ℕ) → at_end s ≡ r → OfRules r s
      → OfRead at_end k (go_on (refuse_in s r (next s)) ended 0)
  of_end at_end k s lt p none e q = (p, e)
  of_end at_end k s lt p (some n) e q = (q, lt)

  of_go_on : (at_end : S → Option ℕ) (k most : ℕ) (rest : S → Read S) (step : Step S) → k < most → OfStep step
      → ((s : S) → P s → OfRead at_end most (rest s)) → OfRead at_end most (go_on step rest k)
  of_go_on at_end k most rest (next s) lt p go = go s p
  of_go_on at_end k most rest (refuse n s) lt p go = (p, lt)

  module _ (judge : S → List ℕ → Step S) (at_end : S → Option ℕ) (step : (s : S) (bs : List ℕ) → P s → OfStep (judge s bs))
      (finish : (s : S) → P s → OfRules (at_end s) s) where
    lines_keep : (k most : ℕ) (ls : List (List ℕ)) (s : S) → 0 < k → k + length ls ≤ most → P s → OfRead at_end most (judge_lines judge at_end k ls s)
    unfolding judge_lines
    lines_keep k most [] s lt le p = of_end at_end most s (omega arith) p (at_end s) refl (finish s p)
    lines_keep k most (l ∷ ls) s lt le p =
        of_go_on at_end k most (judge_lines judge at_end (k + 1) ls) (judge s l) (omega arith) (step s l p)
        λ s' p'. lines_keep (k + 1) most ls s' (omega arith) (omega arith) p'

    pub file_keeps : (bs : List ℕ) (s : S) → P s → OfRead at_end (suc (length (lines_of bs))) (judge_file judge at_end bs s)
    unfolding judge_file
    file_keeps bs s p = lines_keep 1 (suc (length (lines_of bs))) (lines_of bs) s (omega arith) (omega arith) p

  -- what the rules of a line keep, its bytes keep
  pub bytes_keep : {L : Type 0} (form : List Token → Option L) (judge : S → L → Step S) → ((s : S) → P s → R 2 s)
      → ((s : S) (l : L) → P s → OfStep (judge s l)) → (s : S) (bs : List ℕ) → P s → OfStep (judge_bytes form judge s bs)
  unfolding judge_bytes
  bytes_keep form judge malformed step s bs p = line (read_line bs)
    where
      formed : (o : Option _) → OfStep (maybe o (refuse 2 s) (judge s))
      formed none = malformed s p
      formed (some l) = step s l p

      line : (o : Option (List Token)) → OfStep (maybe o (next s) (λ ts. maybe (form ts) (refuse 2 s) (judge s)))
      line none = p
      line (some ts) = formed (form ts)
