-- What a judge of two stages keeps: needs only grow, and a refused line leaves the counts as they were. Assumes nothing.
use mathlib.Core.Path.{◌≡◌, refl}
use mathlib.Core.List.{List}
use mathlib.Core.Option.{Option, none, some}
use Prim.Native.Nat.{ℕ}
use native.Mathlib.Omega.{arith}
use Rattle.lines.specs.Lines.{Token, read_line}
use Rattle.rules.specs.Basics.{maybe}
use Rattle.rules.specs.Needs.{Places, together}
use Rattle.rules.specs.Step as rules
use Rattle.rules.specs.Step.{refuse_in, judge_bytes}
use Rattle.rules.specs.CertificateLines.{State}
use Rattle.tables.proofs.Frames.{Below, below_self}

pub below_together : (m n : Places) → Below m (together m n)
unfolding together
below_together m n = record { prefix = omega arith; matrix = omega arith; map = omega arith; proof = omega arith; marks = omega arith; values = omega arith }

pub below_then : {a b c : Places} → Below a b → Below b c → Below a c
below_then x y = record {
  prefix = omega (arith, x.prefix, y.prefix);
  matrix = omega (arith, x.matrix, y.matrix);
  map = omega (arith, x.map, y.map);
  proof = omega (arith, x.proof, y.proof);
  marks = omega (arith, x.marks, y.marks);
  values = omega (arith, x.values, y.values);
}

pub record SameCounts (s s' : State) : Type 0 where
  pub expansions : s.expansions ≡ s'.expansions
  pub additions : s.additions ≡ s'.additions
  pub deletions : s.deletions ≡ s'.deletions

pub same_counts : (s : State) → SameCounts s s
same_counts s = record { expansions = refl; additions = refl; deletions = refl }

module _ {S : Type 0} (part : S → State) where
  -- WHAT A STEP from s keeps: its needs are at least those of s; if it refuses, its counts are those of s
  abbrev pub Keeps : S → rules.Step S → Type 0
  Keeps s (rules.next s') = Below (part s).needs (part s').needs
  Keeps s (rules.refuse n s') = Below (part s).needs (part s').needs × SameCounts (part s) (part s')

  refuse_keeps : (s s' : S) (r : Option ℕ) (step : rules.Step S) → Keeps s (rules.refuse 0 s') → Keeps s step → Keeps s (refuse_in s' r step)
  refuse_keeps s s' none step a b = b
  refuse_keeps s s' (some n) step a b = a

  -- rules in s, then in s₁, which has the line's needs; then the next state s₂
  pub stages_keep : (s s₁ s₂ : S) (a b : Option ℕ) (n : Places) → (part s₁).needs ≡ together (part s).needs n → SameCounts (part s) (part s₁)
      → (part s₂).needs ≡ (part s₁).needs → Keeps s (refuse_in s a (refuse_in s₁ b (rules.next s₂)))
  stages_keep s s₁ s₂ a b n e c d =
      refuse_keeps s s a (refuse_in s₁ b (rules.next s₂)) (below_self (part s).needs, same_counts (part s))
      (refuse_keeps s s₁ b (rules.next s₂) (grown (part s₁).needs e, c) (grown (part s₂).needs (let x = d in let y = e in cc)))
    where
      grown : (m : Places) → m ≡ together (part s).needs n → Below (part s).needs m
      grown m q = let k = below_together (part s).needs n in record {
        prefix = let z : m.prefix ≡ (together (part s).needs n).prefix = cc in omega (arith, z, k.prefix);
        matrix = let z : m.matrix ≡ (together (part s).needs n).matrix = cc in omega (arith, z, k.matrix);
        map = let z : m.map ≡ (together (part s).needs n).map = cc in omega (arith, z, k.map);
        proof = let z : m.proof ≡ (together (part s).needs n).proof = cc in omega (arith, z, k.proof);
        marks = let z : m.marks ≡ (together (part s).needs n).marks = cc in omega (arith, z, k.marks);
        values = let z : m.values ≡ (together (part s).needs n).values = cc in omega (arith, z, k.values);
      }

  -- what the judge of a line keeps, the judge of its bytes keeps
  pub bytes_keep : {L : Type 0} (form : List Token → Option L) (judge : S → L → rules.Step S) (s : S) → ((line : L) → Keeps s (judge s line))
      → (bs : List ℕ) → Keeps s (judge_bytes form judge s bs)
  unfolding judge_bytes
  bytes_keep form judge s keep bs = read (read_line bs)
    where
      formed : (o : Option _) → Keeps s (maybe o (rules.refuse 2 s) (judge s))
      formed none = (below_self (part s).needs, same_counts (part s))
      formed (some line) = keep line

      read : (o : Option (List Token)) → Keeps s (maybe o (rules.next s) (λ ts. maybe (form ts) (rules.refuse 2 s) (judge s)))
      read none = below_self (part s).needs
      read (some ts) = formed (form ts)
