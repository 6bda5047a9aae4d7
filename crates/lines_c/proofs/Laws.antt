-- Laws of the largest literal. Assumes nothing.
use mathlib.Core.Path.{◌≡◌, ap, ap₂, sym, ◌∙◌}
use mathlib.Core.List.{List, [], ◌∷◌}
use mathlib.Core.Logic.{◌⊎◌, inl, inr}
use Prim.Native.Nat.{ℕ, ◌+◌, ◌*◌, min, max}
use native.Mathlib.Omega.{arith}
use lib.ListN.{length}
use Rattle.std.specs.List.{fold}
use Rattle.std.proofs.lemmas.Iterator.{YieldsList}
use Rattle.std.proofs.lemmas.Iterator.Consumers.{YieldsList-from_shown}
use Rattle.std.specs.Prelude.{None, Some}
use Rattle.lines.specs.Lines.{read_line, Token, number, minus, word}
use Rattle.lines.specs.Scan.{cap, tokens_from, head_of}
use Rattle.lines.specs.Literals.{literals_line, literals_at, GivesLiteral}
use Rattle.lines.specs.declared.Head.{Head}
use Rattle.lines.specs.declared.Literals.{Literals}
use Rattle.lines.proofs.Words.{Coded, literal_told, literal_lost}
use Rattle.lines.proofs.Heads.{head_skipped, head_letter, head_other}
use Rattle.lines_c.specs.Largest.{largest, in_line, in_lines}

-- the codes of the literals in front
unfoldable pub codes : List Token → List ℕ
codes [] = []
codes (number n ∷ ts) = (2 * min cap n) ∷ codes ts
codes (minus n ∷ ts) = (2 * min cap n + 1) ∷ codes ts
codes (word w ∷ ts) = []

coded : (t : Token) (ts : List Token) (x : ℕ) → Coded t x → codes (t ∷ ts) ≡ x ∷ codes ts
unfolding codes
coded (number n) ts x k = ap (λ y. y ∷ codes ts) (sym k)
coded (minus n) ts x k = ap (λ y. y ∷ codes ts) (sym k.0)
coded (word w) ts x k = absurd k

unfoldable pub codes_left : Literals → List ℕ
codes_left s = codes (tokens_from (literals_line s) (literals_at s))

-- the iterator gives these
pub codes_given : (s : Literals) → YieldsList GivesLiteral (λ p. p.0) s (codes_left s)
unfolding codes codes_left
codes_given = YieldsList-from_shown GivesLiteral (λ p. p.0) codes_left none one
  where
    none : (s t : Literals) → GivesLiteral s None t → length (codes_left s) ≡ 0
    none s t g = go (literal_lost (literals_line s) (literals_at s) g.0)
      where
        go : (tokens_from (literals_line s) (literals_at s) ≡ []) ⊎ ((w : List ℕ) × (ts : List Token) × (tokens_from (literals_line s) (literals_at s) ≡ word w ∷ ts)) → length (codes_left s) ≡ 0
        go (inl e) = ap (λ ts. length (codes ts)) e
        go (inr k) = ap (λ ts. length (codes ts)) k.2

    one : (s : Literals) (p : ℕ × ℕ) (t : Literals) → GivesLiteral s (Some p) t → codes_left s ≡ p.0 ∷ codes_left t
    one s p t g =
        let k = literal_told (literals_line s) (literals_at s) g.0 in
        ap codes k.first ∙ coded k.token (tokens_from (literals_line s) p.1) p.0 k.code ∙ ap₂ (λ l i. p.0 ∷ codes (tokens_from l i)) (sym g.1) (sym g.2)

largest_of : (ts : List Token) (a : ℕ) → fold (λ a x. max x a) a (codes ts) ≡ max (largest ts) a
unfolding codes largest
largest_of [] a = omega arith
largest_of (number n ∷ ts) a = largest_of ts (max (2 * min cap n) a) ∙ omega arith
largest_of (minus n ∷ ts) a = largest_of ts (max (2 * min cap n + 1) a) ∙ omega arith
largest_of (word w ∷ ts) a = omega arith

pub largest_left : (s : Literals) (bs : List ℕ) → (literals_line s ≡ bs) × (literals_at s ≡ 0) → fold (λ a x. max x a) 0 (codes_left s) ≡ largest (tokens_from bs 0)
unfolding codes_left
largest_left s bs e = largest_of (tokens_from (literals_line s) (literals_at s)) 0 ∙ omega (arith, ap₂ (λ l i. largest (tokens_from l i)) e.0 e.1)

largest_line : (ls : List (List ℕ)) (a : ℕ) → fold (λ a l. max (in_line (read_line l)) a) a ls ≡ max (in_lines ls) a
unfolding in_lines
largest_line [] a = omega arith
largest_line (l ∷ ls) a = largest_line ls (max (in_line (read_line l)) a) ∙ omega arith

pub largest_lines : (ls : List (List ℕ)) → fold (λ a l. max (in_line (read_line l)) a) 0 ls ≡ in_lines ls
largest_lines ls = largest_line ls 0 ∙ omega arith

module _ (bs : List ℕ) where
  pub skipped : head_of bs ≡ Head.Skipped → 0 ≡ in_line (read_line bs)
  skipped h = sym (ap in_line (head_skipped bs h))

  pub lettered : {b e : ℕ} → head_of bs ≡ Head.Letter b e → {r : ℕ} → r ≡ largest (tokens_from bs 0) → r ≡ in_line (read_line bs)
  lettered h q = q ∙ sym (ap in_line (head_letter bs h).0)

  pub other : head_of bs ≡ Head.Other → {r : ℕ} → r ≡ largest (tokens_from bs 0) → r ≡ in_line (read_line bs)
  other h q = q ∙ sym (ap in_line (head_other bs h).2)
