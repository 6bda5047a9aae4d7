-- Laws of the loop over the certificate's lines. Assumes nothing.
use mathlib.Core.Path.{◌≡◌, refl, ap, sym, ◌∙◌, subst}
use mathlib.Core.List.{List, [], ◌∷◌}
use Prim.Native.Nat.{ℕ, ◌+◌, ◌-◌, ◌≤◌}
use native.Mathlib.Omega.{arith}
use lib.ListN.{length}
use Rattle.std.specs.Prelude.{Result, Ok, Err}
use Rattle.rules.specs.declared.Rule.{Rule}
use Rattle.rules.specs.Rule.{broken}
use Rattle.lines.specs.Lines.{lines_of}
use Rattle.lines.specs.Each.{bytes_in}
use Rattle.lines.proofs.LinesLeft.{bytes_of_lines}
use Rattle.rules.specs.Formula.{Formula}
use Rattle.rules.specs.Limits.{limits}
use Rattle.tables.specs.Tables.{Tables, lengths_of}
use Rattle.reading.specs.declared.Ended.{Ended}
use Rattle.reading.specs.Ends.{EndedAs, ended_by}
use Rattle.reading.specs.Lines.{Rules, read_by, Code, Leads, AnyLine, Going, CertificateRead}
use Rattle.reading.proofs.GoingLaws.{Apt, numbered, going_start, going_next, going_refused, going_last}

-- the four tables that change keep their lengths
abbrev pub Long : Tables → Tables → Type 0
Long t u =
    (length u.map ≡ length t.map) × (length u.proof ≡ length t.proof) × (length u.marks ≡ length t.marks)
    × (length u.values ≡ length t.values)

pub long_then : (t u v : Tables) → Long t u → Long u v → Long t v
long_then t u v a b = (b.0 ∙ a.0, b.1 ∙ a.1, b.2 ∙ a.2, b.3 ∙ a.3)

-- as all six do
pub long_of : (t u : Tables) → lengths_of u ≡ lengths_of t → Long t u
long_of t u e = (ap (λ n. n.map) e, ap (λ n. n.proof) e, ap (λ n. n.marks) e, ap (λ n. n.values) e)

module _ {S P W : Type 0} (R : Rules S) (C : Code S P W) where
  -- BETWEEN TWO LINES, for each formula that was shown at the start: line k comes next, and these are left
  pub record Midway (bs : List ℕ) (p₀ : P) (t₀ : Tables) (w₀ : W) (k : ℕ) (ls : List (List ℕ)) (p : P) (t : Tables) (w : W) : Type 0 where
    pub read : ℕ
    pub next : k ≡ read + 1
    pub going : (f : Formula) → C.Shown p₀ t₀ w₀ f (R.start f) → C.weight p₀ ≡ 0 → Going R C bs f t₀ read ls p t w
    pub count : read + bytes_in ls ≤ length bs + 1
    pub long : Long t₀ t

module _ {S P W : Type 0} {R : Rules S} {C : Code S P W} (apt : Apt R C) where
  pub midway_start : {bs : List ℕ} {p : P} {t : Tables} {w : W} {k : ℕ} {ls : List (List ℕ)} → ls ≡ lines_of bs → k ≡ 1 → Midway R C bs p t w k ls p t w
  midway_start {bs} {p} {t} {w} {k} {ls} i first = record {
    read = 0;
    next = first;
    going = λ f h e. going_start R C apt bs f t p w i h e;
    count = omega (arith, ap bytes_in i, bytes_of_lines bs);
    long = (refl, refl, refl, refl);
  }

  module _ {bs : List ℕ} {p₀ : P} {t₀ : Tables} {w₀ : W} {k : ℕ} {ls : List (List ℕ)} {p : P} {t : Tables} {w : W} (m : Midway R C bs p₀ t₀ w₀ k ls p t w) where
    -- the numbers of the lines do not end before the lines
    pub midway_short : length bs ≤ 1048576 → 4294967295 - k ≡ 0 → ⊥
    midway_short z e = omega (arith, m.count, m.next)

    -- no line is left
    pub midway_last : ls ≡ [] → (j : Result (Unit {0}) Rule) → ((f : Formula) (s : S) → C.Shown p t w f s → R.at_end s ≡ numbered (broken j))
        → {y : Ended} → y ≡ ended_by j (C.counts p) → CertificateRead R C bs p₀ t₀ w₀ y t
    midway_last i j c {y} d f a b =
        subst (λ y. EndedAs R.part t₀ (read_by R (limits (lengths_of t₀)) f bs) y t) (sym d)
        (going_last R C apt bs f t₀ (m.going f a b) i j (c f))

    module _ {line : List ℕ} {rest : List (List ℕ)} (h : ls ≡ line ∷ rest) where
      module _ (z : length bs ≤ 1048576) (u : Tables) (v : W) {r : Result P Rule} (x : AnyLine R C line p t w r u v) where
        -- the step at the line's state
        stepped : (f : Formula) (g : Going R C bs f t₀ m.read ls p t w) {a : Result P Rule} → r ≡ a
            → Leads R C f p (length line) t (R.judge (limits (lengths_of t)) f g.state line) a u v
        stepped f g {a} i =
            subst (λ y. Leads R C f p (length line) t (R.judge (limits (lengths_of t)) f g.state line) y u v) i
            (x.steps f g.state g.shown (omega (arith, g.light, z, ap bytes_in h)))

        pub midway_next : (q : P) → r ≡ Ok q → {l : ℕ} → l ≡ k + 1 → Long t u → Midway R C bs p₀ t₀ w₀ l rest q u v
        midway_next q i next keeps = record {
          read = m.read + 1;
          next = next ∙ ap (λ n. n + 1) m.next;
          going = λ f a b. let g = m.going f a b in going_next R C apt bs f t₀ g h u v (stepped f g i);
          count = omega (arith, m.count, ap bytes_in h);
          long = long_then t₀ t u m.long keeps;
        }

        pub midway_refused : (j : Rule) → r ≡ Err j → {l : ℕ} → l ≡ k
            → CertificateRead R C bs p₀ t₀ w₀ (record { outcome = Err (record { rule = j; line = l }); counts = C.counts p }) u
        midway_refused j i {l} same f a b =
            let g = m.going f a b in
            subst (λ l. EndedAs R.part t₀ (read_by R (limits (lengths_of t₀)) f bs) (record { outcome = Err (record { rule = j; line = l }); counts = C.counts p }) u)
            (sym (same ∙ m.next)) (going_refused R C apt bs f t₀ g h u v j (stepped f g i))
