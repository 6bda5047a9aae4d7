-- The hints of an `o` line that was read are positive.
use mathlib.Core.Path.{◌≡◌, refl, ap, ◌∙◌}
use mathlib.Core.Bool.{Bool, true, false}
use mathlib.Core.List.Memᴰ
use mathlib.Core.List.{List, [], ◌∷◌}
use mathlib.Core.Option.{Option, none, some}
use Prim.Native.Nat.{ℕ}
use lib.Dec.{eqb}
use lib.ListN.{length}
use Rattle.lines.specs.Bytes.{bytes, same_bytes}
use Rattle.lines.specs.Lines.{Token, number, minus, word, nothing_more}
use Rattle.rules.specs.Literals.{Lits}
use Rattle.rules.specs.Forms.{CertificateLine, mapping, hints, expansion, addition, deletion, numeral, literal, ahead, up_to_zero, provided, ◌>>=◌, clause_form, mapping_form, hints_form, certificate_line}
use Rattle.rules.proofs.Kit.{either, In}

abbrev pub Positive : List ℕ → Type 0
Positive ns = (n : ℕ) → In n ns → eqb n 0 ≡ false

-- what numbers read up to a zero are
abbrev pub NumbersRead : Option (List ℕ × List Token) → Type 0
NumbersRead none = Unit {0}
NumbersRead (some r) = Positive r.0

ahead_positive : (n : ℕ) (o : Option (List ℕ × List Token)) → eqb n 0 ≡ false → NumbersRead o → NumbersRead (ahead (some n) o)
ahead_positive n none e r = tt
ahead_positive n (some q) e r = λ m i. either (λ p. ap (λ k. eqb k 0) p ∙ e) (r m) (Memᴰ.cases_cons i)

pub up_to_zero_positive : (ts : List Token) → NumbersRead (up_to_zero numeral ts)
up_to_zero_positive [] = tt
up_to_zero_positive (number n ∷ ts) = go (eqb n 0) refl (up_to_zero_positive ts)
  where
    go : (b : Bool) → eqb n 0 ≡ b → NumbersRead (up_to_zero numeral ts)
        → NumbersRead (elim b as (λ _. Option (List ℕ × List Token)) [ true ↦ some ([], ts) | false ↦ ahead (some n) (up_to_zero numeral ts) ])
    go true e r = λ m i. absurd (Memᴰ.not-nil i)
    go false e r = ahead_positive n (up_to_zero numeral ts) e r
up_to_zero_positive (minus n ∷ ts) = tt
up_to_zero_positive (word w ∷ ts) = tt

-- what a line that was read is
abbrev pub HintsPositive : CertificateLine → Type 0
HintsPositive (mapping ps es ls) = Unit {0}
HintsPositive (hints ns) = Positive ns
HintsPositive (expansion c) = Unit {0}
HintsPositive (addition c) = Unit {0}
HintsPositive (deletion c) = Unit {0}

abbrev pub LineRead : Option CertificateLine → Type 0
LineRead none = Unit {0}
LineRead (some line) = HintsPositive line

provided_read : (b : Bool) (line : CertificateLine) → HintsPositive line → LineRead (provided b line)
provided_read true line p = p
provided_read false line p = tt

bind_read : {A : Type 0} (o : Option A) (k : A → Option CertificateLine) → ((a : A) → LineRead (k a)) → LineRead (o >>= k)
bind_read none k p = tt
bind_read (some a) k p = p a

clause_read : (kind : Lits → CertificateLine) → ((c : Lits) → HintsPositive (kind c)) → (ts : List Token) → LineRead (clause_form kind ts)
clause_read kind p ts = bind_read (up_to_zero literal ts) _ λ r. provided_read (nothing_more r.1) (kind r.0) (p r.0)

mapping_read : (ts : List Token) → LineRead (mapping_form ts)
mapping_read ts =
    bind_read (up_to_zero numeral ts) _ λ p.
    bind_read (up_to_zero numeral p.1) _ λ e.
    bind_read (up_to_zero literal e.1) _ λ l.
    ends (nothing_more l.1) (eqb (length p.0) (length e.0)) p.0 e.0 l.0
  where
    ends : (a b : Bool) (ps es : List ℕ) (ls : Lits) → LineRead (provided a (mapping ps es ls) >>= λ line. provided b line)
    ends true true ps es ls = tt
    ends true false ps es ls = tt
    ends false b ps es ls = tt

hints_read : (ts : List Token) → LineRead (hints_form ts)
hints_read ts = go (up_to_zero numeral ts) (up_to_zero_positive ts)
  where
    go : (o : Option (List ℕ × List Token)) → NumbersRead o → LineRead (o >>= λ r. provided (nothing_more r.1) (hints r.0))
    go none p = tt
    go (some r) p = provided_read (nothing_more r.1) (hints r.0) p

either_read : (b : Bool) (x y : Option CertificateLine) → LineRead x → LineRead y
    → LineRead (elim b as (λ _. Option CertificateLine) [ true ↦ x | false ↦ y ])
either_read true x y p q = p
either_read false x y p q = q

pub certificate_read : (ts : List Token) → LineRead (certificate_line ts)
unfolding certificate_line
certificate_read [] = tt
certificate_read (number n ∷ ts) = clause_read addition (λ c. tt) (number n ∷ ts)
certificate_read (minus n ∷ ts) = clause_read addition (λ c. tt) (minus n ∷ ts)
certificate_read (word w ∷ ts) =
    either_read (same_bytes w (bytes "x")) _ _ (mapping_read ts)
    (either_read (same_bytes w (bytes "o")) _ _ (hints_read ts)
    (either_read (same_bytes w (bytes "e")) _ _ (clause_read expansion (λ c. tt) ts)
    (either_read (same_bytes w (bytes "d")) _ _ (clause_read deletion (λ c. tt) ts) tt)))
