-- The number of an expansion that was read is positive.
use mathlib.Core.Path.{◌≡◌}
use mathlib.Core.Bool.{Bool, true, false, not}
use mathlib.Core.List.Memᴰ
use mathlib.Core.List.{List, [], ◌∷◌}
use mathlib.Core.Path.{refl}
use mathlib.Core.Option.{Option, none, some}
use Prim.Native.Nat.{ℕ}
use lib.Dec.{eqb}
use Rattle.lines.specs.Bytes.{bytes, same_bytes}
use Rattle.lines.specs.Lines.{Token, number, minus, word, nothing_more}
use Rattle.rules.specs.Literals.{Lits}
use Rattle.rules.specs.Forms as ferat
use Rattle.rules.specs.Forms.{CertificateLine, numeral, literal, one, up_to_zero, provided, mapping_form, ◌>>=◌}
use Rattle.rules.proofs.HintsForm.{NumbersRead, up_to_zero_positive}
use Rattle.ferp_rules.specs.Forms.{FerpLine, mapping, expansion, resolution, same_mapping, derivation, derivation_form, ferp_line}

abbrev pub NumberPositive : FerpLine → Type 0
NumberPositive (mapping ps es ls) = Unit {0}
NumberPositive (expansion i c n) = eqb n 0 ≡ false
NumberPositive (resolution i c a b) = Unit {0}

abbrev pub LineRead : Option FerpLine → Type 0
LineRead none = Unit {0}
LineRead (some line) = NumberPositive line

bind_read : {A : Type 0} (o : Option A) (k : A → Option FerpLine) → ((a : A) → LineRead (k a)) → LineRead (o >>= k)
bind_read none k p = tt
bind_read (some a) k p = p a

provided_read : (b : Bool) (line : FerpLine) → NumberPositive line → LineRead (provided b line)
provided_read true line p = p
provided_read false line p = tt

twice_read : (a b : Bool) (line : FerpLine) → NumberPositive line → LineRead (provided a line >>= λ l. provided b l)
twice_read true b line p = provided_read b line p
twice_read false b line p = tt

numbers_read : (i : ℕ) (c : Lits) (o : Option (List ℕ × List Token)) → NumbersRead o
    → LineRead (o >>= λ r. derivation i c r.0 >>= λ line. provided (nothing_more r.1) line >>= λ l. provided (not (eqb i 0)) l)
numbers_read i c none p = tt
numbers_read i c (some ([], ts)) p = tt
numbers_read i c (some ((n ∷ []), ts)) p = twice_read (nothing_more ts) (not (eqb i 0)) (expansion i c n) (p n (Memᴰ.head refl))
numbers_read i c (some ((a ∷ b ∷ []), ts)) p = twice_read (nothing_more ts) (not (eqb i 0)) (resolution i c a b) tt
numbers_read i c (some ((a ∷ b ∷ n ∷ ns), ts)) p = tt

pub derivation_read : (ts : List Token) → LineRead (derivation_form ts)
derivation_read ts =
    bind_read (one numeral ts) _ λ i.
    bind_read (up_to_zero literal i.1) _ λ c.
    numbers_read i.0 c.0 (up_to_zero numeral c.1) (up_to_zero_positive c.1)

mapping_read : (o : Option CertificateLine) → LineRead (o >>= same_mapping)
mapping_read none = tt
mapping_read (some (ferat.mapping ps es ls)) = tt
mapping_read (some (ferat.hints ns)) = tt
mapping_read (some (ferat.expansion c)) = tt
mapping_read (some (ferat.addition c)) = tt
mapping_read (some (ferat.deletion c)) = tt

either_read : (b : Bool) (x y : Option FerpLine) → LineRead x → LineRead y
    → LineRead (elim b as (λ _. Option FerpLine) [ true ↦ x | false ↦ y ])
either_read true x y p q = p
either_read false x y p q = q

pub ferp_read : (ts : List Token) → LineRead (ferp_line ts)
unfolding ferp_line
ferp_read [] = tt
ferp_read (number n ∷ ts) = derivation_read (number n ∷ ts)
ferp_read (minus n ∷ ts) = derivation_read (minus n ∷ ts)
ferp_read (word w ∷ ts) = either_read (same_bytes w (bytes "x")) _ _ (mapping_read (mapping_form ts)) tt
