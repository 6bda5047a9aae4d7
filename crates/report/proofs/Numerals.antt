-- Numerals: the fuel does not matter; one digit, or one more than a tenth has; below 2^64 those of the library, at most ten below 2^32.
-- Assumes nothing.
use mathlib.Core.Path.{◌≡◌, refl, sym, ap, ◌∙◌}
use mathlib.Core.Bool.{Bool, true, false}
use mathlib.Core.List.{[], ◌∷◌, ◌++◌}
use Prim.Native.Nat.{ℕ, zero, suc, ◌+◌, ◌/◌, ◌%◌, ◌^◌, ◌<◌, ◌≤◌}
use native.Mathlib.Omega.{arith}
use lib.Dec.{ltb}
use lib.ListN.{length, length-append}
use borrow.Author.Tests.{ltb-true, ltb-false, lt-ltb, le-ltb}
use Rattle.std.specs.Fmt.{decimal}
use Rattle.std.proofs.lemmas.Fmt.{AppendsLastDigit, decimal_from_appends, length-decimal-le, length-decimal-le_succ}
use Rattle.rules.specs.Render.{digits}
use Rattle.report.specs.Written.{numeral}

digits_one : (m n : ℕ) → n < 10 → digits (suc m) n ≡ (48 + n) ∷ []
digits_one m n h = rw (lt-ltb n 10 h, digits)

digits_more : (m n : ℕ) → 10 ≤ n → digits (suc m) n ≡ digits m (n / 10) ++ ((48 + n % 10) ∷ [])
digits_more m n h = rw (le-ltb n 10 h, digits)

-- below both fuels, they give the same digits
digits_fuel : (m p n : ℕ) → n < m → n < p → digits m n ≡ digits p n
digits_fuel (suc m) (suc p) n h g = go (ltb n 10) refl (λ f. digits_fuel m p (n / 10) (omega arith) (omega arith))
  where
    go : (b : Bool) → ltb n 10 ≡ b → (10 ≤ n → digits m (n / 10) ≡ digits p (n / 10)) → digits (suc m) n ≡ digits (suc p) n
    go true e f = digits_one m n (ltb-true n 10 e) ∙ sym (digits_one p n (ltb-true n 10 e))
    go false e f =
        let l : 10 ≤ n = ltb-false n 10 e in
        digits_more m n l ∙ ap (λ ds. ds ++ ((48 + n % 10) ∷ [])) (f l) ∙ sym (digits_more p n l)
digits_fuel zero p n h g = absurd (omega arith)
digits_fuel (suc m) zero n h g = absurd (omega arith)

last_digit : AppendsLastDigit digits
last_digit = record { one = digits_one; more = digits_more }

numeral_is : (n : ℕ) → n < 2 ^ 64 → numeral n ≡ decimal n
unfolding numeral
numeral_is n h = decimal_from_appends digits last_digit (suc n) n h (omega (arith, length-decimal-le_succ n h))

pub numeral_one : (n : ℕ) {d : ℕ} → n < 10 → d ≡ 48 + n → d ∷ [] ≡ numeral n
unfolding numeral
numeral_one n h e = ap (λ b. b ∷ []) e ∙ sym (digits_one n n h)

pub numeral_more : (n : ℕ) {d : ℕ} → 10 ≤ n → d ≡ 48 + n % 10 → numeral (n / 10) ++ (d ∷ []) ≡ numeral n
unfolding numeral
numeral_more n h e =
    ap (λ b. digits (suc (n / 10)) (n / 10) ++ (b ∷ [])) e
    ∙ ap (λ ds. ds ++ ((48 + n % 10) ∷ [])) (digits_fuel (suc (n / 10)) n (n / 10) (omega arith) (omega arith))
    ∙ sym (digits_more n n h)

pub one_long : (n : ℕ) → n < 10 → length (numeral n) ≡ 1
one_long n h = ap length (sym (numeral_one n h refl))

pub numeral_longer : (n : ℕ) → 10 ≤ n → length (numeral n) ≡ length (numeral (n / 10)) + 1
numeral_longer n h = ap length (sym (numeral_more n h refl)) ∙ length-append (numeral (n / 10)) ((48 + n % 10) ∷ [])

pub numeral_short : (n : ℕ) → n < 2 ^ 32 → length (numeral n) ≤ 10
numeral_short n h = rw (numeral_is n (omega arith)) (length-decimal-le 10 n (omega arith) (omega arith) (omega arith))
