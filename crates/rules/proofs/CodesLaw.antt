-- Codes and literals are the same thing. Assumes nothing.
use mathlib.Core.Path.{◌≡◌, refl, sym, ap, ap₂, ◌∙◌}
use mathlib.Core.Bool.{Bool, true, false, cond}
use mathlib.Core.List.{[], ◌∷◌, map}
use Prim.Native.Nat.{ℕ, ◌+◌, ◌*◌, ◌/◌, ◌%◌}
use native.Mathlib.Omega.{arith}
use lib.Dec.{eqb}
use borrow.Author.Tests.{eq-eqb, ne_eqb, eqb-true, eqb-false}
use Rattle.rules.specs.Basics.{is_in}
use Rattle.rules.specs.Literals.{Lit, pos, neg, Lits, var, negate, same, holds}
use Rattle.rules.specs.Codes.{code_of, lit_of, flip}
use Rattle.rules.proofs.Kit.{same_eq, same_self, by_yes}

pub lit_code : (l : Lit) → lit_of (code_of l) ≡ l
unfolding lit_of
lit_code (pos n) =
    let e : (2 * n + 0) % 2 ≡ 0 = omega arith in
    let d : (2 * n + 0) / 2 ≡ n = omega arith in
    ap₂ (λ b v. cond b (pos v) (neg v)) (eq-eqb ((2 * n + 0) % 2) 0 e) d
lit_code (neg n) =
    let e : (2 * n + 1) % 2 ≡ 0 → ⊥ = λ h. omega arith in
    let d : (2 * n + 1) / 2 ≡ n = omega arith in
    ap₂ (λ b v. cond b (pos v) (neg v)) (ne_eqb ((2 * n + 1) % 2) 0 e) d

pub code_lit : (c : ℕ) → code_of (lit_of c) ≡ c
unfolding lit_of
code_lit c = go (eqb (c % 2) 0) refl
  where
    go : (b : Bool) → eqb (c % 2) 0 ≡ b → code_of (cond b (pos (c / 2)) (neg (c / 2))) ≡ c
    go true e = let h : c % 2 ≡ 0 = eqb-true (c % 2) 0 e in omega arith
    go false e = let h : c % 2 ≡ 0 → ⊥ = eqb-false (c % 2) 0 e in omega (arith, h)

-- the code of a literal's negation, and the literal of a code's
pub code_negate : (l : Lit) → code_of (negate l) ≡ flip (code_of l)
unfolding flip
code_negate (pos n) = omega arith
code_negate (neg n) = omega arith

pub lit_flip : (c : ℕ) → lit_of (flip c) ≡ negate (lit_of c)
lit_flip c = ap lit_of (ap flip (sym (code_lit c)) ∙ sym (code_negate (lit_of c))) ∙ lit_code (negate (lit_of c))

pub flip_twice : (c : ℕ) → flip (flip c) ≡ c
unfolding flip
flip_twice c = omega arith

-- the variable of a code
pub var_code : (l : Lit) → code_of l / 2 ≡ var l
var_code (pos n) = omega arith
var_code (neg n) = omega arith

-- the same literal is the same code
pub same_code : (l m : Lit) → same l m ≡ eqb (code_of l) (code_of m)
same_code l m = go (eqb (code_of l) (code_of m)) refl
  where
    go : (b : Bool) → eqb (code_of l) (code_of m) ≡ b → same l m ≡ b
    go true e =
        let q : l ≡ m = sym (lit_code l) ∙ ap lit_of (eqb-true (code_of l) (code_of m) e) ∙ lit_code m in
        ap (same l) (sym q) ∙ same_self l
    go false e = by_yes (same l m) (λ h. eqb-false (code_of l) (code_of m) e (ap code_of (same_eq l m h)))

pub holds_code : (c : Lits) (l : Lit) → holds c l ≡ is_in (map code_of c) (code_of l)
holds_code [] l = refl
holds_code (m ∷ c) l = ap₂ (λ a b. mathlib.Core.Bool.◌||◌ a b) (same_code l m) (holds_code c l)

pub lits_codes : (c : Lits) → map lit_of (map code_of c) ≡ c
lits_codes [] = refl
lits_codes (l ∷ c) = ap₂ (λ x y. x ∷ y) (lit_code l) (lits_codes c)
