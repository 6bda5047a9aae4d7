-- Tests as equations, and lists by membership.
use mathlib.Core.Path.{◌≡◌, refl, sym, ap, ◌∙◌}
use mathlib.Core.Logic.{◌⊎◌, inl, inr}
use mathlib.Core.Bool.{Bool, true, false, not, ◌&&◌, ◌||◌, true≢false, false≢true, cond}
use mathlib.Core.List.Memᴰ
use mathlib.Core.List.{List, [], ◌∷◌, Memᴰ}
use Prim.Native.Nat.{ℕ}
use native.Mathlib.Omega.{arith}
use lib.Dec.{T, eqb, eqb→eq, eqb_refl}
use Rattle.std.specs.List.{list_any as any, list_all as all, filter as keep}
use Rattle.rules.specs.Literals.{Lit, pos, neg, var, negate, same, holds}
-- two tests that follow from each other
pub use Rattle.std.specs.Cmp.{both_ways as same_test}

pub clear : {b : Bool} → b ≡ true → b ≡ false → ⊥
clear p q = false≢true (sym q ∙ p)

pub decide : (b : Bool) → (b ≡ true) ⊎ (b ≡ false)
decide true = inl refl
decide false = inr refl

pub and_l : (a b : Bool) → (a && b) ≡ true → a ≡ true
and_l true b h = refl
and_l false b h = absurd (false≢true h)

pub and_r : (a b : Bool) → (a && b) ≡ true → b ≡ true
and_r true b h = h
and_r false b h = absurd (false≢true h)

pub and_i : (a b : Bool) → a ≡ true → b ≡ true → (a && b) ≡ true
and_i true b p q = q
and_i false b p q = p

pub or_l : (a b : Bool) → a ≡ true → (a || b) ≡ true
or_l true b p = refl
or_l false b p = absurd (false≢true p)

pub or_r : (a b : Bool) → b ≡ true → (a || b) ≡ true
or_r true b p = refl
or_r false b p = p

pub or_cases : (a b : Bool) → (a || b) ≡ true → (a ≡ true) ⊎ (b ≡ true)
or_cases true b h = inl refl
or_cases false b h = inr h

pub or_fl : (a b : Bool) → (a || b) ≡ false → a ≡ false
or_fl true b h = h
or_fl false b h = refl

pub or_fr : (a b : Bool) → (a || b) ≡ false → b ≡ false
or_fr true b h = absurd (true≢false h)
or_fr false b h = h

pub not_t : (b : Bool) → not b ≡ true → b ≡ false
not_t true h = absurd (false≢true h)
not_t false h = refl

pub not_f : (b : Bool) → not b ≡ false → b ≡ true
not_f true h = refl
not_f false h = absurd (true≢false h)

pub not_of_f : {b : Bool} → b ≡ false → not b ≡ true
not_of_f h = ap not h

-- a test is true if it is not false
pub by_no : (b : Bool) → (b ≡ false → ⊥) → b ≡ true
by_no true h = refl
by_no false h = absurd (h refl)

pub by_yes : (b : Bool) → (b ≡ true → ⊥) → b ≡ false
by_yes true h = absurd (h refl)
by_yes false h = refl

of_t : (b : Bool) → T b → b ≡ true
of_t true t = refl
of_t false t = absurd t

to_t : (b : Bool) → b ≡ true → T b
to_t true e = tt
to_t false e = false≢true e

pub eqb_eq : (m n : ℕ) → eqb m n ≡ true → m ≡ n
eqb_eq m n h = eqb→eq m n (to_t (eqb m n) h)

pub eqb_self : (n : ℕ) → eqb n n ≡ true
eqb_self n = of_t (eqb n n) (eqb_refl n)

pub eqb_sym : (m n : ℕ) → eqb m n ≡ eqb n m
eqb_sym m n = same_test (eqb m n) (eqb n m) (turned m n) (turned n m)
  where
    turned : (m n : ℕ) → eqb m n ≡ true → eqb n m ≡ true
    turned m n h = ap (eqb n) (eqb_eq m n h) ∙ eqb_self n

pub same_eq : (l m : Lit) → same l m ≡ true → l ≡ m
same_eq (pos v) (pos w) h = ap pos (eqb_eq v w h)
same_eq (pos v) (neg w) h = absurd (false≢true h)
same_eq (neg v) (pos w) h = absurd (false≢true h)
same_eq (neg v) (neg w) h = ap neg (eqb_eq v w h)

pub same_self : (l : Lit) → same l l ≡ true
same_self (pos v) = eqb_self v
same_self (neg v) = eqb_self v

pub negate_twice : (l : Lit) → negate (negate l) ≡ l
negate_twice (pos v) = refl
negate_twice (neg v) = refl

sum_map : {B C D : Type 0} → (C → D) → B ⊎ C → B ⊎ D
sum_map f (inl b) = inl b
sum_map f (inr c) = inr (f c)

pub either : {B C D : Type 0} → (B → D) → (C → D) → B ⊎ C → D
either f g (inl b) = f b
either f g (inr c) = g c

module _ {A : Type 0} where
  abbrev pub In : A → List A → Type 0
  In x xs = Memᴰ x xs

  pub all_in : (p : A → Bool) {x : A} {xs : List A} → all p xs ≡ true → In x xs → p x ≡ true
  all_in p h (Memᴰ.head {x = y} {xs = ys} e) = ap p e ∙ and_l (p y) (all p ys) h
  all_in p h (Memᴰ.tail {x = y} {xs = ys} m) = all_in p (and_r (p y) (all p ys) h) m

  pub in_all_lem : (p : A → Bool) (xs : List A) → ((x : A) → In x xs → p x ≡ true) → all p xs ≡ true
  in_all_lem p [] h = refl
  in_all_lem p (x ∷ xs) h =
      and_i (p x) (all p xs) (h x (Memᴰ.head refl)) (in_all_lem p xs λ y m. h y (Memᴰ.tail m))

  pub in_any : (p : A → Bool) {x : A} {xs : List A} → In x xs → p x ≡ true → any p xs ≡ true
  in_any p (Memᴰ.head {x = y} {xs = ys} e) h = or_l (p y) (any p ys) (sym (ap p e) ∙ h)
  in_any p (Memᴰ.tail {x = y} {xs = ys} m) h = or_r (p y) (any p ys) (in_any p m h)

  abbrev pub Some : (A → Bool) → List A → Type 0
  Some p xs = (x : A) × In x xs × (p x ≡ true)

  some_cons : (p : A → Bool) (x : A) (xs : List A) → (p x ≡ true) ⊎ Some p xs → Some p (x ∷ xs)
  some_cons p x xs (inl h) = (x, Memᴰ.head refl, h)
  some_cons p x xs (inr s) = (s.0, Memᴰ.tail s.1, s.2)

  pub any_in : (p : A → Bool) (xs : List A) → any p xs ≡ true → Some p xs
  any_in p [] h = absurd (false≢true h)
  any_in p (x ∷ xs) h = some_cons p x xs (sum_map (any_in p xs) (or_cases (p x) (any p xs) h))

  keep_cons : (b : Bool) {x : A} (y : A) (xs : List A) → b ≡ true → x ≡ y → In x (cond b (y ∷ xs) xs)
  keep_cons true y xs h e = Memᴰ.head e
  keep_cons false y xs h e = absurd (false≢true h)

  keep_more : (b : Bool) {x : A} (y : A) {xs : List A} → In x xs → In x (cond b (y ∷ xs) xs)
  keep_more true y m = Memᴰ.tail m
  keep_more false y m = m

  pub keep_in : (p : A → Bool) {x : A} {xs : List A} → In x xs → p x ≡ true → In x (keep p xs)
  keep_in p (Memᴰ.head {x = y} {xs = ys} e) h = keep_cons (p y) y (keep p ys) (sym (ap p e) ∙ h) e
  keep_in p (Memᴰ.tail {x = y} {xs = ys} m) h = keep_more (p y) y (keep_in p m h)

  pub in_keep : (p : A → Bool) (x : A) (xs : List A) → In x (keep p xs) → In x xs × (p x ≡ true)
  in_keep p x [] m = absurd (Memᴰ.not-nil m)
  in_keep p x (y ∷ ys) m = split (p y) refl (in_keep p x ys) m
    where
      more : In x ys × (p x ≡ true) → In x (y ∷ ys) × (p x ≡ true)
      more s = (Memᴰ.tail s.0, s.1)

      split : (b : Bool) → p y ≡ b → (In x (keep p ys) → In x ys × (p x ≡ true))
          → In x (cond b (y ∷ keep p ys) (keep p ys)) → In x (y ∷ ys) × (p x ≡ true)
      split true e k m' = either (λ q. (Memᴰ.head q, ap p q ∙ e)) (λ m''. more (k m'')) (Memᴰ.cases_cons m')
      split false e k m' = more (k m')

pub holds_in : (ls : List Lit) (l : Lit) → holds ls l ≡ true → In l ls
holds_in ls l h = found (any_in (same l) ls h)
  where
    found : Some (same l) ls → In l ls
    found s = mathlib.Core.List.Memᴰ.cast (same_eq l s.0 s.2) s.1

pub in_holds : (ls : List Lit) (l : Lit) → In l ls → holds ls l ≡ true
in_holds ls l m = in_any (same l) m (same_self l)

-- a literal and its negation
pub var_negate : (l : Lit) → var (negate l) ≡ var l
var_negate (pos v) = refl
var_negate (neg v) = refl

pub negate_other : (l : Lit) → negate l ≡ l → ⊥
negate_other (pos v) e = let z : ◌≡◌ {A = ℕ} 0 1 = cc in omega arith
negate_other (neg v) e = let z : ◌≡◌ {A = ℕ} 0 1 = cc in omega arith
