-- Laws of the literals of a clause. Assumes nothing.
use mathlib.Core.Path.{◌≡◌, refl, sym, ◌∙◌}
use mathlib.Core.Bool.{Bool, true, false, cond}
use mathlib.Core.List.Memᴰ
use mathlib.Core.List.{List, [], ◌∷◌}
use Prim.Native.Nat.{ℕ, zero, suc, ◌<◌}
use native.Mathlib.Omega.{arith}
use lib.Dec.{eqb}
use lib.IntN.{ℤ}
use lib.ListN.{drop, length, get_or}
use Rattle.std.specs.Bool.{MatchBool}
use Rattle.std.specs.List.{list_all, AllWithin, HoldsAt}
use Rattle.std.proofs.lemmas.List.Folds.{list_all_at}
use Rattle.std.proofs.lemmas.List.Sums.{list_all-from_AllPass}
use borrow.Author.Tests.{eqb-false}
use Rattle.cells.specs.Cells.{codes_of, up_to, list_at}
use Rattle.rules.proofs.Sound.{get_or_in}
use Rattle.rules.proofs.Kit.{In, either}
use Rattle.clauses.specs.declared.Store.{Store}
use Rattle.clauses.specs.Standing.{pending, written_at}

-- ITS LITERALS ARE BETWEEN 1 AND 65535
in_drop : {m : ℕ} (i : ℕ) (xs : List ℕ) → In m (drop i xs) → In m xs
in_drop zero xs x = x
in_drop (suc i) [] x = x
in_drop (suc i) (y ∷ xs) x = Memᴰ.tail (in_drop i xs x)

in_up_to : {m : ℕ} (xs : List ℕ) → In m (up_to xs) → In m xs × (m ≡ 0 → ⊥)
unfolding up_to
in_up_to [] x = absurd (Memᴰ.not-nil x)
in_up_to {m} (y ∷ xs) x = go (eqb y 0) refl (in_up_to xs) x
  where
    go : (b : Bool) → eqb y 0 ≡ b → (In m (up_to xs) → In m xs × (m ≡ 0 → ⊥)) → In m (cond b [] (y ∷ up_to xs)) → In m (y ∷ xs) × (m ≡ 0 → ⊥)
    go true e more z = absurd (Memᴰ.not-nil z)
    go false e more z = either {D = In m (y ∷ xs) × (m ≡ 0 → ⊥)} (λ q. (Memᴰ.head q, λ k. eqb-false y 0 e (sym q ∙ k)))
        (λ w. let s = more w in (Memᴰ.tail s.0, s.1)) (Memᴰ.cases_cons z)

code_small : {m : ℕ} (t : List ℤ) → In m (codes_of t) → m < 65536
unfolding codes_of
code_small [] x = absurd (Memᴰ.not-nil x)
code_small (z ∷ t) x = either (λ e. omega arith) (code_small t) (Memᴰ.cases_cons x)

list_small : (t : List ℤ) (i m : ℕ) → In m (list_at t i) → (m < 65536) × (m ≡ 0 → ⊥)
unfolding list_at
list_small t i m x = let s = in_up_to (drop i (codes_of t)) x in (code_small t (in_drop i (codes_of t) s.0), s.1)

pub literal_small : (t : List ℤ) (i m : ℕ) → In m (list_at t i) → m < 65536
literal_small t i m x = (list_small t i m x).0

-- A TEST OF EVERY CODE, or of some, where it is known of codes alone
module _ (p : ℕ → Bool) (t : List ℤ) (i : ℕ) where
  abbrev pub Gives : Bool → ℕ → Type 0
  Gives b x = x < 65536 → p x ≡ b

  abbrev codes : List ℕ
  codes = list_at t i

  small_at : (k d : ℕ) → k < length codes → get_or codes k d < 65536
  small_at k d h = literal_small t i (get_or codes k d) (get_or_in codes k d h)

  pub all_codes : (r : Bool) → MatchBool r (AllWithin (Gives true) codes 0 (length codes)) ((k : ℕ) × (k < length codes) × HoldsAt (Gives false) codes k)
      → r ≡ list_all p codes
  all_codes true h = sym (list_all-from_AllPass p codes (λ k d l. h k d (omega arith) l (small_at k d l)))
  all_codes false h = sym (list_all_at p codes h.0 0 h.1 (h.2 0 (small_at h.0 0 h.1)))

pub pending_at : (t : List ℤ) (s : Store) → pending t s ≡ list_at t s.used
unfolding pending
pending_at t s = refl

pub written_there : (t : List ℤ) (s : Store) → list_at t (written_at s) ≡ pending t s
unfolding written_at
written_there t s = sym (pending_at t s)
