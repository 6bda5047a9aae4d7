-- What stays on the trail between lines follows from the standing clauses alone. Assumes nothing.
use mathlib.Core.Path.{◌≡◌, refl, sym, ◌∙◌, ap, subst}
use mathlib.Core.List.Memᴰ
use mathlib.Core.List.{List, [], ◌∷◌, ◌++◌}
use Prim.Native.Nat.{ℕ, ◌<◌}
use lib.IntN.{ℤ}
use lib.ListN.{get_or}
use Rattle.clauses.specs.declared.Store.{Store}
use Rattle.clauses.specs.Standing.{standing, places_of, grown, pending, Pended, Stood}
use Rattle.rules.specs.Literals.{Lits}
use Rattle.rules.specs.Codes.{flip}
use Rattle.std.specs.Prelude.{Option, Some, None}
use Rattle.trail.specs.Trail.{Ready}
use Rattle.propagation.specs.Answers.{In, Good, Holds, Moved, Turned, Held}
use Rattle.propagation.proofs.AnswerLaws.{turned_clash, turned_moved}

module _ {S : List (List ℕ)} where
  pub held_moved : {f₀ t₀ : List ℕ} {n₀ : ℕ} {f t : List ℕ} {n : ℕ} → Held S f₀ t₀ n₀ → Moved (Good S) f₀ t₀ n₀ f t n → Held S f t n
  held_moved h m = record { ready = m.ready; based = λ Q g. m.sound Q g (h.based Q g) }

  pub held_kept : {f t : List ℕ} {n : ℕ} {f' t' : List ℕ} → Held S f t n → Ready f' t' n → ((k : ℕ) → k < n → get_or t' k 0 ≡ get_or t k 0) → Held S f' t' n
  held_kept h r e = record { ready = r; based = unfold Holds in (λ Q g k lt. ap (λ (x : ℕ). Q (flip x)) (e k lt) ∙ h.based Q g k lt) }

-- more clauses
pub held_more : {S S' : List (List ℕ)} {f t : List ℕ} {n : ℕ} → ((d : List ℕ) → In d S → In d S') → Held S f t n → Held S' f t n
held_more i h = record {
  ready = h.ready;
  based = λ Q g. h.based Q (record { consistent = g.consistent; closed = λ c x. g.closed c (i c x) });
}

-- one clause more
pub held_one : {S : List (List ℕ)} {f t : List ℕ} {n : ℕ} (c : List ℕ) → Held S f t n → Held (S ++ (c ∷ [])) f t n
held_one c h = held_more (λ d i. Memᴰ.append_left (c ∷ []) i) h

-- a clause was stored; it stands
module _ {t ms : List ℤ} {s : Store} {k : ℕ} {f tr : List ℕ} {n : ℕ} where
  pub held_pended : {u : List ℤ} {c : Lits} → Pended t u ms s k c → Held (standing t ms (places_of s)) f tr n → Held (standing u ms (places_of s)) f tr n
  held_pended p h = subst (λ S. Held S f tr n) (sym p.standing_then) h

  pub held_stood : {ms' : List ℤ} → Stood t ms ms' s k → Held (standing t ms (places_of s)) f tr n → Held (standing t ms' (places_of (grown s k))) f tr n
  held_stood w h = subst (λ S. Held S f tr n) (sym w.standing_then) (held_one (pending t s) h)

-- after a clause was watched
module _ {S : List (List ℕ)} {f₀ t₀ : List ℕ} {n₀ : ℕ} (h : Held S f₀ t₀ n₀) {f t : List ℕ} {n : ℕ} where
  pub held_turned : (r : Option ℕ) → Turned S f₀ t₀ n₀ f t n r → Held S f t n
  held_turned None v = held_moved h (turned_clash refl v).0
  held_turned (Some w) v = held_moved h (turned_moved refl v)
