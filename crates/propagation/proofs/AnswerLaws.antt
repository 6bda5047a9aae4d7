-- What the answers of following, scanning and propagating give, and how they come about. Assumes nothing.
use mathlib.Core.Path.{◌≡◌, refl, sym, subst}
use mathlib.Core.Bool.{Bool, true, false}
use mathlib.Core.List.{List}
use Prim.Native.Nat.{ℕ, ◌+◌, ◌≤◌, ◌<◌}
use native.Mathlib.Omega.{arith}
use lib.IntN.{ℤ}
use borrow.Author.Count.{below_more}
use Rattle.rules.proofs.Kit.{clear}
use Rattle.rules.specs.Codes.{flip}
use Rattle.propagation.specs.declared.looks.Look.TheVariants as look
use Rattle.propagation.specs.declared.Propagation.{Propagation}
use Rattle.propagation.specs.declared.Scan.{Scan}
use Rattle.propagation.specs.declared.Scan.TheVariants as scan
use denote.Enum.Bare.{sameb}
use Rattle.rules.specs.contracts.Outcome.{the_type}
use Rattle.rules.specs.declared.Outcome.{Outcome}
use Rattle.rules.specs.declared.Outcome.TheVariants as outcome
use Rattle.std.specs.Prelude.{Option, Some, None}
use Rattle.clauses.specs.Standing.{stands, clause_at, standing}
use Rattle.trail.specs.declared.Trail.{Trail}
use Rattle.trail.specs.Trail.{off, truth, Ready}
use Rattle.propagation.specs.Answers.{In, Closed, Good, Saw, Moved, MovedIn, Clash, Visited, Turned, Scanned, Settled}
use Rattle.propagation.proofs.MoveLaws.{moved_trans}
use Rattle.clauses.proofs.StandingLaws.{standing_out}

module _ {S : List (List ℕ)} {f₀ t₀ : List ℕ} {n₀ : ℕ} {f t : List ℕ} {n : ℕ} where
  pub turned_clash : {r : Option ℕ} → r ≡ None → Turned S f₀ t₀ n₀ f t n r → Moved (Good S) f₀ t₀ n₀ f t n × Clash (Good S) t₀ n₀
  turned_clash e v = unfold Turned in let x = subst (Turned S f₀ t₀ n₀ f t n) e v in (x.1, x.2)

  pub turned_moved : {r : Option ℕ} {w : ℕ} → r ≡ Some w → Turned S f₀ t₀ n₀ f t n r → Moved (Good S) f₀ t₀ n₀ f t n
  turned_moved e v = unfold Turned in subst (Turned S f₀ t₀ n₀ f t n) e v

  pub visited_clash : {r : Outcome} → r ≡ outcome.Conflict → Visited S f₀ t₀ n₀ f t n r → Moved (Good S) f₀ t₀ n₀ f t n × Clash (Good S) t₀ n₀
  visited_clash e v = unfold Visited in subst (Visited S f₀ t₀ n₀ f t n) e v

  pub visited_moved : {r : Outcome} → r ≡ outcome.Stable → Visited S f₀ t₀ n₀ f t n r → Moved (Good S) f₀ t₀ n₀ f t n
  visited_moved e v = unfold Visited in subst (Visited S f₀ t₀ n₀ f t n) e v

  pub settled_clash : {r : Outcome} → r ≡ outcome.Conflict → Settled S f₀ t₀ n₀ f t n r → Moved (Good S) f₀ t₀ n₀ f t n × Clash (Good S) t₀ n₀
  settled_clash e v = unfold Settled in subst (Settled S f₀ t₀ n₀ f t n) e v

  pub settled_good : {r : Outcome} → r ≡ outcome.Stable → Settled S f₀ t₀ n₀ f t n r → Moved (Good S) f₀ t₀ n₀ f t n × Good S (truth f)
  settled_good e v = unfold Settled in subst (Settled S f₀ t₀ n₀ f t n) e v

-- after a move, of what follows it
module _ {S : List (List ℕ)} {f₀ t₀ : List ℕ} {n₀ : ℕ} {f t : List ℕ} {n : ℕ} {f' t' : List ℕ} (m : Moved (Good S) f₀ t₀ n₀ f t n) where
  pub moved_on : {k : ℕ} → Moved (Good S) f t n f' t' k → Moved (Good S) f₀ t₀ n₀ f' t' k
  moved_on {k} v = moved_trans (Good S) f₀ t₀ n₀ f t n f' t' k m v

  pub clash_on : {k : ℕ} → Moved (Good S) f t n f' t' k → Clash (Good S) t n → Visited S f₀ t₀ n₀ f' t' k outcome.Conflict
  unfolding Visited
  clash_on v x = (moved_on v, λ Q g h. x Q g (m.sound Q g h))

  pub settle_clash : {k : ℕ} → Moved (Good S) f t n f' t' k → Clash (Good S) t n → Settled S f₀ t₀ n₀ f' t' k outcome.Conflict
  unfolding Settled
  settle_clash v x = (moved_on v, λ Q g h. x Q g (m.sound Q g h))

pub settle_good : {S : List (List ℕ)} {f₀ t₀ : List ℕ} {n₀ : ℕ} {f t : List ℕ} {n : ℕ} → Moved (Good S) f₀ t₀ n₀ f t n → Good S (truth f)
    → Settled S f₀ t₀ n₀ f t n outcome.Stable
unfolding Settled
settle_good m g = (m, g)

pub moved_as : {G : (ℕ → Bool) → Type 0} {a : Trail} {b c : Propagation} → c ≡ b → MovedIn G a b.trail → MovedIn G a c.trail
moved_as {G} {a} e m = subst (λ (x : Propagation). MovedIn G a x.trail) (sym e) m

pub told_stable : (r : Outcome) {b : Bool} → b ≡ sameb the_type r outcome.Conflict → b ≡ false → r ≡ outcome.Stable
told_stable outcome.Conflict e n = absurd (clear e n)
told_stable outcome.Stable e n = refl

pub visited_on : {S : List (List ℕ)} {f₀ t₀ : List ℕ} {n₀ : ℕ} {f t : List ℕ} {n : ℕ} (f' t' : List ℕ) (n' : ℕ) → Moved (Good S) f₀ t₀ n₀ f t n
    → (r : Outcome) → Visited S f t n f' t' n' r → Visited S f₀ t₀ n₀ f' t' n' r
visited_on f' t' n' m outcome.Conflict v = let c = visited_clash refl v in clash_on m c.0 c.1
visited_on f' t' n' m outcome.Stable v = unfold Visited in moved_on m (visited_moved refl v)

-- A SCAN: each clause that stands at a place below k is closed
pub record Scanning (t ms : List ℤ) (f : List ℕ) (count k : ℕ) : Type 0 where
  pub within : k ≤ count
  pub closed : (j : ℕ) → j < k → stands t ms j ≡ true → Closed (truth f) (clause_at t ms j)

module _ (t ms : List ℤ) (f : List ℕ) (count k : ℕ) (s : Scanning t ms f count k) where
  pub scanning_next : k < count → (stands t ms k ≡ true → Closed (truth f) (clause_at t ms k)) → Scanning t ms f count (k + 1)
  scanning_next lt h = record {
    within = omega arith;
    closed = below_more (λ j. stands t ms j ≡ true → Closed (truth f) (clause_at t ms j)) k s.closed h;
  }

  pub scanning_off : k < count → stands t ms k ≡ false → Scanning t ms f count (k + 1)
  scanning_off lt z = scanning_next lt (λ n. absurd (clear n z))

  pub scanning_on : k < count → (c : List ℕ) → c ≡ clause_at t ms k → Closed (truth f) c → Scanning t ms f count (k + 1)
  scanning_on lt c e h = scanning_next lt (λ n. subst (Closed (truth f)) e h)

  pub scanning_end : count ≤ k → Scanned (standing t ms count) f scan.Closed
  unfolding Scanned
  scanning_end h = λ d x. let o = standing_out t ms count d x in
      subst (Closed (truth f)) (sym o.3) (s.closed o.0 (omega (arith, o.1)) o.2)

module _ {S : List (List ℕ)} (f : List ℕ) where
  pub scanned_falsified : {r : Scan} → r ≡ scan.Falsified → Scanned S f r → (c : List ℕ) × In c S × Saw f c look.Falsified
  scanned_falsified e v = unfold Scanned in subst (Scanned S f) e v

  pub scanned_unit : {r : Scan} {u : ℕ} → r ≡ scan.Unit u → Scanned S f r
      → (c : List ℕ) × In c S × Saw f c (look.Unit u) × (u < 65536) × (off f (flip u) ≡ false)
  scanned_unit e v = unfold Scanned in subst (Scanned S f) e v

  -- values with every clause closed are good
  pub scanned_good : {t : List ℕ} {n : ℕ} {r : Scan} → r ≡ scan.Closed → Scanned S f r → Ready f t n → Good S (truth f)
  scanned_good e v r = record {
    consistent = λ l p q. r.apart (flip l) p q;
    closed = unfold Scanned in subst (Scanned S f) e v;
  }
