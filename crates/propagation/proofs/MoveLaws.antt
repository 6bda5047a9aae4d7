-- Laws of a trail that grows by what follows. Assumes nothing.
use mathlib.Core.Path.{◌≡◌, refl, sym, ◌∙◌, ap}
use mathlib.Core.Logic.{◌⊎◌, inl, inr}
use mathlib.Core.Bool.{Bool, true, false}
use mathlib.Core.List.Memᴰ
use mathlib.Core.List.{List, [], ◌∷◌, ◌++◌}
use Prim.Native.Nat.{ℕ, ◌+◌, ◌≤◌, ◌<◌}
use native.Mathlib.Omega.{arith}
use lib.Dec.{eqb}
use lib.ListN.{get_or, set}
use lib.Seq.{get_or-set_same}
use borrow.Author.Tests.{eqb-true, eqb-false}
use Rattle.rules.specs.Codes.{flip}
use Rattle.rules.proofs.CodesLaw.{flip_twice}
use Rattle.rules.proofs.Kit.{clear, either}
use Rattle.propagation.specs.declared.looks.Look.TheVariants.{Falsified, Unit as UnitOf, Open}
use Rattle.trail.specs.Trail.{off, truth, Ready, Assumed}
use Rattle.trail.proofs.TrailLaws.{truth_flip, flip_other, trailed_assume, trail_old, assumed_kept, assumed_more, assumed_fewer}
use Rattle.propagation.specs.Answers.{In, Under, Closed, Good, Means, Saw, Holds, Moved, Clash, Held}

pub in_last : (l : ℕ) (c : List ℕ) → In l (c ++ l ∷ [])
in_last l c = Memᴰ.append_right c (Memᴰ.head refl)

-- what the trail holds is true in Q, so what is true here is true in Q
pub holds_under : (f t : List ℕ) (n : ℕ) → Ready f t n → (Q : ℕ → Bool) → Holds Q t n → Under (truth f) Q
unfolding Holds
holds_under f t n r Q h l e =
    let k = r.trailed.listed (flip l) e in ap Q (sym (ap flip k.2 ∙ flip_twice l)) ∙ h k.0 k.1

pub moved_refl : (G : (ℕ → Bool) → Type 0) (f t : List ℕ) (n : ℕ) → Ready f t n → Moved G f t n f t n
moved_refl G f t n r = record { ready = r; up = omega arith; kept = λ k h. refl; more = λ l e. e; sound = λ Q g h. h }

pub moved_trans : (G : (ℕ → Bool) → Type 0) (f₀ t₀ : List ℕ) (n₀ : ℕ) (f t : List ℕ) (n : ℕ) (f' t' : List ℕ) (n' : ℕ)
    → Moved G f₀ t₀ n₀ f t n → Moved G f t n f' t' n' → Moved G f₀ t₀ n₀ f' t' n'
moved_trans G f₀ t₀ n₀ f t n f' t' n' a b = record {
  ready = b.ready;
  up = omega (arith, a.up, b.up);
  kept = λ k h. b.kept k (omega (arith, a.up)) ∙ a.kept k h;
  more = λ l e. b.more l (a.more l e);
  sound = λ Q g h. b.sound Q g (a.sound Q g h);
}

pub moved_weaken : (G H : (ℕ → Bool) → Type 0) → ((Q : ℕ → Bool) → H Q → G Q) → (f₀ t₀ : List ℕ) (n₀ : ℕ) (f t : List ℕ) (n : ℕ)
    → Moved G f₀ t₀ n₀ f t n → Moved H f₀ t₀ n₀ f t n
moved_weaken G H w f₀ t₀ n₀ f t n m =
    record { ready = m.ready; up = m.up; kept = m.kept; more = m.more; sound = λ Q h. m.sound Q (w Q h) }

-- one literal more is false: its negation is in each test of G that holds the trail
module _ (G : (ℕ → Bool) → Type 0) (f t : List ℕ) (n l : ℕ) (r : Ready f t n) (small : l < 65536) (free : off f (flip l) ≡ false)
    (forced : (Q : ℕ → Bool) → G Q → Holds Q t n → Q (flip l) ≡ true) where
  apart_new : (f' t' : List ℕ) (n' : ℕ) → Assumed f t n l f' t' n' → (k : ℕ) → off f' k ≡ true → off f' (flip k) ≡ true → ⊥
  apart_new f' t' n' a k q p =
      either
      (λ z. either (λ y. flip_other k (y ∙ sym z)) (λ y. clear y (ap (λ (x : ℕ). off f (flip x)) z ∙ free)) (back (flip k) p))
      (λ z. either (λ y. clear z (ap (off f) (sym (flip_twice k) ∙ ap flip y) ∙ free)) (r.apart k z) (back (flip k) p))
      (back k q)
    where
      back : (j : ℕ) → off f' j ≡ true → (j ≡ l) ⊎ (off f j ≡ true)
      back = assumed_fewer f t n l r.trailed small f' t' n' a

  holds_new : n < 65536 → (Q : ℕ → Bool) → G Q → Holds Q t n → Holds Q (set t n l) (n + 1)
  unfolding Holds
  holds_new lt Q g h k lt' = go (eqb k n) refl
    where
      go : (b : Bool) → eqb k n ≡ b → Q (flip (get_or (set t n l) k 0)) ≡ true
      go true z =
          ap (λ x. Q (flip x)) (ap (λ (i : ℕ). get_or (set t n l) i 0) (eqb-true k n z) ∙ get_or-set_same t n l 0 (omega (arith, r.trailed.long)))
          ∙ forced Q g h
      go false z =
          let less : k < n = omega (arith, eqb-false k n z) in
          ap (λ x. Q (flip x)) (trail_old f t n l r.trailed small k less) ∙ h k less

  up_new : (f' t' : List ℕ) (n' : ℕ) → Assumed f t n l f' t' n' → n ≤ n'
  up_new f' t' n' (inl a) = omega (arith, a.3)
  up_new f' t' n' (inr a) = omega (arith, a.4)

  sound_new : (f' t' : List ℕ) (n' : ℕ) → Assumed f t n l f' t' n' → (Q : ℕ → Bool) → G Q → Holds Q t n → Holds Q t' n'
  sound_new f' t' n' (inl a) Q g h = rw (a.2, a.3) h
  sound_new f' t' n' (inr a) Q g h = rw (a.3, a.4) (holds_new a.1 Q g h)

  pub moved_assume : (f' t' : List ℕ) (n' : ℕ) → Assumed f t n l f' t' n' → Moved G f t n f' t' n'
  moved_assume f' t' n' a = record {
    ready = record { trailed = trailed_assume f t n l r.trailed small f' t' n' a; apart = apart_new f' t' n' a };
    up = up_new f' t' n' a;
    kept = assumed_kept f t n l f' t' n' a;
    more = assumed_more f t n l r.trailed small f' t' n' a;
    sound = sound_new f' t' n' a;
  }

-- A CLAUSE THAT WAS READ WHOLE, for a test that holds the trail
module _ (P : ℕ → Bool) (c : List ℕ) where
  pub closed_open : (a b : ℕ) → Means P (λ m. In m c) (Open a b) → Closed P c
  closed_open a b h = λ l pre.
      absurd (either (λ t. clear t h.3) (λ p. either (λ t. clear t h.4) (λ q. h.2 (p ∙ sym q)) (pre b h.1)) (pre a h.0))

  pub closed_unit : (k : ℕ) → Means P (λ m. In m c) (UnitOf k) → P k ≡ true → Closed P c
  closed_unit k h t = λ l pre. either (λ u. absurd (clear u h.1)) (λ q. ap P (sym q) ∙ t) (pre k h.0)

module _ (S : List (List ℕ)) (f t : List ℕ) (n : ℕ) (r : Ready f t n) (c : List ℕ) (x : In c S) where
  pub read_forced : (u : ℕ) → Saw f c (UnitOf u) → (Q : ℕ → Bool) → Good S Q → Holds Q t n → Q u ≡ true
  read_forced u m Q g h =
      g.closed c x u (λ k y. either (λ e. inl (holds_under f t n r Q h (flip k) e)) inr (m.2 k y))

  pub read_clash : Saw f c Falsified → Clash (Good S) t n
  read_clash m Q g h = g.consistent 0 (every 0) (every (flip 0))
    where
      every : (l : ℕ) → Q l ≡ true
      every l = g.closed c x l (λ k y. inl (holds_under f t n r Q h (flip k) (m k y)))

  pub moved_unit : (u : ℕ) → Saw f c (UnitOf u) → flip u < 65536
      → (f' t' : List ℕ) (n' : ℕ) → Assumed f t n (flip u) f' t' n' → Moved (Good S) f t n f' t' n'
  moved_unit u m small =
      moved_assume (Good S) f t n (flip u) r small (ap (off f) (flip_twice u) ∙ sym (truth_flip f u) ∙ m.1)
      (λ Q g h. ap Q (flip_twice u) ∙ read_forced u m Q g h)

-- nothing is held of the standing clauses, whichever they are
pub held_empty : (S : List (List ℕ)) (f t : List ℕ) → Ready f t 0 → Held S f t 0
unfolding Holds
held_empty S f t r = record { ready = r; based = λ Q g k h. absurd (omega arith) }
