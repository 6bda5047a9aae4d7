-- The test over the stray codes and what all three clauses hold is the test on every code of d. Assumes nothing.
use mathlib.Core.Path.{◌≡◌, refl, sym, ◌∙◌, ap}
use mathlib.Core.Bool.{Bool, true, false, cond, not, ◌&&◌, ◌||◌, and-true, and-false, and_self, and_assoc, and_comm, or-true, or-false}
use mathlib.Core.List.Memᴰ
use mathlib.Core.List.{List, [], ◌∷◌}
use Prim.Native.Nat.{ℕ, suc}
use native.Mathlib.Omega.{arith}
use lib.Dec.{eqb}
use borrow.Author.Tests.{eqb-true, eqb-false, ne_eqb}
use Rattle.std.specs.List.{list_all as all, list_any as any}
use Rattle.rules.specs.Basics.{is_in}
use Rattle.rules.specs.Codes.{flip}
use Rattle.rules.proofs.Kit.{clear, and_l, and_r, and_i, or_l, or_r, or_cases, not_of_f, by_no, by_yes, either, eqb_self, same_test, In, all_in, in_all_lem, in_any, any_in}
use Rattle.rules.proofs.CodesLaw.{flip_twice}
use Rattle.trail.proofs.TrailLaws.{flip_other}
use Rattle.resolvents.specs.Resolves.{all_but, leaves, resolves_on, resolves}
use Rattle.resolvents.specs.declared.Strays.{Strays}
use Rattle.resolvents.specs.declared.Strays.TheVariants.{None, One, Several}
use Rattle.resolvents.specs.Marks.{meet, stray, may_leave, pivot, candidates}

-- MEMBERS
pub is_in_lem : (xs : List ℕ) (y : ℕ) → is_in xs y ≡ true → In y xs
is_in_lem xs y h = let s = any_in (eqb y) xs h in Memᴰ.cast (eqb-true y s.0 s.2) s.1

pub in_is : (xs : List ℕ) (y : ℕ) → In y xs → is_in xs y ≡ true
in_is xs y m = in_any (eqb y) m (eqb_self y)

-- THE STRAY CODES of a list, by a test: the codes that may be missing are all, if there is none, and else that one
abbrev free : Strays → ℕ → Bool
free None x = true
free (One y) x = eqb y x
free Several x = false

module _ (p : ℕ → Bool) (x : ℕ) where
  met_free : (t : Bool) (r : Strays) (y : ℕ) → (free r x && (eqb y x || t)) ≡ free (meet (not t) r y) x
  unfolding meet
  met_free true r y = ap (λ t. free r x && t) (or-true (eqb y x)) ∙ and-true (free r x)
  met_free false None y = or-false (eqb y x)
  met_free false (One z) y = ap (λ t. eqb z x && t) (or-false (eqb y x)) ∙ go (eqb z y) refl (eqb z x) refl (eqb y x) refl
    where
      go : (s : Bool) → eqb z y ≡ s → (a : Bool) → eqb z x ≡ a → (b : Bool) → eqb y x ≡ b → (a && b) ≡ free (cond s (One z) Several) x
      go true e a f b g = ap (λ t. a && t) (sym g ∙ ap (λ k. eqb k x) (sym (eqb-true z y e)) ∙ f) ∙ and_self a ∙ sym f
      go false e true f true g = absurd (eqb-false z y e (eqb-true z x f ∙ sym (eqb-true y x g)))
      go false e true f false g = refl
      go false e false f b g = refl
  met_free false Several y = refl

  stray_from : (ys : List ℕ) (r : Strays) → (free r x && all_but p x ys) ≡ free (stray (λ y. not (p y)) ys r) x
  unfolding stray all_but
  stray_from [] r = and-true (free r x)
  stray_from (y ∷ ys) r =
      sym (and_assoc (free r x) (eqb y x || p y) (all_but p x ys))
      ∙ ap (λ t. t && all_but p x ys) (met_free (p y) r y)
      ∙ stray_from ys (meet (not (p y)) r y)

-- WHAT C HOLDS
follows : (a b : Bool) → (a ≡ true → b ≡ true) → (not a || b) ≡ true
follows true b h = h refl
follows false b h = refl

follow : (a b : Bool) → (not a || b) ≡ true → a ≡ true → b ≡ true
follow true b h e = h
follow false b h e = absurd (clear e refl)

some_one : (a b u v : Bool) → (a && u || b && v) ≡ true → (a || b) ≡ true
some_one true b u v h = refl
some_one false b u v h = and_l b v h

second_one : (a b v t : Bool) → t ≡ true → (a && not t || b && v) ≡ true → b ≡ true
second_one a b v true e h = either (λ q. absurd (clear (and_r a false q) refl)) (and_l b v) (or_cases (a && false) (b && v) h)
second_one a b v false e h = absurd (clear e refl)

first_one : (a b u t : Bool) → t ≡ true → (a && u || b && not t) ≡ true → a ≡ true
first_one a b u true e h = either (and_l a u) (λ q. absurd (clear (and_r b false q) refl)) (or_cases (a && u) (b && false) h)
first_one a b u false e h = absurd (clear e refl)

-- each code of c is left over exactly if each is a parent's, and x and its flip, if they are in c, are the other parent's
module _ (c d e : List ℕ) where
  abbrev pub wholly : Bool
  wholly = all (λ y. is_in d y || is_in e y) c

  module _ (x : ℕ) where
    abbrev x_left : Bool
    x_left = not (is_in c x) || is_in e x

    abbrev y_left : Bool
    y_left = not (is_in c (flip x)) || is_in d (flip x)

    left_over : all (leaves d e x) c ≡ true → (wholly && x_left && y_left) ≡ true
    unfolding leaves
    left_over h =
        and_i (wholly && x_left) y_left
        (and_i wholly x_left
        (in_all_lem (λ y. is_in d y || is_in e y) c λ y m.
        some_one (is_in d y) (is_in e y) (not (eqb y x)) (not (eqb y (flip x))) (all_in (leaves d e x) h m))
        (follows (is_in c x) (is_in e x) λ q.
        second_one (is_in d x) (is_in e x) (not (eqb x (flip x))) (eqb x x) (eqb_self x) (all_in (leaves d e x) h (is_in_lem c x q))))
        (follows (is_in c (flip x)) (is_in d (flip x)) λ q.
        first_one (is_in d (flip x)) (is_in e (flip x)) (not (eqb (flip x) x)) (eqb (flip x) (flip x)) (eqb_self (flip x))
        (all_in (leaves d e x) h (is_in_lem c (flip x) q)))

    module _ (h : (wholly && x_left && y_left) ≡ true) (y : ℕ) (m : In y c) where
      abbrev of_d : Bool
      of_d = is_in d y && not (eqb y x)

      abbrev of_e : Bool
      of_e = is_in e y && not (eqb y (flip x))

      in_parent : (is_in d y || is_in e y) ≡ true
      in_parent = all_in (λ z. is_in d z || is_in e z) (and_l wholly x_left (and_l (wholly && x_left) y_left h)) m

      in_e : y ≡ x → is_in e y ≡ true
      in_e q =
          ap (is_in e) q
          ∙ follow (is_in c x) (is_in e x) (and_r wholly x_left (and_l (wholly && x_left) y_left h)) (ap (is_in c) (sym q) ∙ in_is c y m)

      in_d : y ≡ flip x → is_in d y ≡ true
      in_d q =
          ap (is_in d) q
          ∙ follow (is_in c (flip x)) (is_in d (flip x)) (and_r (wholly && x_left) y_left h) (ap (is_in c) (sym q) ∙ in_is c y m)

      over_left : (of_d || of_e) ≡ true
      over_left = go (eqb y x) refl (eqb y (flip x)) refl
        where
          go : (a : Bool) → eqb y x ≡ a → (b : Bool) → eqb y (flip x) ≡ b → (of_d || of_e) ≡ true
          go true f b g =
              let q = eqb-true y x f in
              or_r of_d of_e (and_i (is_in e y) (not (eqb y (flip x))) (in_e q) (not_of_f (ne_eqb y (flip x) λ k. flip_other x (sym k ∙ q))))
          go false f true g = or_l of_d of_e (and_i (is_in d y) (not (eqb y x)) (in_d (eqb-true y (flip x) g)) (not_of_f f))
          go false f false g =
              either
              (λ q. or_l of_d of_e (and_i (is_in d y) (not (eqb y x)) q (not_of_f f)))
              (λ q. or_r of_d of_e (and_i (is_in e y) (not (eqb y (flip x))) q (not_of_f g)))
              (or_cases (is_in d y) (is_in e y) in_parent)

    leaves_all : all (leaves d e x) c ≡ (wholly && x_left && y_left)
    unfolding leaves
    leaves_all = same_test (all (leaves d e x) c) (wholly && x_left && y_left) left_over (λ h. in_all_lem (leaves d e x) c (over_left h))

-- A PARENT ys, beside the other, zs: x may leave it
module _ (c ys zs : List ℕ) where
  abbrev missed : Strays
  missed = stray (λ y. not (is_in c y)) ys None

  missing : (x : ℕ) → all_but (is_in c) x ys ≡ free missed x
  missing x = stray_from (is_in c) x ys None

  -- what c holds of ys, but for another code
  but_next : (x : ℕ) → all_but (is_in c) (suc x) ys ≡ true → is_in ys x ≡ true → is_in c x ≡ true
  unfolding all_but
  but_next x h i = either (λ q. absurd (let e = eqb-true x (suc x) q in omega arith)) (λ q. q)
      (or_cases (eqb x (suc x)) (is_in c x) (all_in (λ y. eqb y (suc x) || is_in c y) h (is_in_lem ys x i)))

  none_missing : missed ≡ None → (x : ℕ) → is_in ys x ≡ true → is_in c x ≡ true
  none_missing z x h = but_next x (missing (suc x) ∙ ap (λ r. free r (suc x)) z) h

  -- all codes but the stray one are in c, so it is in the parent and not in c
  others : (x : ℕ) → missed ≡ One x → ((y : ℕ) → In y ys → y ≡ x → is_in c y ≡ true) → ⊥
  unfolding all_but
  others x z h = clear whole (missing (suc x) ∙ ap (λ r. free r (suc x)) z ∙ ne_eqb x (suc x) (λ e. omega arith))
    where
      whole : all_but (is_in c) (suc x) ys ≡ true
      whole = in_all_lem (λ y. eqb y (suc x) || is_in c y) ys λ y m. or_r (eqb y (suc x)) (is_in c y)
          (either (λ q. h y m (eqb-true y x q)) (λ q. q)
          (or_cases (eqb y x) (is_in c y) (all_in (λ w. eqb w x || is_in c w) (missing x ∙ ap (λ r. free r x) z ∙ eqb_self x) m)))

  leaves_parent : (shared : ℕ → Bool) (x : ℕ) → shared x ≡ (is_in c x && is_in ys x && is_in zs x)
      → (is_in ys x && all_but (is_in c) x ys && (not (is_in c x) || is_in zs x)) ≡ may_leave shared missed x
  unfolding may_leave
  leaves_parent shared x s = ap (λ t. is_in ys x && t && (not (is_in c x) || is_in zs x)) (missing x) ∙ go missed refl
    where
      at_none : (i j l : Bool) → (j ≡ true → i ≡ true) → (j && true && (not i || l)) ≡ (i && j && l)
      at_none true true l h = refl
      at_none true false l h = refl
      at_none false true l h = absurd (clear (h refl) refl)
      at_none false false l h = refl

      there : (i j l : Bool) → i ≡ false → j ≡ true → (j && true && (not i || l)) ≡ true
      there true j l p q = absurd (clear refl p)
      there false true l p q = refl
      there false false l p q = q

      at_one : (y : ℕ) → missed ≡ One y → (b : Bool) → eqb y x ≡ b → (is_in ys x && b && (not (is_in c x) || is_in zs x)) ≡ b
      at_one y z true f =
          let q : y ≡ x = eqb-true y x f in
          there (is_in c x) (is_in ys x) (is_in zs x)
          (by_yes (is_in c x) λ g. others y z (λ w m e. ap (is_in c) (e ∙ q) ∙ g))
          (by_no (is_in ys x) λ g. others y z (λ w m e. absurd (clear (in_is ys x (Memᴰ.cast (sym (e ∙ q)) m)) g)))
      at_one y z false f = ap (λ t. t && (not (is_in c x) || is_in zs x)) (and-false (is_in ys x))

      go : (r : Strays) → missed ≡ r → (is_in ys x && free r x && (not (is_in c x) || is_in zs x)) ≡ may_leave shared r x
      go None z = at_none (is_in c x) (is_in ys x) (is_in zs x) (none_missing z x) ∙ sym s
      go (One y) z = at_one y z (eqb y x) refl
      go Several z = ap (λ t. t && (not (is_in c x) || is_in zs x)) (and-false (is_in ys x))

-- THE WHOLE TEST
sorted : (i a f g v x y : Bool) → (i && (a && f && g && (v && x && y))) ≡ (v && ((i && f && x) && (a && g && y)))
sorted true true true true true x y = refl
sorted true true true true false x y = refl
sorted true true true false true true y = refl
sorted true true true false true false y = refl
sorted true true true false false x y = refl
sorted true true false g true x y = refl
sorted true true false g false x y = refl
sorted true false true g true true y = refl
sorted true false true g true false y = refl
sorted true false false g true x y = refl
sorted true false f g false x y = refl
sorted false a f g true x y = refl
sorted false a f g false x y = refl

swapped : (a b c : Bool) → (a && b && c) ≡ (a && c && b)
swapped a b c = and_assoc a b c ∙ ap (λ t. a && t) (and_comm b c) ∙ sym (and_assoc a c b)

module _ (c d e : List ℕ) where
  abbrev p : Strays
  p = stray (λ y. not (is_in c y)) d None

  abbrev q : Strays
  q = stray (λ y. not (is_in c y)) e None

  abbrev shared : ℕ → Bool
  shared y = is_in c y && is_in d y && is_in e y

  on_is : (x : ℕ) → (is_in d x && resolves_on c d e x) ≡ (wholly c d e && pivot shared p q x)
  unfolding resolves_on pivot
  on_is x =
      let A = leaves_parent c d e shared x refl in
      let B = leaves_parent c e d shared (flip x) (swapped (is_in c (flip x)) (is_in d (flip x)) (is_in e (flip x))) in
      let L = leaves_all c d e x in
      let S = sorted (is_in d x) (is_in e (flip x)) (all_but (is_in c) x d) (all_but (is_in c) (flip x) e) (wholly c d e)
      (not (is_in c x) || is_in e x) (not (is_in c (flip x)) || is_in d (flip x)) in
      cc

  candidate : (x : ℕ) → may_leave shared p x ≡ true → may_leave shared q (flip x) ≡ true → In x (candidates p q c)
  unfolding may_leave candidates
  candidate x = go p q
    where
      go : (r s : Strays) → may_leave shared r x ≡ true → may_leave shared s (flip x) ≡ true → In x (candidates r s c)
      go None None f g = is_in_lem c x (and_l (is_in c x) (is_in d x) (and_l (is_in c x && is_in d x) (is_in e x) f))
      go None (One y) f g = Memᴰ.head (sym (ap flip (eqb-true y (flip x) g) ∙ flip_twice x))
      go None Several f g = absurd (clear g refl)
      go (One y) s f g = Memᴰ.head (sym (eqb-true y x f))
      go Several s f g = absurd (clear f refl)

  abbrev pub found : Bool
  found = any (pivot shared p q) (candidates p q c)

  pub decided_resolves : (wholly c d e && found) ≡ resolves c d e
  unfolding resolves resolves_on pivot
  decided_resolves = same_test (wholly c d e && found) (any (resolves_on c d e) d) there back
    where
      there : (wholly c d e && found) ≡ true → any (resolves_on c d e) d ≡ true
      there h =
          let s = any_in (pivot shared p q) (candidates p q c) (and_r (wholly c d e) found h) in
          let x = s.0 in
          let o = on_is x ∙ and_i (wholly c d e) (pivot shared p q x) (and_l (wholly c d e) found h) s.2 in
          in_any (resolves_on c d e) (is_in_lem d x (and_l (is_in d x) (resolves_on c d e x) o)) (and_r (is_in d x) (resolves_on c d e x) o)

      back : any (resolves_on c d e) d ≡ true → (wholly c d e && found) ≡ true
      back h =
          let s = any_in (resolves_on c d e) d h in
          let x = s.0 in
          let o = sym (on_is x) ∙ and_i (is_in d x) (resolves_on c d e x) (in_is d x s.1) s.2 in
          let v = and_r (wholly c d e) (pivot shared p q x) o in
          and_i (wholly c d e) found (and_l (wholly c d e) (pivot shared p q x) o)
          (in_any (pivot shared p q)
          (candidate x (and_l (may_leave shared p x) (may_leave shared q (flip x)) v) (and_r (may_leave shared p x) (may_leave shared q (flip x)) v)) v)
