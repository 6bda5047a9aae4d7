-- Laws of a look at a clause: a search through its codes, and one more through what the first left. Assumes nothing.
use mathlib.Core.Path.{◌≡◌, refl, sym, ◌∙◌, ap, subst}
use mathlib.Core.Logic.{◌⊎◌, inl, inr}
use mathlib.Core.Bool.{Bool, true, false, not, ◌&&◌}
use mathlib.Core.List.Memᴰ
use mathlib.Core.List.{List, [], ◌∷◌, ◌++◌}
use Prim.Native.Nat.{ℕ, ◌<◌}
use lib.Dec.{eqb}
use borrow.Author.Tests.{eqb-true, eqb-false}
use denote.Ref.{Bor}
use denote.Param.Members.{Mut}
use Rattle.std.specs.Prelude.{Some, None}
use Rattle.std.specs.Fn.{CalledAt}
use Rattle.std.specs.List.{FoldsTo}
use Rattle.std.specs.Iterator.{Yields, YieldsFirst, FindsItem}
use Rattle.cells.specs.declared.Codes.{Codes}
use Rattle.cells.specs.Codes.{codes_left, codes_table, codes_place}
use Rattle.clauses.proofs.LiteralLaws.{literal_small}
use Rattle.rules.specs.Codes.{flip}
use Rattle.rules.proofs.Kit.{either, and_l, and_r, not_t, not_f}
use Rattle.propagation.specs.declared.looks.Look.TheVariants.{Falsified, Unit as UnitOf, Open}
use Rattle.trail.specs.Trail.{off, truth}
use Rattle.trail.proofs.TrailLaws.{truth_flip}
use Rattle.propagation.specs.Answers.{In, Saw}

-- A SEARCH through the codes c: nothing was found, or l, after which `rest` is left
pub record Passed (test : ℕ → Bool) (c : List ℕ) : Type 0 where
  pub none : (m : ℕ) → In m c → test m ≡ false

pub record Found (test : ℕ → Bool) (c : List ℕ) (l : ℕ) (rest : List ℕ) : Type 0 where
  pub here : In l c
  pub holds : test l ≡ true
  pub others : (m : ℕ) → In m c → (test m ≡ false) ⊎ (m ≡ l) ⊎ In m rest
  pub later : (m : ℕ) → In m rest → In m c

-- the codes that calls gave, and those that are left
given : (s : Codes) (xs : List ℕ) (t : Codes) → Yields (YieldsFirst codes_left) s xs t → codes_left s ≡ xs ++ codes_left t
given s [] t y = ap codes_left y
given s (x ∷ xs) t y = y.1 ∙ ap (λ (z : List ℕ). x ∷ z) (given y.0 xs t y.2)

-- a closure that tells of each code what test does
module _ {F : Type 0} {g : Mut F (Bor ℕ × Unit {0}) Bool} (f : F) (test : ℕ → Bool)
    (tells : (x : ℕ) (b : Bool) (q : F) → CalledAt g f x b q → (q ≡ f) × (x < 65536 → b ≡ test x)) where
  passed : (xs : List ℕ) (j : F) → FoldsTo (λ p x q. CalledAt g p x false q) f xs j → (j ≡ f) × ((m : ℕ) → m < 65536 → In m xs → test m ≡ false)
  passed [] j h = (sym h, λ m s i. absurd (Memᴰ.not-nil i))
  passed (x ∷ xs) j h =
      let k = tells x false h.0 h.1 in
      let r = passed xs j (subst (λ p. FoldsTo (λ p x q. CalledAt g p x false q) p xs j) k.0 h.2) in (
        r.0,
        λ m s i. either
            (λ y. let e = Memᴰ.eq_of_singleton y in ap test e ∙ sym (k.1 (subst (λ n. n < 65536) e s))) (r.1 m s)
            (Memᴰ.append_cases (x ∷ []) i),
      )

  module _ (s u : Codes) where
    small : (m : ℕ) → In m (codes_left s) → m < 65536
    small m x = literal_small (codes_table s) (codes_place s) m x

    split : (xs : List ℕ) (t : Codes) {rest : List ℕ} → Yields (YieldsFirst codes_left) s xs t → codes_left t ≡ rest → codes_left s ≡ xs ++ rest
    split xs t y e = given s xs t y ∙ ap (λ (z : List ℕ). xs ++ z) e

    pub find_none : FindsItem (YieldsFirst codes_left) g s f None u → Passed test (codes_left s)
    find_none d = record {
      none = λ m x.
          either ((passed d.0 d.1 d.3).1 m (small m x)) (λ y. absurd (Memᴰ.not-nil y))
          (Memᴰ.append_cases d.0 (subst (In m) (split d.0 d.2.0 d.2.1 d.2.2.0) x));
    }

    pub find_some : {l : ℕ} → FindsItem (YieldsFirst codes_left) g s f (Some l) u → Found test (codes_left s) l (codes_left u)
    find_some {l} d =
        let e = split d.0 d.2.0 d.2.1 d.2.2 in
        let p = passed d.0 d.1 d.3 in
        let x : In l (codes_left s) = subst (In l) (sym e) (Memᴰ.append_right d.0 (Memᴰ.head refl)) in record {
          here = x;
          holds = sym ((tells l true d.4.0 (subst (λ k. CalledAt g k l true d.4.0) p.0 d.4.1)).1 (small l x));
          others = λ m y.
              either (λ z. inl (p.1 m (small m y) z)) (λ z. inr (either (λ w. inl (Memᴰ.eq_of_singleton w)) inr (Memᴰ.append_cases (l ∷ []) z)))
              (Memᴰ.append_cases d.0 (subst (In m) e y));
          later = λ m y. subst (In m) (sym e) (Memᴰ.append_right d.0 (Memᴰ.tail y));
        }

-- READING A CLAUSE c for literals that are not false, and for one of these that is not k
module _ (f : List ℕ) where
  abbrev pub on : ℕ → Bool
  on l = not (off f l)

  abbrev pub other : ℕ → ℕ → Bool
  other k l = on l && not (eqb l k)

  closed : (m : ℕ) → on m ≡ false → truth f (flip m) ≡ true
  closed m e = truth_flip f m ∙ not_f (off f m) e

  free : (m : ℕ) → on m ≡ true → truth f (flip m) ≡ false
  free m e = truth_flip f m ∙ not_t (off f m) e

  no_other : (k m : ℕ) → other k m ≡ false → (truth f (flip m) ≡ true) ⊎ (m ≡ k)
  no_other k m = go (on m) refl
    where
      go : (b : Bool) → on m ≡ b → (b && not (eqb m k)) ≡ false → (truth f (flip m) ≡ true) ⊎ (m ≡ k)
      go true e z = inr (eqb-true m k (not_f (eqb m k) z))
      go false e z = inl (closed m e)

  an_other : (k m : ℕ) → other k m ≡ true → (on m ≡ true) × (m ≡ k → ⊥)
  an_other k m e = (and_l (on m) (not (eqb m k)) e, eqb-false m k (not_t (eqb m k) (and_r (on m) (not (eqb m k)) e)))

  module _ {c : List ℕ} where
    pub saw_none : Passed on c → Saw f c Falsified
    saw_none h = λ m x. closed m (h.none m x)

    module _ {l : ℕ} {rest : List ℕ} (h : Found on c l rest) where
      pub saw_one : Passed (other l) rest → Saw f c (UnitOf l)
      saw_one k = (h.here, free l h.holds, λ m x. either (λ e. inl (closed m e)) (either inr (λ y. no_other l m (k.none m y))) (h.others m x))

      module _ {n : ℕ} {last : List ℕ} (k : Found (other l) rest n last) where
        pub in_rest : In n c
        in_rest = h.later n k.here

        pub saw_two : Saw f c (Open l n)
        saw_two = let o = an_other l n k.holds in (h.here, in_rest, (λ e. o.1 (sym e)), free l h.holds, free n o.0)
