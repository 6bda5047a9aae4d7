-- Laws of the tests over marks: each turn of the walks, and what the tests say of the line and the clause. Assumes nothing.
use mathlib.Core.Path.{◌≡◌, refl, ap, sym, ◌∙◌, fun_ext}
use mathlib.Core.Bool.{Bool, true, false, cond, not, ◌&&◌, ◌||◌, or-true, false≢true}
use mathlib.Core.List.{List, [], ◌∷◌}
use Prim.Native.Nat.{ℕ, ◌/◌, ◌<◌}
use native.Mathlib.Omega.{arith}
use lib.Dec.{eqb, ltb}
use lib.ListN.{length, get_or, set, length-set, get_or-eq_default}
use lib.Seq.{get_or-set_same, get_or-set_other, set_out}
use borrow.Author.Tests.{eqb-true, eqb-false, eq-eqb, ltb-true, ltb-false, not-true}
use Rattle.std.specs.List.{list_all as all}
use Rattle.rules.specs.Basics.{is_in}
use Rattle.cells.proofs.Laws.{zero_there}
use Rattle.prefix.specs.Prefix.{is_existential}
use Rattle.copies.specs.Marks.{marks, Marking, Unmarked}
use Rattle.copies.specs.Copies.{image_of, images_of}
use Rattle.copies.proofs.MarkLaws.{marks_length, set_at, twice, unmarked_marking}
use Rattle.literals.specs.Literals.{in_clause, in_line, literals_fit}
use Rattle.literals.specs.Marks.{is_marked, meets, stamped_by, answered, cleared}
use Rattle.literals.proofs.Arms.{fit_no, fit_yes}

-- A MARK IS PASSED: where a mark is stamped, marks stay marks
module _ (cs s : List ℕ) (y : ℕ) (m : is_marked cs s y ≡ true) (z : ℕ) where
  zero_kept : eqb (get_or (set s y 2) z 0) 0 ≡ eqb (get_or s z 0) 0
  unfolding is_marked
  zero_kept = go (eqb z y) refl (ltb y (length s)) refl m
    where
      go : (b : Bool) → eqb z y ≡ b → (c : Bool) → ltb y (length s) ≡ c → cond c (not (eqb (get_or s y 0) 0)) (is_in cs y) ≡ true
          → eqb (get_or (set s y 2) z 0) 0 ≡ eqb (get_or s z 0) 0
      go true e true l n =
          ap (λ k. eqb (get_or (set s y 2) k 0) 0) (eqb-true z y e) ∙ ap (λ k. eqb k 0) (get_or-set_same s y 2 0 (ltb-true y (length s) l))
          ∙ sym (ap (λ k. eqb (get_or s k 0) 0) (eqb-true z y e) ∙ not-true (eqb (get_or s y 0) 0) n)
      go true e false l n = ap (λ (t : List ℕ). eqb (get_or t z 0) 0) (set_out s y 2 (ltb-false y (length s) l))
      go false e c l n = ap (λ k. eqb k 0) (get_or-set_other s y z 2 0 (eqb-false z y e))

  marked_kept : is_marked cs (set s y 2) z ≡ is_marked cs s z
  unfolding is_marked
  marked_kept =
      ap (λ n. cond (ltb z n) (not (eqb (get_or (set s y 2) z 0) 0)) (is_in cs z)) (length-set s y 2)
      ∙ ap (λ b. cond (ltb z (length s)) (not b) (is_in cs z)) zero_kept

-- THE LINE IS WALKED
module _ (w st : ℕ → ℕ) (cs : List ℕ) where
  -- a literal that meets the clause meets a mark
  meets_mark : (s : List ℕ) (x : ℕ) → meets w st cs s x ≡ true → is_marked cs s (image_of st x) ≡ true
  unfolding meets
  meets_mark s x m = go (is_existential w (st (x / 2))) m
    where
      go : (b : Bool) → cond b (is_marked cs s (image_of st x)) false ≡ true → is_marked cs s (image_of st x) ≡ true
      go true h = h
      go false h = absurd (false≢true h)

  pub meets_kept : (s : List ℕ) (x : ℕ) → meets w st cs s x ≡ true → (ls : List ℕ)
      → all (meets w st cs (set s (image_of st x) 2)) ls ≡ all (meets w st cs s) ls
  unfolding meets
  meets_kept s x m ls =
      ap (λ (p : ℕ → Bool). all p ls)
      (fun_ext (λ z. ap (λ b. cond (is_existential w (st (z / 2))) b false) (marked_kept cs s (image_of st x) (meets_mark s x m) (image_of st z))))

-- A MARK IS TAKEN BACK
module _ (w st : ℕ → ℕ) (ls : List ℕ) where
  module _ (s : List ℕ) (y : ℕ) where
    -- what was answered stays so
    pub answered_kept : answered w st ls s y ≡ true → (zs : List ℕ) → all (answered w st ls (set s y 0)) zs ≡ all (answered w st ls s) zs
    unfolding answered
    answered_kept a zs = ap (λ (p : ℕ → Bool). all p zs) (fun_ext (λ z. go z (eqb z y) refl))
      where
        at : ℕ → ℕ → ℕ → Bool
        at z n k = cond (ltb z n) (not (eqb k 1 && is_existential w (z / 2))) (in_line w st ls z)

        here : (b : Bool) → ltb y (length s) ≡ b → at y (length s) 0 ≡ at y (length s) (get_or s y 0)
        here true l = ap (λ b. cond b true (in_line w st ls y)) l ∙ sym a
        here false l =
            ap (λ b. cond b true (in_line w st ls y)) l
            ∙ sym (ap (λ b. cond b (not (eqb (get_or s y 0) 1 && is_existential w (y / 2))) (in_line w st ls y)) l)

        go : (z : ℕ) (b : Bool) → eqb z y ≡ b → at z (length (set s y 0)) (get_or (set s y 0) z 0) ≡ at z (length s) (get_or s z 0)
        go z true e =
            let q = eqb-true z y e in
            ap (λ k. at k (length (set s y 0)) (get_or (set s y 0) k 0)) q ∙ ap (λ n. at y n (get_or (set s y 0) y 0)) (length-set s y 0)
            ∙ ap (at y (length s)) (zero_there s y) ∙ here (ltb y (length s)) refl ∙ sym (ap (λ k. at k (length s) (get_or s k 0)) q)
        go z false e =
            ap (λ n. at z n (get_or (set s y 0) z 0)) (length-set s y 0) ∙ ap (at z (length s)) (get_or-set_other s y z 0 0 (eqb-false z y e))

-- WHAT THE MARKS SAY
marked_in : (cs s : List ℕ) → Marking s cs → (y : ℕ) → is_marked cs s y ≡ is_in cs y
unfolding Marking is_marked
marked_in cs s m y = go (ltb y (length s)) refl
  where
    some : (b : Bool) → not (eqb (cond b 1 0) 0) ≡ b
    some true = refl
    some false = refl

    go : (b : Bool) → ltb y (length s) ≡ b → cond b (not (eqb (get_or s y 0) 0)) (is_in cs y) ≡ is_in cs y
    go true l = ap (λ k. not (eqb k 0)) (m y (ltb-true y (length s) l)) ∙ some (is_in cs y)
    go false l = refl

-- tests that agree on a list
all_in : (p q : ℕ → Bool) (ys : List ℕ) → ((y : ℕ) → is_in ys y ≡ true → p y ≡ q y) → all p ys ≡ all q ys
all_in p q [] h = refl
all_in p q (y ∷ ys) h =
    ap (λ b. b && all p ys) (h y (ap (λ b. b || is_in ys y) (eq-eqb y y refl)))
    ∙ ap (λ b. q y && b) (all_in p q ys (λ z i. h z (ap (λ b. eqb z y || b) i ∙ or-true (eqb z y))))

-- a code without a mark has none after marks are taken back
cleared_none : (ys s : List ℕ) (y : ℕ) → (is_in ys y ≡ false → get_or s y 0 ≡ 0) → get_or (cleared ys s) y 0 ≡ 0
unfolding cleared
cleared_none [] s y h = h refl
cleared_none (x ∷ ys) s y h = cleared_none ys (set s x 0) y (λ i. go i (eqb y x) refl)
  where
    go : is_in ys y ≡ false → (b : Bool) → eqb y x ≡ b → get_or (set s x 0) y 0 ≡ 0
    go i true e = ap (λ k. get_or (set s x 0) k 0) (eqb-true y x e) ∙ zero_there s x
    go i false e = get_or-set_other s x y 0 0 (eqb-false y x e) ∙ h (ap (λ b. b || is_in ys y) e ∙ i)

cleared_length : (ys s : List ℕ) → length (cleared ys s) ≡ length s
unfolding cleared
cleared_length [] s = refl
cleared_length (y ∷ ys) s = cleared_length ys (set s y 0) ∙ length-set s y 0

module _ (w st : ℕ → ℕ) (cs : List ℕ) where
  stamped_length : (ls s : List ℕ) → length (stamped_by w st cs ls s) ≡ length s
  unfolding stamped_by
  stamped_length [] s = refl
  stamped_length (x ∷ ls) s = go (meets w st cs s x) (stamped_length ls (set s (image_of st x) 2))
    where
      go : (b : Bool) → length (stamped_by w st cs ls (set s (image_of st x) 2)) ≡ length (set s (image_of st x) 2)
          → length (cond b (stamped_by w st cs ls (set s (image_of st x) 2)) s) ≡ length s
      go true h = h ∙ length-set s (image_of st x) 2
      go false h = refl

  -- the line marks no code that has no mark
  stamped_none : (ls s : List ℕ) (y : ℕ) → get_or s y 0 ≡ 0 → get_or (stamped_by w st cs ls s) y 0 ≡ 0
  unfolding stamped_by
  stamped_none [] s y h = h
  stamped_none (x ∷ ls) s y h = go (meets w st cs s x) refl (stamped_none ls (set s (image_of st x) 2) y)
    where
      go : (b : Bool) → meets w st cs s x ≡ b
          → (get_or (set s (image_of st x) 2) y 0 ≡ 0 → get_or (stamped_by w st cs ls (set s (image_of st x) 2)) y 0 ≡ 0)
          → get_or (cond b (stamped_by w st cs ls (set s (image_of st x) 2)) s) y 0 ≡ 0
      go true m r = r (eqb-true _ 0 (zero_kept cs s (image_of st x) (meets_mark w st cs s x m) y ∙ eq-eqb _ 0 h))
      go false m r = h

  -- a line that meets the clause gives what its literals stand for mark 2
  stamped_at : (ls s : List ℕ) (y : ℕ) → y < length s → all (meets w st cs s) ls ≡ true
      → get_or (stamped_by w st cs ls s) y 0 ≡ cond (is_in (images_of st ls) y) 2 (get_or s y 0)
  unfolding stamped_by images_of
  stamped_at [] s y l a = refl
  stamped_at (x ∷ ls) s y l a = go (meets w st cs s x) refl a
      (λ h. stamped_at ls (set s (image_of st x) 2) y (omega (arith, length-set s (image_of st x) 2)) h)
    where
      go : (b : Bool) → meets w st cs s x ≡ b → (b && all (meets w st cs s) ls) ≡ true
          → (all (meets w st cs (set s (image_of st x) 2)) ls ≡ true
          → get_or (stamped_by w st cs ls (set s (image_of st x) 2)) y 0 ≡ cond (is_in (images_of st ls) y) 2 (get_or (set s (image_of st x) 2) y 0))
          → get_or (cond b (stamped_by w st cs ls (set s (image_of st x) 2)) s) y 0 ≡ cond (eqb y (image_of st x) || is_in (images_of st ls) y) 2 (get_or s y 0)
      go true m h r =
          r (meets_kept w st cs s x m ls ∙ h) ∙ ap (cond (is_in (images_of st ls) y) 2) (set_at s (image_of st x) 2 y l)
          ∙ twice 2 (get_or s y 0) (eqb y (image_of st x)) (is_in (images_of st ls) y)
      go false m h r = absurd (false≢true h)

  module _ (s : List ℕ) (m : Marking s cs) (ls : List ℕ) where
    meets_in : all (meets w st cs s) ls ≡ all (in_clause w st cs) ls
    unfolding meets in_clause
    meets_in =
        ap (λ (p : ℕ → Bool). all p ls)
        (fun_ext (λ x. ap (λ b. cond (is_existential w (st (x / 2))) b false) (marked_in cs s m (image_of st x))))

    answered_in : all (meets w st cs s) ls ≡ true → (y : ℕ) → is_in cs y ≡ true → answered w st ls (stamped_by w st cs ls s) y ≡ in_line w st ls y
    unfolding answered in_line Marking
    answered_in a y i = go (ltb y (length (stamped_by w st cs ls s))) refl
      where
        tell : (b e : Bool) → not (eqb (cond b 2 1) 1 && e) ≡ cond e b true
        tell true true = refl
        tell true false = refl
        tell false true = refl
        tell false false = refl

        go : (b : Bool) → ltb y (length (stamped_by w st cs ls s)) ≡ b
            → cond b (not (eqb (get_or (stamped_by w st cs ls s) y 0) 1 && is_existential w (y / 2))) (in_line w st ls y) ≡ in_line w st ls y
        go true l =
            let h : y < length s = omega (arith, ltb-true y _ l, stamped_length ls s) in
            ap (λ k. not (eqb k 1 && is_existential w (y / 2)))
            (stamped_at ls s y h a ∙ ap (cond (is_in (images_of st ls) y) 2) (m y h ∙ ap (λ b. cond b 1 0) i))
            ∙ tell (is_in (images_of st ls) y) (is_existential w (y / 2))
        go false l = refl

    -- what the clause does not hold has no mark after the line
    stamped_clear : (y : ℕ) → is_in cs y ≡ false → get_or (stamped_by w st cs ls s) y 0 ≡ 0
    unfolding Marking
    stamped_clear y i = stamped_none ls s y (go (ltb y (length s)) refl)
      where
        go : (b : Bool) → ltb y (length s) ≡ b → get_or s y 0 ≡ 0
        go true l = m y (ltb-true y (length s) l) ∙ ap (λ b. cond b 1 0) i
        go false l = get_or-eq_default s 0 (ltb-false y (length s) l)

  -- both walks after the marking
  pub walks_fit : (ls s : List ℕ) {s₁ s₂ s₃ : List ℕ} {a b : Bool} → s₁ ≡ marks cs s
      → (a ≡ all (meets w st cs s₁) ls) × (s₂ ≡ stamped_by w st cs ls s₁)
      → (b ≡ all (answered w st ls s₂) cs) × (s₃ ≡ cleared cs s₂)
      → Unmarked s → ((a && b) ≡ literals_fit w st ls cs) × Unmarked s₃
  walks_fit ls s {s₁} {s₂} {s₃} {a} {b} e p q u = (go a p.0, record { long = omega (arith, u.long, size); none = none })
    where
      m : Marking s₁ cs
      m = unmarked_marking cs s u s₁ e

      size : length s₃ ≡ length s
      size =
          ap (length {A = ℕ}) q.1 ∙ cleared_length cs s₂ ∙ ap (length {A = ℕ}) p.1 ∙ stamped_length ls s₁
          ∙ ap (length {A = ℕ}) e ∙ marks_length cs s

      none : (y : ℕ) → get_or s₃ y 0 ≡ 0
      none y = ap (λ l. get_or l y 0) q.1 ∙ cleared_none cs s₂ y (λ i. ap (λ l. get_or l y 0) p.1 ∙ stamped_clear s₁ m ls y i)

      go : (a : Bool) → a ≡ all (meets w st cs s₁) ls → (a && b) ≡ literals_fit w st ls cs
      go true h =
          fit_yes w st ls cs (sym (meets_in s₁ m ls) ∙ sym h)
          (q.0 ∙ all_in _ _ cs (λ y i. ap (λ (t : List ℕ). answered w st ls t y) p.1 ∙ answered_in s₁ m ls (sym h) y i))
      go false h = fit_no w st ls cs (sym (meets_in s₁ m ls) ∙ sym h)
