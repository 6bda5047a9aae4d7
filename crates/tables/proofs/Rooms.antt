-- Laws of what is needed of the six tables and of what there is. Assumes nothing.
use mathlib.Core.Path.{◌≡◌, ap₂, ◌∙◌}
use mathlib.Core.Bool.{Bool, true, false, ◌&&◌}
use Prim.Native.Nat.{ℕ, ◌≤◌}
use lib.Dec.{leb}
use borrow.Author.Tests.{leb-true, le-leb}
use Rattle.rules.specs.Needs.{Places, places, fits}
use Rattle.rules.proofs.Kit.{and_l, and_r, and_i, by_yes}

-- ROOM
pub record Room (l n : Places) : Type 0 where
  pub prefix : n.prefix ≤ l.prefix
  pub matrix : n.matrix ≤ l.matrix
  pub map : n.map ≤ l.map
  pub proof : n.proof ≤ l.proof
  pub marks : n.marks ≤ l.marks
  pub values : n.values ≤ l.values

module _ (l n : Places) where
  abbrev one : Bool
  one = leb n.prefix l.prefix

  abbrev two : Bool
  two = one && leb n.matrix l.matrix

  abbrev three : Bool
  three = two && leb n.map l.map

  abbrev four : Bool
  four = three && leb n.proof l.proof

  abbrev five : Bool
  five = four && leb n.marks l.marks

  pub fits_room : fits l n ≡ true → Room l n
  unfolding fits
  fits_room e =
      let e5 = and_l five (leb n.values l.values) e in
      let e4 = and_l four (leb n.marks l.marks) e5 in
      let e3 = and_l three (leb n.proof l.proof) e4 in
      let e2 = and_l two (leb n.map l.map) e3 in
      record {
        prefix = leb-true n.prefix l.prefix (and_l one (leb n.matrix l.matrix) e2);
        matrix = leb-true n.matrix l.matrix (and_r one (leb n.matrix l.matrix) e2);
        map = leb-true n.map l.map (and_r two (leb n.map l.map) e3);
        proof = leb-true n.proof l.proof (and_r three (leb n.proof l.proof) e4);
        marks = leb-true n.marks l.marks (and_r four (leb n.marks l.marks) e5);
        values = leb-true n.values l.values (and_r five (leb n.values l.values) e);
      }

  pub room_fits : Room l n → fits l n ≡ true
  unfolding fits
  room_fits r =
      let e2 = and_i one (leb n.matrix l.matrix) (le-leb n.prefix l.prefix r.prefix) (le-leb n.matrix l.matrix r.matrix) in
      let e3 = and_i two (leb n.map l.map) e2 (le-leb n.map l.map r.map) in
      let e4 = and_i three (leb n.proof l.proof) e3 (le-leb n.proof l.proof r.proof) in
      let e5 = and_i four (leb n.marks l.marks) e4 (le-leb n.marks l.marks r.marks) in
      and_i five (leb n.values l.values) e5 (le-leb n.values l.values r.values)

  pub no_room : (Room l n → ⊥) → fits l n ≡ false
  no_room h = by_yes (fits l n) (λ e. h (fits_room e))

pub places_same : {a a₁ b b₁ c c₁ d d₁ e e₁ v v₁ : ℕ} → a ≡ a₁ → b ≡ b₁ → c ≡ c₁ → d ≡ d₁ → e ≡ e₁ → v ≡ v₁
    → places a b c d e v ≡ places a₁ b₁ c₁ d₁ e₁ v₁
places_same {a} {a₁} {b} {b₁} {c} {c₁} {d} {d₁} {e} {e₁} {v} {v₁} i j k l m n =
    ap₂ (λ a b. places a b c d e v) i j ∙ ap₂ (λ c d. places a₁ b₁ c d e v) k l ∙ ap₂ (λ e v. places a₁ b₁ c₁ d₁ e v) m n
