-- Laws of a line's step, and of the needs. Assumes nothing.
use mathlib.Core.Path.{◌≡◌, refl, ap, ap₂, sym, ◌∙◌, subst}
use mathlib.Core.Bool.{Bool, true, false, ◌&&◌}
use mathlib.Core.List.{List, [], ◌∷◌, ◌++◌}
use mathlib.Core.Option.{Option, none, some}
use Prim.Native.Nat.{ℕ, ◌+◌}
use native.Mathlib.Omega.{arith}
use lib.Dec.{leb}
use lib.ListN.{length, length-append}
use lib.IntN.{ℤ}
use borrow.Author.Tests.{le-leb}
use Rattle.std.specs.Prelude.{Some, None, Ok, Err}
use Rattle.rules.specs.declared.Rule.{Rule}
use Rattle.rules.specs.Rule.{number}
use Rattle.std.specs.List.{list_all as all}
use Rattle.cells.specs.Cells.{Kept}
use Rattle.cells.proofs.Laws.{kept_self}
use Rattle.rules.specs.Literals.{Lits}
use Rattle.rules.specs.Formula.{Formula}
use Rattle.rules.specs.Needs.{Places, fits, formula_needs, formula_needs_so_far}
use Rattle.rules.specs.Step.{Step, next, refuse}
use Rattle.rules.specs.FormulaLines.{with_clause}
use Rattle.rules.proofs.Kit.{and_l, and_r, and_i}
use Rattle.lists.specs.Stores.{written, flat}
use Rattle.lists.proofs.StoreLaws.{length_written, flat_snoc, length_flat}
use Rattle.formula.specs.declared.Reading.{Reading}
use Rattle.formula.specs.Holds.{Holds, Sized}
use Rattle.formula.specs.Judged.{Outcome, Holding, Judged, Grows, LineRead}

-- a refusal, and an accepted line
pub refused : {x : Step (Option Formula)} {rule : Rule} {g : Option Formula} {p m u w : List ℤ} → x ≡ refuse (number rule) g
    → Kept (formula_needs_so_far g).prefix p u → Kept (formula_needs_so_far g).matrix m w → Judged x p m (Err rule) u w
refused {x} {rule} {g} {p} {m} {u} {w} e a b =
    subst (λ x. Judged x p m (Err rule) u w) (sym e) (record { stepped = refl; prefix = a; matrix = b })

pub accepted : {x : Step (Option Formula)} {f : Formula} {r : Reading} {p m u w : List ℤ} → x ≡ next (some f) → Holds r u w f
    → Kept (formula_needs f).prefix p u → Kept (formula_needs f).matrix m w → Judged x p m (Ok (Some r)) u w
accepted {x} {f} {r} {p} {m} {u} {w} e h a b =
    subst (λ x. Judged x p m (Ok (Some r)) u w) (sym e) (record { stepped = h; prefix = a; matrix = b })

module _ (judge : Places → Option Formula → Step (Option Formula)) (n : ℕ) (p m : List ℤ) where
  pub read_start : {t : Outcome} {u w : List ℤ} → ((l : Places) → Sized l p m → Judged (judge l none) p m t u w) → Grows n t → LineRead judge None n p m t u w
  read_start {t} {u} {w} h g = record { judged = go; grows = subst (λ k. Grows k t) (the_same n) g }
    where
      the_same : (n : ℕ) → n ≡ 0 + n
      the_same n = omega arith

      go : (l : Places) (f : Option Formula) → Sized l p m → Holding None p m f → Judged (judge l f) p m t u w
      go l none o k = h l o
      go l (some f) o k = absurd k

  module _ (r : Reading) where
    pub read_within : {t : Outcome} {u w : List ℤ} → ((l : Places) (f : Formula) → Sized l p m → Holds r p m f → Judged (judge l (some f)) p m t u w) → Grows (r.bound + n) t
        → LineRead judge (Some r) n p m t u w
    read_within {t} {u} {w} h g = record { judged = go; grows = g }
      where
        go : (l : Places) (f : Option Formula) → Sized l p m → Holding (Some r) p m f → Judged (judge l f) p m t u w
        go l none o k = absurd k
        go l (some f) o k = h l f o k

    -- a line that is refused before anything is stored
    pub untouched : {rule : Rule} (g : Formula → Option Formula) → ((l : Places) (f : Formula) → Sized l p m → Holds r p m f → judge l (some f) ≡ refuse (number rule) (g f))
        → LineRead judge (Some r) n p m (Err rule) p m
    untouched g e = read_within (λ l f o h. refused (e l f o h) (kept_self (formula_needs_so_far (g f)).prefix p) (kept_self (formula_needs_so_far (g f)).matrix m)) tt

  pub start_untouched : {rule : Rule} (g : Option Formula) → ((l : Places) → Sized l p m → judge l none ≡ refuse (number rule) g) → LineRead judge None n p m (Err rule) p m
  start_untouched g e = read_start (λ l o. refused (e l o) (kept_self (formula_needs_so_far g).prefix p) (kept_self (formula_needs_so_far g).matrix m)) tt

-- THE NEEDS OF A FORMULA
and_one : (t : Bool) → t && true ≡ t
and_one true = refl
and_one false = refl

pub fits_formula : (l : Places) (f : Formula) → fits l (formula_needs f) ≡ leb f.highest l.prefix && leb (formula_needs f).matrix l.matrix
unfolding fits formula_needs
fits_formula l f =
    let x = leb f.highest l.prefix && leb (formula_needs f).matrix l.matrix in
    ap₂ (λ a b. x && a && b && leb 0 l.marks && leb 0 l.values) (le-leb 0 l.map (omega arith)) (le-leb 0 l.proof (omega arith))
    ∙ ap₂ (λ a b. x && true && true && a && b) (le-leb 0 l.marks (omega arith)) (le-leb 0 l.values (omega arith))
    ∙ and_one (x && true && true && true) ∙ and_one (x && true && true) ∙ and_one (x && true) ∙ and_one x

pub prefix_need : (f : Formula) → (formula_needs f).prefix ≡ f.highest
unfolding formula_needs
prefix_need f = refl

need_flat : (f : Formula) → (formula_needs f).matrix ≡ length (flat f.matrix)
unfolding formula_needs
need_flat f = sym (length_flat f.matrix)

pub need_more : (f : Formula) (c : Lits) → (formula_needs (with_clause f c)).matrix ≡ (formula_needs f).matrix + (length c + 1)
need_more f c =
    need_flat (with_clause f c) ∙ ap length (flat_snoc f.matrix c) ∙ length-append (flat f.matrix) (written c)
    ∙ omega (arith, need_flat f, length_written c)

pub all_append : {A : Type 0} (p : A → Bool) (xs ys : List A) → all p xs ≡ true → all p ys ≡ true → all p (xs ++ ys) ≡ true
all_append p [] ys h e = e
all_append p (x ∷ xs) ys h e = and_i (p x) (all p (xs ++ ys)) (and_l (p x) (all p xs) h) (all_append p xs ys (and_r (p x) (all p xs) h) e)

pub all_snoc : {A : Type 0} (p : A → Bool) (xs : List A) (y : A) → all p xs ≡ true → p y ≡ true → all p (xs ++ (y ∷ [])) ≡ true
all_snoc p xs y h e = all_append p xs (y ∷ []) h (ap (λ b. b && true) e)
