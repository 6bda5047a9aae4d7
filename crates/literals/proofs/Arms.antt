-- The test of the literals, from its two parts and from the line's first literal. Assumes nothing.
use mathlib.Core.Path.{◌≡◌, refl, ap, sym}
use mathlib.Core.Bool.{Bool, true, false, ◌&&◌}
use mathlib.Core.List.{List, [], ◌∷◌}
use Prim.Native.Nat.{ℕ}
use Rattle.std.specs.List.{list_all as all}
use Rattle.literals.specs.Literals.{in_clause, first_in, in_line, literals_fit}
use Rattle.copies.proofs.Choices.{yes, no}

module _ (w st : ℕ → ℕ) (ls cs : List ℕ) where
  pub fit_no : all (in_clause w st cs) ls ≡ false → false ≡ literals_fit w st ls cs
  unfolding literals_fit
  fit_no a = no (all (in_clause w st cs) ls) (all (in_line w st ls) cs) false a refl

  pub fit_yes : {r : Bool} → all (in_clause w st cs) ls ≡ true → r ≡ all (in_line w st ls) cs → r ≡ literals_fit w st ls cs
  unfolding literals_fit
  fit_yes a q = yes (all (in_clause w st cs) ls) (all (in_line w st ls) cs) false a q

  -- a line whose first literal is not in the clause does not fit
  pub first_unfit : first_in w st cs ls ≡ false → literals_fit w st ls cs ≡ false
  unfolding first_in
  first_unfit h = sym (fit_no (head ls h))
    where
      head : (ls : List ℕ) → first_in w st cs ls ≡ false → all (in_clause w st cs) ls ≡ false
      head [] h = h
      head (x ∷ ls) h = ap (λ b. b && all (in_clause w st cs) ls) h
