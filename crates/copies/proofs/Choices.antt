-- What a test chooses. Assumes nothing.
use mathlib.Core.Path.{◌≡◌, ap, sym, ◌∙◌}
use mathlib.Core.Bool.{Bool, true, false, cond}

module _ {A : Type 0} (b : Bool) (x y : A) where
  pub yes : {r : A} → b ≡ true → r ≡ x → r ≡ cond b x y
  yes p q = q ∙ sym (ap (λ t. cond t x y) p)

  pub no : {r : A} → b ≡ false → r ≡ y → r ≡ cond b x y
  no p q = q ∙ sym (ap (λ t. cond t x y) p)
