-- The line's literals against the clause's, over lists of codes. Assumes nothing.
use Rattle.std.specs.Prelude.{Bool, true, false, cond, List, [], ◌∷◌, ℕ, ◌/◌}
use Rattle.std.specs.List.{list_all as all}
use Rattle.rules.specs.Basics.{is_in}
use Rattle.prefix.specs.Prefix.{is_existential}
use Rattle.copies.specs.Copies.{image_of, images_of}

-- w gives each variable's word of the prefix table
module _ (w : ℕ → ℕ) where
  -- st gives each copy's existential
  module _ (st : ℕ → ℕ) where
    -- the existential literal that x stands for is in the clause
    unfoldable pub in_clause : List ℕ → ℕ → Bool
    in_clause cs x = cond (is_existential w (st (x / 2))) (is_in cs (image_of st x)) false

    -- the line's first literal is in the clause
    unfoldable pub first_in : List ℕ → List ℕ → Bool
    first_in cs [] = true
    first_in cs (x ∷ ls) = in_clause cs x

    -- if y is existential, a literal of the line stands for it
    unfoldable pub in_line : List ℕ → ℕ → Bool
    in_line ls y = cond (is_existential w (y / 2)) (is_in (images_of st ls) y) true

    -- the line's literals are the clause's existential ones
    unfoldable pub literals_fit : List ℕ → List ℕ → Bool
    literals_fit ls cs = cond (all (in_clause cs) ls) (all (in_line ls) cs) false
