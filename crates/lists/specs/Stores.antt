-- Lists in a table: what the second pass stores, and the clauses of a table one after the other. Assumes nothing.
use Rattle.std.specs.Prelude.{Result, Ok, Err, Bool, ◌&&◌, cond, List, [], ◌∷◌, ◌++◌, map, ℕ, zero, suc, ◌+◌, ◌*◌, min, eqb, leb, length, ℤ, pos}
use Rattle.std.proofs.lemmas.List.Edits.{sets}
use Rattle.std.specs.List.{list_all as all}
use Rattle.lines.specs.Lines.{Token, number, minus, word}
use Rattle.lines.specs.Scan.{cap, tokens_from}
use Rattle.rules.specs.Literals.{Lits}
use Rattle.rules.specs.Codes.{code_of}
use Rattle.rules.specs.declared.Rule.{Rule}
use Rattle.rules.specs.declared.Rule.TheVariants.{Malformed}
use Rattle.lists.specs.Lists.{is_list}

-- the codes of the tokens up to and with the zero, or up to a token that is no literal
unfoldable pub codes_in : List Token → List ℕ
codes_in [] = []
codes_in (number n ∷ ts) = (2 * min cap n) ∷ cond (eqb n 0) [] (codes_in ts)
codes_in (minus n ∷ ts) = (2 * min cap n + 1) ∷ codes_in ts
codes_in (word w ∷ ts) = []

unfoldable pub codes_at : List ℕ → ℕ → List ℕ
codes_at bs at = codes_in (tokens_from bs at)

-- what ends a second pass: the zero, or a token that is no literal, which is malformed
unfoldable pub ending_at : List ℕ → ℕ → Result (Unit {0}) Rule
ending_at bs at = cond (is_list bs at) (Ok tt) (Err Malformed)

-- numbers stored from a place on, as far as the table goes
unfoldable pub puts : List ℤ → ℕ → List ℕ → List ℤ
puts t k xs = sets t k (map pos xs)

-- a clause in a table: its codes and an end mark
abbrev pub written : Lits → List ℕ
written c = map code_of c ++ (0 ∷ [])

-- clauses one after the other
unfoldable pub flat : List Lits → List ℕ
flat [] = []
flat (c ∷ cs) = written c ++ flat cs

-- where clause i starts, counted from 0
unfoldable pub place_of : ℕ → List Lits → ℕ
place_of zero cs = 0
place_of (suc i) [] = 0
place_of (suc i) (c ∷ cs) = length c + 1 + place_of i cs

-- every variable is between 1 and n
abbrev pub in_range : ℕ → List ℕ → Bool
in_range n vs = all (λ v. leb 1 v && leb v n) vs
