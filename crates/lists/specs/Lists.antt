-- The numbers and the lists of a line, as the first pass sees them. Assumes nothing.
use Rattle.std.specs.Prelude.{Option as Answer, None, Some, Bool, true, false, ◌||◌, cond, List, [], ◌∷◌, ℕ, zero, suc, ◌/◌, ◌%◌, min, eqb, length}
use Rattle.std.proofs.Math.Option.{Option, none, some}
use Rattle.lines.specs.Lines.{Token}
use Rattle.lines.specs.Scan.{cap, tokens_from, end_at, literal_at}
use Rattle.rules.specs.Basics.{greatest, maybe}
use Rattle.rules.specs.Literals.{Lits, vars}
use Rattle.rules.specs.Codes.{sign}
use Rattle.rules.specs.Forms.{CertificateLine, mapping, hints, expansion, addition, deletion, up_to_zero, whole, literal, mapping_form, ◌>>=◌}
use Rattle.lists.specs.declared.Measure.{Measure}
use Rattle.lists.specs.declared.MappingLists.{MappingLists}

-- A NUMBER WITHOUT A SIGN
abbrev pub natural_of : Answer (ℕ × ℕ) → Answer (ℕ × ℕ)
natural_of (Some r) = cond (eqb (r.0 % 2) 0) (Some (r.0 / 2, r.1)) None
natural_of None = None

unfoldable pub natural_at : List ℕ → ℕ → Answer (ℕ × ℕ)
natural_at bs at = natural_of (literal_at bs at)

-- the place after k words
unfoldable pub place_after : ℕ → List ℕ → ℕ → ℕ
place_after zero bs at = at
place_after (suc k) bs at = place_after k bs (end_at bs at)

-- whether a literal is negative
abbrev pub has_minus : Lits → Bool
has_minus [] = false
has_minus (l ∷ c) = eqb (sign l) 1 || has_minus c

-- the greatest of the variables, at most the cap: above every limit exactly if the greatest is
abbrev pub capped : List ℕ → ℕ
capped vs = min cap (greatest vs)

-- what the first pass says of the literals
abbrev pub measure : Lits → Measure
measure c = record { negative = has_minus c; count = length c; largest = capped (vars c) }

-- A LIST UP TO A ZERO
abbrev pub listed : List ℕ → ℕ → Option (Lits × List Token) → Answer (Measure × ℕ)
listed bs at none = None
listed bs at (some r) = Some (measure r.0, place_after (suc (length r.0)) bs at)

unfoldable pub listed_at : List ℕ → ℕ → Answer (Measure × ℕ)
listed_at bs at = listed bs at (up_to_zero literal (tokens_from bs at))

-- its literals; none if there is no such list
unfoldable pub lits_at : List ℕ → ℕ → Lits
lits_at bs at = maybe (up_to_zero literal (tokens_from bs at)) [] (λ r. r.0)

-- there is such a list
unfoldable pub is_list : List ℕ → ℕ → Bool
is_list bs at = maybe (up_to_zero literal (tokens_from bs at)) false (λ r. true)

-- tokens up to a zero that ends the line
unfoldable pub exactly : {A : Type 0} → (Token → Option A) → List Token → Option (List A)
exactly item ts = up_to_zero item ts >>= λ r. whole r.0 r.1

-- A LINE OF LITERALS AND A ZERO
abbrev pub surveyed : Option Lits → Answer Measure
surveyed none = None
surveyed (some c) = Some (measure c)

unfoldable pub clause_at : List ℕ → ℕ → Answer Measure
clause_at bs at = surveyed (exactly literal (tokens_from bs at))

-- THE THREE LISTS OF A MAPPING LINE, by the form of the rules
abbrev pub mapped : List ℕ → ℕ → CertificateLine → Answer MappingLists
mapped bs at (mapping ps es ls) =
    Some (record {
      copies = length ps;
      literals = length ls;
      highest_copy = capped ps;
      highest_existential = capped es;
      highest_universal = capped (vars ls);
      existentials_at = place_after (suc (length ps)) bs at;
      literals_at = place_after (suc (length es)) bs (place_after (suc (length ps)) bs at);
    })
mapped bs at (hints ns) = None
mapped bs at (expansion c) = None
mapped bs at (addition c) = None
mapped bs at (deletion c) = None

unfoldable pub mapping_at : List ℕ → ℕ → Answer MappingLists
mapping_at bs at = maybe (mapping_form (tokens_from bs at)) None (mapped bs at)
