-- A mapping line: what its first pass tells, and what the line leads to. Assumes nothing.
use Rattle.std.specs.Prelude.{◌≡◌, Bool, ◌&&◌, List, ◌++◌, ℕ, ◌+◌, ◌*◌, ◌<◌, ◌≤◌, max, leb, length, ℤ, Result, Ok, Err}
use Rattle.std.proofs.Math.Option.{Option, none, some}
use Rattle.std.specs.List.{list_all as all}
use Rattle.lines.specs.Scan.{tokens_from}
use Rattle.cells.specs.Cells.{Kept}
use Rattle.prefix.specs.Prefix.{Told}
use Rattle.rules.specs.Basics.{greatest}
use Rattle.rules.specs.Literals.{Lits, vars}
use Rattle.rules.specs.declared.Rule.{Rule}
use Rattle.rules.specs.declared.Rule.TheVariants.{Malformed}
use Rattle.rules.specs.Rule.{number}
use Rattle.rules.specs.Formula.{Formula}
use Rattle.rules.specs.Forms.{mapping, mapping_form}
use Rattle.rules.specs.Limits.{allows}
use Rattle.rules.specs.Step.{◌unless◌, ◌then◌}
use Rattle.rules.specs.FormulaLines.{up_to_v}
use Rattle.rules.specs.Expansion.{Copy, copies, mapping_rules}
use Rattle.rules.specs.Least.{Proper}
use Rattle.mapping.specs.declared.Mapped.{Mapped}
use Rattle.mapping.specs.Shown.{MappingShown}

-- the largest copy, existential and universal of the line are in range
unfoldable pub ranged : ℕ → ℕ → ℕ → ℕ → Bool
ranged v c e l = leb c 16384 && leb e v && leb l v

-- WHAT IS LENT: the map and the values table, and the marks
pub record Lent : Type 0 where
  pub map : List ℤ
  pub values : List ℤ
  pub noted : List ℕ

abbrev pub lent : List ℤ → List ℤ → List ℕ → Lent
lent t u n = record { map = t; values = u; noted = n }

-- THE STATE AFTER THE LINE. "map, each mapping line's numbers with its three zeros"; "values, the largest copy .. so far"
abbrev pub after : Mapped → List ℕ → List ℕ → Lits → Mapped
after s ps es ls = record { used = s.used + (length ps + length es + length ls + 3); largest = max s.largest (greatest ps) }

-- THE NUMBER OF ITS REFUSAL, none if it is accepted. "Within a line: 2, 3, 15, then by rising number"
unfoldable pub refusal : Bool → Mapped → Lent → Formula → List Copy → List ℕ → List ℕ → Lits → Option ℕ
refusal turn s t f m ps es ls =
    2 unless turn
    then 3 unless (all (allows (some 16384)) ps && up_to_v f es && up_to_v f (vars ls))
    then 15 unless (leb (after s ps es ls).used (length t.map) && leb (after s ps es ls).largest (length t.values))
    then mapping_rules f m ps es ls

-- WHAT HOLDS BEFORE a line of n bytes: the prefix table shows f's prefix, V being f's; the tables and the marks show the copies m
pub record Before (n v : ℕ) (s : Mapped) (prefix : List ℤ) (t : Lent) (f : Formula) (m : List Copy) : Type 0 where
  pub told : Told prefix v f
  pub highest : v ≡ f.highest
  pub low : v ≤ 4096
  pub shown : MappingShown t.map t.values t.noted s.used m
  pub proper : Proper f m
  pub light : s.used + 3 * n < 2147483648

-- WHAT HOLDS AFTER an accepted line of n bytes, m being the copies then
pub record After (n : ℕ) (s : Mapped) (t : Lent) (q : Mapped) (u : Lent) (f : Formula) (m : List Copy) : Type 0 where
  pub shown : MappingShown u.map u.values u.noted q.used m
  pub proper : Proper f m
  pub map : Kept q.used t.map u.map
  pub values : Kept q.largest t.values u.values
  pub grows : q.used ≤ s.used + n
  pub few : q.largest ≤ max s.largest 16384

-- a refused line writes into no table
pub record Unwritten (t u : Lent) : Type 0 where
  pub map : u.map ≡ t.map
  pub values : u.values ≡ t.values

-- THE RULES' NUMBER AND THE CODE'S ANSWER
abbrev pub Leads : ℕ → Mapped → Lent → Formula → List Copy → Mapped → Option ℕ → Result Mapped Rule → Lent → Type 0
Leads n s t f m q none (Ok p) u = (p ≡ q) × After n s t q u f m
Leads n s t f m q none (Err k) u = ⊥
Leads n s t f m q (some i) (Ok p) u = ⊥
Leads n s t f m q (some i) (Err k) u = (number k ≡ i) × Unwritten t u

-- WHAT THE LINE LEADS TO
pub record MappingLine (bs : List ℕ) (at : ℕ) (turn : Bool) (v : ℕ) (s : Mapped) (prefix : List ℤ) (t : Lent) (r : Result Mapped Rule) (u : Lent)
    : Type 0 where
  pub malformed : mapping_form (tokens_from bs at) ≡ none → (r ≡ Err Malformed) × Unwritten t u
  pub formed : (ps es : List ℕ) (ls : Lits) → mapping_form (tokens_from bs at) ≡ some (mapping ps es ls)
      → (f : Formula) (m : List Copy) → Before (length bs) v s prefix t f m
      → Leads (length bs) s t f (m ++ copies ps es ls) (after s ps es ls) (refusal turn s t f m ps es ls) r u
  pub long : length u.map ≡ length t.map
  pub wide : length u.values ≡ length t.values
