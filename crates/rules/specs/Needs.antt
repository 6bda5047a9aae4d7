-- The places of the six tables. Assumes nothing.
use Rattle.std.specs.Prelude.{Bool, ◌&&◌, map, ℕ, ◌+◌, max, leb, length}
use Rattle.std.proofs.Math.Option.{Option, none, some}
use Rattle.rules.specs.Basics.{greatest, sum}
use Rattle.rules.specs.Literals.{Lits, vars}
use Rattle.rules.specs.Formula.{Formula}
use Rattle.rules.specs.Forms.{CertificateLine, mapping, hints, expansion, addition, deletion}

-- a number for each table: its length, or the places that it needs
pub record Places : Type 0 where
  pub prefix : ℕ
  pub matrix : ℕ
  pub map : ℕ
  pub proof : ℕ
  pub marks : ℕ
  pub values : ℕ

abbrev pub places : ℕ → ℕ → ℕ → ℕ → ℕ → ℕ → Places
places a b c d e f = record { prefix = a; matrix = b; map = c; proof = d; marks = e; values = f }

-- no need is above its table's length
unfoldable pub fits : Places → Places → Bool
fits lengths needs =
    leb needs.prefix lengths.prefix && leb needs.matrix lengths.matrix && leb needs.map lengths.map
    && leb needs.proof lengths.proof && leb needs.marks lengths.marks && leb needs.values lengths.values

-- "Needs are totals up to and including the line being read"; of values, "the largest copy .. so far"
unfoldable pub together : Places → Places → Places
together p q =
    places (p.prefix + q.prefix) (p.matrix + q.matrix) (p.map + q.map) (p.proof + q.proof) (p.marks + q.marks)
    (max p.values q.values)

-- "prefix, V from the `p` line on; matrix, each clause line's literals as written plus 1"
unfoldable pub formula_needs : Formula → Places
formula_needs f = places f.highest (sum (map (λ (c : Lits). length c + 1) f.matrix)) 0 0 0 0

-- before the `p` line nothing is needed
abbrev pub formula_needs_so_far : Option Formula → Places
formula_needs_so_far none = places 0 0 0 0 0 0
formula_needs_so_far (some f) = formula_needs f

-- WHAT A LINE OF THE CERTIFICATE NEEDS. "map, each mapping line's numbers with its three zeros; proof, each `o`, `e` or addition
-- line's numbers with its zero, those of deleted clauses included; marks, 1 for each `e` or addition line; values, the largest copy"
unfoldable pub line_needs : CertificateLine → Places
line_needs (mapping ps es ls) = places 0 0 (length ps + length es + length ls + 3) 0 0 (greatest ps)
line_needs (hints ns) = places 0 0 0 (length ns + 1) 0 0
line_needs (expansion c) = places 0 0 0 (length c + 1) 1 (greatest (vars c))
line_needs (addition c) = places 0 0 0 (length c + 1) 1 (greatest (vars c))
line_needs (deletion c) = places 0 0 0 0 0 0
