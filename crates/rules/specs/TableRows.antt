-- Checks of the rules in tables and limits of other sizes: what is needed, 15, and 1. Assumes nothing.
use Rattle.std.specs.Prelude.{◌≡◌, refl, Bool, true, false, List, [], ◌∷◌, map, ℕ}
use Rattle.std.proofs.Math.Option.{Option}
use Prim.Native.String.{String}
use Rattle.lines.specs.Bytes.{bytes, class_of}
use Rattle.rules.specs.Needs.{Places, places}
use Rattle.rules.specs.Limits.{Limits, allows, limits, limits_with, program_limits}
use Rattle.rules.specs.Verdict.{Checked, check, the_rules}
use Rattle.rules.specs.Render.{render}
use Rattle.rules.specs.Twelve.{tables, A, B}
use Rattle.rules.specs.Rows.{F}

-- the certificate of check 1
abbrev pub proof_a : String
proof_a = "x 1 0 2 0 -1 0\no 1 2 0\ne 1 0\ne -1 0\n0\n"

abbrev pub no_place : Places
no_place = places 0 0 0 0 0 0

-- The tables' lengths, a formula, a certificate; the verdict, and the places needed up to the line where the check ended.
abbrev pub TableRow : Type 0
TableRow = Places × String × String × String × Places

abbrev pub table_rows : List TableRow
table_rows =
    -- each table exactly as long as its need, and one place shorter: refuses a place too many or too few, and a table not looked at
    (places 2 6 6 8 3 1, A, proof_a, "accepted,0,0,0,2,1,0", places 2 6 6 8 3 1)
    ∷ (places 1 6 6 8 3 1, A, proof_a, "refused,15,1,1,0,0,0", places 2 0 0 0 0 0)
    ∷ (places 2 5 6 8 3 1, A, proof_a, "refused,15,1,5,0,0,0", places 2 6 0 0 0 0)
    ∷ (places 2 6 5 8 3 1, A, proof_a, "refused,15,2,1,0,0,0", places 2 6 6 0 0 1)
    ∷ (places 2 6 6 7 3 1, A, proof_a, "refused,15,2,5,2,0,0", places 2 6 6 8 3 1)
    ∷ (places 2 6 6 8 2 1, A, proof_a, "refused,15,2,5,2,0,0", places 2 6 6 8 3 1)
    ∷ (places 2 6 6 8 3 0, A, proof_a, "refused,15,2,1,0,0,0", places 2 6 6 0 0 1)
    -- "prefix, V from the `p` line on; matrix, each clause line's literals as written plus 1"
    ∷ (tables, "c\n", "", "refused,2,1,0,0,0,0", no_place)
    ∷ (tables, "p cnf 3 1\ne 1 0\n", "", "refused,6,1,0,0,0,0", places 3 0 0 0 0 0)
    ∷ (tables, "p cnf 3 2\ne 1 0\n1 1 -1 1 0\n0\n", "", "refused,14,2,0,0,0,0", places 3 6 0 0 0 0)
    -- "map, each mapping line's numbers with its three zeros": repeated ones too; "the largest copy", not the largest E or L
    ∷ (tables, A, "x 7 3 0 2 2 0 -1 0\nx 0 0 0\nx 4 0 2 0 0\n", "refused,14,2,0,0,0,0", places 2 6 16 0 0 7)
    -- "proof, each `o`, `e` or addition line's numbers with its zero, those of deleted clauses included; marks, 1 for each `e` or
    -- addition line; values, the largest copy in any mapping, `e` or addition line so far"
    ∷ (tables, A, "o 1 1 2 0\n", "refused,10,2,0,0,0,0", places 2 6 0 4 0 0)
    ∷ (tables, A, "x 5 0 2 0 -1 0\ne 5 5 0\n", "refused,14,2,0,1,0,0", places 2 6 6 3 1 5)
    ∷ (tables, B, "-7 -7 0\n5 0\nd -7 0\n", "refused,14,2,0,0,2,1", places 0 0 0 5 2 7)
    -- a line that is refused otherwise than 2 or 3 is counted: 5, 6, 7, 8, 9, 10, 11, 12; a deletion needs nothing, and raises no value
    ∷ (tables, "p cnf 2 2\ne 1 0\n1 2 0\n", "", "refused,5,1,3,0,0,0", places 2 3 0 0 0 0)
    ∷ (tables, "p cnf 1 1\ne 1 0\n0\n1 1 0\n", "", "refused,6,1,4,0,0,0", places 1 4 0 0 0 0)
    ∷ (tables, A, "x 6 6 0 2 2 0 1 0\n", "refused,7,2,1,0,0,0", places 2 6 8 0 0 6)
    ∷ (tables, A, "x 6 0 1 0 0\n", "refused,8,2,1,0,0,0", places 2 6 5 0 0 6)
    ∷ (tables, B, "e 7 8 7 0\n", "refused,9,2,1,0,0,0", places 0 0 0 4 1 8)
    ∷ (tables, A, "o 1 0\n5 5 0\n", "refused,10,2,2,0,0,0", places 2 6 0 5 1 5)
    ∷ (tables, A, "x 6 0 2 0 0\ne 6 0\n", "refused,11,2,2,0,0,0", places 2 6 5 2 1 6)
    ∷ (tables, B, "5 0\nd 5 0\n5 6 0\n-5 7 8 0\n", "refused,12,2,4,0,2,1", places 0 0 0 9 3 8)
    ∷ (tables, B, "5 0\nd 9 9 0\n", "refused,13,2,2,0,1,0", places 0 0 0 2 1 5)
    -- "A line refused 2 or 3 adds nothing to them."
    ∷ (tables, "p cnf 4 x\n", "", "refused,2,1,1,0,0,0", no_place)
    ∷ (tables, "p cnf 4097 0\n", "", "refused,3,1,1,0,0,0", no_place)
    ∷ (tables, "p cnf 2 0\np cnf 3 0\n", "", "refused,2,1,2,0,0,0", places 2 0 0 0 0 0)
    ∷ (tables, "p cnf 2 2\ne 1 2 0\n1 2 0\n1 3 0\n", "", "refused,3,1,4,0,0,0", places 2 3 0 0 0 0)
    ∷ (tables, A, "x 7 0 3 0 0\n", "refused,3,2,1,0,0,0", places 2 6 0 0 0 0)
    ∷ (tables, A, "o 1 3 0\n", "refused,3,2,1,0,0,0", places 2 6 0 0 0 0)
    ∷ (tables, B, "e 7 16385 0\n", "refused,3,2,1,0,0,0", no_place)
    ∷ (tables, B, "5 0\n16385 0\n", "refused,3,2,2,0,1,0", places 0 0 0 2 1 5)
    ∷ (tables, B, "5 0\n7 07 0\n", "refused,2,2,2,0,1,0", places 0 0 0 2 1 5)
    ∷ (tables, B, "5 0\ne 7 0\n", "refused,2,2,2,0,1,0", places 0 0 0 2 1 5)
    ∷ (tables, A, "o 0\no 1 0\n", "refused,2,2,2,0,0,0", places 2 6 0 1 0 0)
    ∷ (tables, A, "o 0\nx 7 0 2 0 0\n", "refused,2,2,2,0,0,0", places 2 6 0 1 0 0)
    -- 2 and 3 before 15
    ∷ (no_place, "p cnf 4097 0\n", "", "refused,3,1,1,0,0,0", no_place)
    ∷ (places 1 0 0 0 0 0, "p cnf 1 1\n2 0\n", "", "refused,3,1,2,0,0,0", places 1 0 0 0 0 0)
    ∷ (no_place, B, "x 16385 0 0 0\n", "refused,2,2,1,0,0,0", no_place)
    ∷ (no_place, B, "16385 0\n", "refused,3,2,1,0,0,0", no_place)
    ∷ (places 0 0 0 2 1 5, B, "5 0\no 0\n", "refused,2,2,2,0,1,0", places 0 0 0 2 1 5)
    -- 15 before 5, 6, 7, 8, 9, 10, 11 and 12, and for an `o` line; a deletion finds room in full tables
    ∷ (places 1 1 0 0 0 0, "p cnf 1 1\n1 0\n", "", "refused,15,1,2,0,0,0", places 1 2 0 0 0 0)
    ∷ (no_place, "p cnf 0 0\n0\n", "", "refused,15,1,2,0,0,0", places 0 1 0 0 0 0)
    ∷ (places 2 6 9 0 0 1, A, "x 1 0 2 0 0\nx 1 0 2 0 0\n", "refused,15,2,2,0,0,0", places 2 6 10 0 0 1)
    ∷ (places 2 6 4 0 0 1, A, "x 1 0 1 0 0\n", "refused,15,2,1,0,0,0", places 2 6 5 0 0 1)
    ∷ (no_place, B, "e 7 0\n", "refused,15,2,1,0,0,0", places 0 0 0 2 1 7)
    ∷ (places 0 1 0 2 0 0, F, "o 1 0\n5 0\n", "refused,15,2,2,0,0,0", places 0 1 0 4 1 5)
    ∷ (places 2 6 5 1 1 6, A, "x 6 0 2 0 0\ne 6 0\n", "refused,15,2,2,0,0,0", places 2 6 5 2 1 6)
    ∷ (places 0 1 0 1 0 0, F, "o 1 0\n", "refused,15,2,1,0,0,0", places 0 1 0 2 0 0)
    ∷ (places 0 1 0 1 0 0, F, "o 0\ne 0\n", "refused,15,2,2,0,0,0", places 0 1 0 2 1 0)
    ∷ (no_place, B, "0\n", "refused,15,2,1,0,0,0", places 0 0 0 1 1 0)
    ∷ (places 0 0 0 2 1 5, B, "5 0\nd 5 0\nd 5 0\n", "refused,13,2,3,0,1,1", places 0 0 0 2 1 5)
    ∷ []

-- the fields and the needs of a check
abbrev pub told : Checked → List ℕ × Places
told c = (render c.report, c.needs)

unfoldable pub Tell : List TableRow → Type 0
Tell rs =
    map (λ (r : TableRow). told (check (limits r.0) (bytes r.1) (bytes r.2))) rs
    ≡ map (λ (r : TableRow). (bytes r.3, r.4)) rs

pub table_checks : Tell table_rows
unfolding the_rules render class_of Tell
table_checks = refl

-- Limits in bytes, a formula of 10 bytes, a certificate of 2; the verdict, and the places needed.
abbrev pub LongRow : Type 0
LongRow = Limits × String × String × String × Places

abbrev pub long_rows : List LongRow
long_rows =
    -- "Order: 1 for the formula, 1 for the certificate, formula lines, certificate lines."
    (limits_with 10 2 tables, "p cnf 3 0\n", "0\n", "refused,12,2,1,0,0,0", places 3 0 0 1 1 0)
    ∷ (limits_with 9 1 tables, "p cnf 3 0\n", "0\n", "refused,1,1,0,0,0,0", no_place)
    ∷ (limits_with 9 2 tables, "p cnf 3 0\n", "0\n", "refused,1,1,0,0,0,0", no_place)
    ∷ (limits_with 10 1 tables, "p cnf 3 0\n", "0\n", "refused,1,2,0,0,0,0", no_place)
    ∷ (limits_with 10 1 tables, "p cnf 3 x\n", "0\n", "refused,1,2,0,0,0,0", no_place)
    ∷ []

unfoldable pub Long : List LongRow → Type 0
Long rs =
    map (λ (r : LongRow). told (check r.0 (bytes r.1) (bytes r.2))) rs ≡ map (λ (r : LongRow). (bytes r.3, r.4)) rs

pub long_checks : Long long_rows
unfolding the_rules render class_of Long
long_checks = refl

-- A limit, a number, whether it is allowed.
abbrev pub AllowRow : Type 0
AllowRow = Option ℕ × ℕ × Bool

abbrev pub allow_rows : List AllowRow
allow_rows =
    -- "Each file at most 1,048,576 bytes"
    ((limits tables).formula_bytes, 1048576, true)
    ∷ ((limits tables).formula_bytes, 1048577, false)
    ∷ ((limits tables).certificate_bytes, 1048576, true)
    ∷ ((limits tables).certificate_bytes, 1048577, false)
    -- "the program below holds 16,384 bytes of formula and 65,536 of certificate"
    ∷ ((program_limits tables).formula_bytes, 16384, true)
    ∷ ((program_limits tables).formula_bytes, 16385, false)
    ∷ ((program_limits tables).certificate_bytes, 65536, true)
    ∷ ((program_limits tables).certificate_bytes, 65537, false)
    -- the program's other limits are the same
    ∷ ((program_limits tables).highest, 4096, true)
    ∷ ((program_limits tables).highest, 4097, false)
    ∷ ((program_limits tables).clauses, 8192, true)
    ∷ ((program_limits tables).clauses, 8193, false)
    ∷ ((program_limits tables).copies, 16384, true)
    ∷ ((program_limits tables).copies, 16385, false)
    ∷ []

unfoldable pub Allow : List AllowRow → Type 0
Allow rs = map (λ (r : AllowRow). allows r.0 r.1) rs ≡ map (λ (r : AllowRow). r.2) rs

pub allow_checks : Allow allow_rows
unfolding Allow
allow_checks = refl
