-- Checks of FERP certificates by the rules. Assumes nothing.
use Rattle.std.specs.Prelude.{◌≡◌, refl, List, [], ◌∷◌, ◌++◌, map}
use Prim.Native.String.{String}
use Rattle.lines.specs.Bytes.{bytes, class_of}
use Rattle.rules.specs.Needs.{places}
use Rattle.rules.specs.Limits.{limits, limits_with}
use Rattle.rules.specs.Verdict.{the_rules}
use Rattle.rules.specs.Render.{render}
use Rattle.rules.specs.Twelve.{Row, tables, A, B}
use Rattle.rules.specs.Rows.{F}
use Rattle.rules.specs.TableRows.{LongRow, no_place, told}
use Rattle.ferp_rules.specs.Verdict.{ferp_check, ferp_verdict, the_ferp_rules}

-- figure 2 of source document 001
abbrev pub figure : String
figure = "p cnf 3 3\ne 1 0\na 2 0\ne 3 0\n1 2 3 0\n-1 -2 3 0\n-3 0\n"

-- {1} and {-1}; {1, 2} and {-1, 3}; {1, 2} and {-1, -2}; {1, -1} and {-1}
abbrev pub units : String
units = "p cnf 1 2\ne 1 0\n1 0\n-1 0\n"

abbrev pub pair : String
pair = "p cnf 3 2\ne 1 2 3 0\n1 2 0\n-1 3 0\n"

abbrev pub crossed : String
crossed = "p cnf 2 2\ne 1 2 0\n1 2 0\n-1 -2 0\n"

abbrev pub tautology : String
tautology = "p cnf 1 2\ne 1 0\n1 -1 0\n-1 0\n"

-- THE LINES
abbrev pub form_rows : List Row
form_rows =
    -- "a positive index, literals, `0`, one or two numbers, `0`"
    (F, "1 0 1 0\n", "accepted,0,0,0,1,0,0")
    ∷ (F, "0 0 1 0\n", "refused,2,2,1,0,0,0")
    ∷ (F, "-1 0 1 0\n", "refused,2,2,1,0,0,0")
    ∷ (F, "01 0 1 0\n", "refused,2,2,1,0,0,0")
    ∷ (F, "1\n", "refused,2,2,1,0,0,0")
    ∷ (F, "1 0 0\n", "refused,2,2,1,0,0,0")
    ∷ (F, "1 0 1\n", "refused,2,2,1,0,0,0")
    ∷ (F, "1 0 1 1 1 0\n", "refused,2,2,1,0,0,0")
    ∷ (F, "1 0 0 1 0\n", "refused,2,2,1,0,0,0")
    ∷ (F, "1 0 1 0 1 0\n", "refused,2,2,1,0,0,0")
    ∷ (F, "1 0 -1 0\n", "refused,2,2,1,0,0,0")
    ∷ (F, "1 0 1 -1 0\n", "refused,2,2,1,0,0,0")
    ∷ (F, "1 x 0 1 0\n", "refused,2,2,1,0,0,0")
    ∷ (F, "1 0 1 0 c\n", "refused,2,2,1,0,0,0")
    -- no FERAT lines: an addition, `o`, `e`, `d`; no other word
    ∷ (F, "0\n", "refused,2,2,1,0,0,0")
    ∷ (F, "1 2 0\n", "refused,2,2,1,0,0,0")
    ∷ (F, "o 1 0\n", "refused,2,2,1,0,0,0")
    ∷ (F, "e 0\n", "refused,2,2,1,0,0,0")
    ∷ (F, "1 0 1 0\nd 0\n", "refused,2,2,2,1,0,0")
    ∷ (F, "xx 0 0 0\n", "refused,2,2,1,0,0,0")
    -- skipped lines count; the last line may end with the file
    ∷ (F, "c 1\n \t\r\nx 0 0 0\n\n\t9  0 1\r0", "accepted,0,0,0,1,0,0")
    ∷ (F, "c 1\n\n1 0 2 0\n", "refused,3,2,3,0,0,0")
    -- "the same mapping lines": 2, 3, 7, 8
    ∷ (units, "x 1 0 0 0\n", "refused,2,2,1,0,0,0")
    ∷ (units, "x 16385 0 1 0 0\n", "refused,3,2,1,0,0,0")
    ∷ (units, "x 1 0 2 0 0\n", "refused,3,2,1,0,0,0")
    ∷ (units, "x 1 0 1 0 0\nx 1 0 1 0 0\n", "refused,7,2,2,0,0,0")
    ∷ (figure, "x 1 0 2 0 0\n", "refused,8,2,1,0,0,0")
    -- "then clause lines": no mapping line after one, whatever else is wrong with it
    ∷ (F, "1 0 1 0\nx 0 0 0\n", "refused,2,2,2,1,0,0")
    ∷ (F, "1 0 1 0\nx 16385 0 1 0 0\n", "refused,2,2,2,1,0,0")
    ∷ (units, "x 1 0 1 0 0\n1 1 0 1 0\n2 -1 0 2 0\n3 0 1 2 0\nx 0 0 0\n", "refused,2,2,5,2,1,0")
    -- the formula's lines come first
    ∷ ("", "1\n", "refused,2,1,0,0,0,0")
    ∷ ("p cnf 0 0\n1 0\n", "1\n", "refused,3,1,2,0,0,0")
    ∷ ("p cnf 1 0\ne 1 1 0\n", "1\n", "refused,4,1,2,0,0,0")
    ∷ ("p cnf 1 1\n1 0\n", "1\n", "refused,5,1,2,0,0,0")
    ∷ ("p cnf 0 1\n", "1\n", "refused,6,1,0,0,0,0")
    ∷ []

-- 3, OUT OF RANGE
abbrev pub range_rows : List Row
range_rows =
    -- "an index above 65,536": a line's own, the first parent's, the second's
    (F, "65536 0 1 0\n", "accepted,0,0,0,1,0,0")
    ∷ (F, "65537 0 1 0\n", "refused,3,2,1,0,0,0")
    ∷ (F, "1 0 1 0\n2 0 65536 1 0\n", "refused,16,2,2,1,0,0")
    ∷ (F, "1 0 1 0\n2 0 65537 1 0\n", "refused,3,2,2,1,0,0")
    ∷ (F, "1 0 1 0\n2 0 1 65536 0\n", "refused,16,2,2,1,0,0")
    ∷ (F, "1 0 1 0\n2 0 1 65537 0\n", "refused,3,2,2,1,0,0")
    ∷ (F, "65537 0 1 1 0\n", "refused,3,2,1,0,0,0")
    -- "n above C": of two numbers neither is one
    ∷ (F, "1 0 2 0\n", "refused,3,2,1,0,0,0")
    ∷ (B, "1 0 1 0\n", "refused,3,2,1,0,0,0")
    ∷ (units, "x 1 0 1 0 0\n8 1 0 1 0\n9 -1 0 2 0\n3 0 8 9 0\n", "accepted,0,0,0,2,1,0")
    -- "a copy above its limit", in both kinds of line
    ∷ (units, "x 16384 0 1 0 0\n1 16384 0 1 0\n2 -16384 0 2 0\n3 0 1 2 0\n", "accepted,0,0,0,2,1,0")
    ∷ (F, "1 -16384 0 1 0\n", "refused,9,2,1,0,0,0")
    ∷ (F, "1 -16385 0 1 0\n", "refused,3,2,1,0,0,0")
    ∷ (F, "1 16384 0 2 3 0\n", "refused,16,2,1,0,0,0")
    ∷ (F, "1 16385 0 2 3 0\n", "refused,3,2,1,0,0,0")
    -- 2 before 3; 3 before 17, 16, 9
    ∷ (F, "65537 0 0\n", "refused,2,2,1,0,0,0")
    ∷ (F, "1 0 1 0\n1 0 2 0\n", "refused,3,2,2,1,0,0")
    ∷ (F, "1 0 9 65537 0\n", "refused,3,2,1,0,0,0")
    ∷ (F, "1 5 0 2 0\n", "refused,3,2,1,0,0,0")
    ∷ []

-- 17, INDEX USED
abbrev pub used_rows : List Row
used_rows =
    -- by an expansion, by a resolution; the first line of several
    (F, "1 0 1 0\n1 0 1 0\n", "refused,17,2,2,1,0,0")
    ∷ (units, "x 1 0 1 0 0\n1 1 0 1 0\n2 -1 0 2 0\n1 0 1 2 0\n", "refused,17,2,4,2,0,0")
    ∷ (units, "x 1 0 1 0 0\n1 1 0 1 0\n2 -1 0 2 0\n3 0 1 2 0\n3 1 0 1 0\n", "refused,17,2,5,2,1,0")
    -- "17 first": before 16, 9, 11
    ∷ (units, "x 1 0 1 0 0\n1 1 0 1 0\n1 1 0 7 8 0\n", "refused,17,2,3,1,0,0")
    ∷ (units, "x 1 0 1 0 0\n1 1 0 1 0\n1 7 0 1 0\n", "refused,17,2,3,1,0,0")
    ∷ (units, "x 1 0 1 0 0\n1 1 0 1 0\n1 -1 0 1 0\n", "refused,17,2,3,1,0,0")
    -- an index in no order, with gaps; a number that was a parent's or a matrix clause's is no index used
    ∷ (units, "x 1 0 1 0 0\n900 1 0 1 0\n7 -1 0 2 0\n1 0 7 900 0\n2 1 0 1 0\n", "accepted,0,0,0,3,1,0")
    ∷ []

-- RESOLUTIONS
abbrev pub resolution_rows : List Row
resolution_rows = (
  figure,
  "x 1 0 1 0 0\nx 2 0 3 0 2 0\nx 3 0 3 0 -2 0\n1 1 3 0 1 0\n2 -1 2 0 2 0\n3 -3 0 3 0\n4 -2 0 3 0\n5 2 3 0 1 2 0\n6 2 0 5 3 0\n7 0 6 4 0\n",
  "accepted,0,0,0,4,3,0",
)
    -- "whichever parent holds it positive"
    ∷ (units, "x 1 0 1 0 0\n1 1 0 1 0\n2 -1 0 2 0\n3 0 1 2 0\n", "accepted,0,0,0,2,1,0")
    ∷ (units, "x 1 0 1 0 0\n1 1 0 1 0\n2 -1 0 2 0\n3 0 2 1 0\n", "accepted,0,0,0,2,1,0")
    -- "a missing parent": unknown, first or second; the line's own index; a later line's
    ∷ (units, "x 1 0 1 0 0\n1 1 0 1 0\n2 -1 0 2 0\n3 0 1 4 0\n", "refused,16,2,4,2,0,0")
    ∷ (units, "x 1 0 1 0 0\n1 1 0 1 0\n2 -1 0 2 0\n3 0 4 2 0\n", "refused,16,2,4,2,0,0")
    ∷ (tautology, "x 1 0 1 0 0\n1 1 -1 0 1 1 0\n", "refused,16,2,2,0,0,0")
    ∷ (units, "x 1 0 1 0 0\n1 1 0 1 0\n3 0 1 2 0\n2 -1 0 2 0\n", "refused,16,2,3,1,0,0")
    -- "the clause equals, as a set": in any order, with repeats; on another copy than the first
    ∷ (pair, "x 1 2 3 0 1 2 3 0 0\n1 1 2 0 1 0\n2 -1 3 0 2 0\n3 2 3 0 1 2 0\n", "refused,14,2,0,2,1,0")
    ∷ (pair, "x 1 2 3 0 1 2 3 0 0\n1 2 1 1 0 1 0\n2 3 -1 -1 0 2 0\n3 3 2 3 0 2 1 0\n", "refused,14,2,0,2,1,0")
    -- no less: the first parent's literal dropped, the second's; no more: the pivot, its negative, another literal; no other sign
    ∷ (pair, "x 1 2 3 0 1 2 3 0 0\n1 1 2 0 1 0\n2 -1 3 0 2 0\n3 3 0 1 2 0\n", "refused,16,2,4,2,0,0")
    ∷ (pair, "x 1 2 3 0 1 2 3 0 0\n1 1 2 0 1 0\n2 -1 3 0 2 0\n3 2 0 1 2 0\n", "refused,16,2,4,2,0,0")
    ∷ (pair, "x 1 2 3 0 1 2 3 0 0\n1 1 2 0 1 0\n2 -1 3 0 2 0\n3 2 3 1 0 1 2 0\n", "refused,16,2,4,2,0,0")
    ∷ (pair, "x 1 2 3 0 1 2 3 0 0\n1 1 2 0 1 0\n2 -1 3 0 2 0\n3 -1 2 3 0 1 2 0\n", "refused,16,2,4,2,0,0")
    ∷ (pair, "x 1 2 3 0 1 2 3 0 0\n1 1 2 0 1 0\n2 -1 3 0 2 0\n3 2 3 -3 0 1 2 0\n", "refused,16,2,4,2,0,0")
    ∷ (pair, "x 1 2 3 0 1 2 3 0 0\n1 1 2 0 1 0\n2 -1 3 0 2 0\n3 -2 3 0 1 2 0\n", "refused,16,2,4,2,0,0")
    -- an unmapped copy in a resolution is no 9
    ∷ (pair, "x 1 2 3 0 1 2 3 0 0\n1 1 2 0 1 0\n2 -1 3 0 2 0\n3 2 3 9 0 1 2 0\n", "refused,16,2,4,2,0,0")
    -- parents that do not clash have none; nor do two copies of one existential clash
    ∷ ("p cnf 2 2\ne 1 2 0\n1 0\n2 0\n", "x 1 2 0 1 2 0 0\n1 1 0 1 0\n2 2 0 2 0\n3 1 2 0 1 2 0\n", "refused,16,2,4,2,0,0")
    ∷ (units, "x 1 0 1 0 0\n1 1 0 1 0\n2 1 0 1 1 0\n", "refused,16,2,3,1,0,0")
    ∷ (units, "x 1 0 1 0 0\n1 -1 0 2 0\n2 -1 0 1 1 0\n", "refused,16,2,3,1,0,0")
    ∷ (F, "1 0 1 0\n2 0 1 1 0\n", "refused,16,2,2,1,0,0")
    ∷ (units, "x 1 2 0 1 1 0 0\n1 1 0 1 0\n2 -2 0 2 0\n3 0 1 2 0\n", "refused,16,2,4,2,0,0")
    -- "on some copy": on either of two, not on both at once
    ∷ (crossed, "x 1 2 0 1 2 0 0\n1 1 2 0 1 0\n2 -1 -2 0 2 0\n3 2 -2 0 1 2 0\n4 1 -1 0 1 2 0\n", "refused,14,2,0,2,2,0")
    ∷ (crossed, "x 1 2 0 1 2 0 0\n1 1 2 0 1 0\n2 -1 -2 0 2 0\n3 0 1 2 0\n", "refused,16,2,4,2,0,0")
    ∷ (crossed, "x 1 2 0 1 2 0 0\n1 1 2 0 1 0\n2 -1 -2 0 2 0\n3 2 0 1 2 0\n", "refused,16,2,4,2,0,0")
    -- v leaves the one parent and -v the other, not both signs both: of {1, -1} with {-1}, and with itself
    ∷ (tautology, "x 1 0 1 0 0\n1 1 -1 0 1 0\n2 -1 0 2 0\n3 0 1 2 0\n", "refused,16,2,4,2,0,0")
    ∷ (tautology, "x 1 0 1 0 0\n1 1 -1 0 1 0\n2 -1 0 2 0\n3 -1 0 1 2 0\n4 -1 0 2 1 0\n", "refused,14,2,0,2,2,0")
    ∷ (tautology, "x 1 0 1 0 0\n1 1 -1 0 1 0\n2 -1 0 2 0\n3 1 0 1 2 0\n", "refused,16,2,4,2,0,0")
    ∷ (tautology, "x 1 0 1 0 0\n1 1 -1 0 1 0\n2 -1 1 0 1 1 0\n", "refused,14,2,0,1,1,0")
    ∷ (tautology, "x 1 0 1 0 0\n1 1 -1 0 1 0\n2 1 0 1 1 0\n", "refused,16,2,3,1,0,0")
    ∷ (tautology, "x 1 0 1 0 0\n1 1 -1 0 1 0\n2 0 1 1 0\n", "refused,16,2,3,1,0,0")
    ∷ []

-- EXPANSIONS
abbrev pub expansion_rows : List Row
expansion_rows =
    -- 9 unmapped, before 11
    (units, "1 1 0 1 0\n", "refused,9,2,1,0,0,0")
    ∷ (units, "x 1 0 1 0 0\n1 -1 7 0 1 0\n", "refused,9,2,2,0,0,0")
    -- "an expansion of matrix clause n": this one, and neither the next, nor the one before, nor any; the last one too, and one again
    ∷ (units, "x 1 0 1 0 0\n1 1 0 1 0\n2 1 0 1 0\n3 -1 0 2 0\n", "refused,14,2,0,3,0,0")
    ∷ (units, "x 1 0 1 0 0\n1 -1 0 1 0\n", "refused,11,2,2,0,0,0")
    ∷ (units, "x 1 0 1 0 0\n1 1 0 2 0\n", "refused,11,2,2,0,0,0")
    -- 11 "no expansion", as an `e` line: a literal too few, too many, another annotation
    ∷ (units, "x 1 0 1 0 0\n1 0 1 0\n", "refused,11,2,2,0,0,0")
    ∷ (units, "x 1 0 1 0 0\n1 1 -1 0 1 0\n", "refused,11,2,2,0,0,0")
    ∷ (A, "x 1 0 2 0 -1 0\n1 1 0 1 0\n2 -1 0 2 0\n3 0 1 2 0\n", "accepted,0,0,0,2,1,0")
    ∷ (A, "x 1 0 2 0 1 0\n1 1 0 1 0\n", "refused,11,2,2,0,0,0")
    ∷ (A, "x 1 0 2 0 0\n1 1 0 1 0\n", "refused,11,2,2,0,0,0")
    -- an empty clause by expansion; of a clause with both signs of a universal there is none
    ∷ ("p cnf 1 1\na 1 0\n1 0\n", "5 0 1 0\n", "accepted,0,0,0,1,0,0")
    ∷ ("p cnf 1 1\na 1 0\n1 -1 0\n", "5 0 1 0\n", "refused,11,2,1,0,0,0")
    -- "Acceptance means that an empty clause was derived": one of the matrix is none; lines after it are judged
    ∷ (F, "", "refused,14,2,0,0,0,0")
    ∷ (units, "x 1 0 1 0 0\n", "refused,14,2,0,0,0,0")
    ∷ (units, "x 1 0 1 0 0\n1 1 0 1 0\n2 -1 0 2 0\n", "refused,14,2,0,2,0,0")
    ∷ (units, "x 1 0 1 0 0\n1 1 0 1 0\n2 -1 0 2 0\n3 0 1 2 0\n4 1 0 1 0\n5 0 4 2 0\n", "accepted,0,0,0,3,2,0")
    ∷ (units, "x 1 0 1 0 0\n1 1 0 1 0\n2 -1 0 2 0\n3 0 1 2 0\n4 1 0 1 2 0\n", "refused,16,2,5,2,1,0")
    ∷ (F, "1 0 1 0\n2 5 0 1 0\n", "refused,9,2,2,1,0,0")
    ∷ []

abbrev pub rows : List Row
rows = form_rows ++ range_rows ++ used_rows ++ resolution_rows ++ expansion_rows

unfoldable pub Agree : List Row → Type 0
Agree rs =
    map (λ (r : Row). render (ferp_verdict (limits tables) (bytes r.0) (bytes r.1))) rs ≡ map (λ (r : Row). bytes r.2) rs

pub ferp_checks : Agree rows
unfolding the_rules the_ferp_rules render class_of Agree
ferp_checks = refl

-- the certificate of `units`
abbrev pub closed : String
closed = "x 1 0 1 0 0\n1 1 0 1 0\n2 -1 0 2 0\n3 0 1 2 0\n"

-- Limits with the tables' lengths, a formula, a certificate; the verdict, and the places needed up to the line where the check ended.
abbrev pub table_rows : List LongRow
table_rows =
    -- each table exactly as long as its need, and one place shorter
    (limits (places 1 4 5 8 3 1), units, closed, "accepted,0,0,0,2,1,0", places 1 4 5 8 3 1)
    ∷ (limits (places 0 4 5 8 3 1), units, closed, "refused,15,1,1,0,0,0", places 1 0 0 0 0 0)
    ∷ (limits (places 1 3 5 8 3 1), units, closed, "refused,15,1,4,0,0,0", places 1 4 0 0 0 0)
    ∷ (limits (places 1 4 4 8 3 1), units, closed, "refused,15,2,1,0,0,0", places 1 4 5 0 0 1)
    ∷ (limits (places 1 4 5 7 3 1), units, closed, "refused,15,2,4,2,0,0", places 1 4 5 8 3 1)
    ∷ (limits (places 1 4 5 8 2 1), units, closed, "refused,15,2,4,2,0,0", places 1 4 5 8 3 1)
    ∷ (limits (places 1 4 5 8 3 0), units, closed, "refused,15,2,1,0,0,0", places 1 4 5 0 0 1)
    -- "its literals plus 2 in the proof table, 1 in marks, and values as an `e` line does": as written, one number or two
    ∷ (limits (places 0 1 0 2 1 0), F, "1 0 1 0\n", "accepted,0,0,0,1,0,0", places 0 1 0 2 1 0)
    ∷ (limits (places 0 1 0 1 1 0), F, "1 0 1 0\n", "refused,15,2,1,0,0,0", places 0 1 0 2 1 0)
    ∷ (limits (places 0 1 0 2 0 0), F, "1 0 1 0\n", "refused,15,2,1,0,0,0", places 0 1 0 2 1 0)
    ∷ (limits (places 1 4 5 5 1 1), units, "x 1 0 1 0 0\n1 1 1 1 0 1 0\n", "refused,14,2,0,1,0,0", places 1 4 5 5 1 1)
    ∷ (limits (places 1 4 5 4 1 1), units, "x 1 0 1 0 0\n1 1 1 1 0 1 0\n", "refused,15,2,2,0,0,0", places 1 4 5 5 1 1)
    ∷ (limits tables, units, "x 1 6 0 1 1 0 0\n1 1 0 1 0\n", "refused,14,2,0,1,0,0", places 1 4 7 3 1 6)
    -- a line refused 17, 16, 9 or 11 is counted
    ∷ (limits tables, units, "x 1 0 1 0 0\n1 1 0 1 0\n1 8 0 1 0\n", "refused,17,2,3,1,0,0", places 1 4 5 6 2 8)
    ∷ (limits tables, units, "x 1 0 1 0 0\n1 1 0 1 0\n2 9 9 0 1 7 0\n", "refused,16,2,3,1,0,0", places 1 4 5 7 2 9)
    ∷ (limits tables, F, "1 7 0 1 0\n", "refused,9,2,1,0,0,0", places 0 1 0 3 1 7)
    ∷ (limits tables, units, "x 1 0 1 0 0\n1 -1 0 1 0\n", "refused,11,2,2,0,0,0", places 1 4 5 3 1 1)
    -- one refused 2 or 3 is not
    ∷ (limits tables, units, "x 1 0 1 0 0\n1 9 0\n", "refused,2,2,2,0,0,0", places 1 4 5 0 0 1)
    ∷ (limits tables, units, "x 1 0 1 0 0\n1 1 0 1 0\nx 9 0 1 0 0\n", "refused,2,2,3,1,0,0", places 1 4 5 3 1 1)
    ∷ (limits tables, units, "x 1 0 1 0 0\n1 9 0 3 0\n", "refused,3,2,2,0,0,0", places 1 4 5 0 0 1)
    ∷ (limits tables, units, "x 1 0 1 0 0\n65537 9 0 1 2 0\n", "refused,3,2,2,0,0,0", places 1 4 5 0 0 1)
    -- 2 and 3 before 15; 15 before 17, 16, 9, 11
    ∷ (limits no_place, B, "1 0 0\n", "refused,2,2,1,0,0,0", no_place)
    ∷ (limits no_place, B, "1 0 1 0\n", "refused,3,2,1,0,0,0", no_place)
    ∷ (limits (places 1 4 5 5 2 1), units, "x 1 0 1 0 0\n1 1 0 1 0\n1 1 0 1 0\n", "refused,15,2,3,1,0,0", places 1 4 5 6 2 1)
    ∷ (limits no_place, B, "1 0 2 3 0\n", "refused,15,2,1,0,0,0", places 0 0 0 2 1 0)
    ∷ (limits (places 0 1 0 3 1 6), F, "1 7 0 1 0\n", "refused,15,2,1,0,0,0", places 0 1 0 3 1 7)
    ∷ (limits (places 1 4 5 3 0 1), units, "x 1 0 1 0 0\n1 -1 0 1 0\n", "refused,15,2,2,0,0,0", places 1 4 5 3 1 1)
    -- 1 overlong: a formula of 10 bytes, a certificate of 10
    ∷ (limits_with 10 10 tables, B, "1 0 2 3 0\n", "refused,16,2,1,0,0,0", places 0 0 0 2 1 0)
    ∷ (limits_with 9 9 tables, B, "1 0 2 3 0\n", "refused,1,1,0,0,0,0", no_place)
    ∷ (limits_with 10 9 tables, B, "1 0 2 3 0\n", "refused,1,2,0,0,0,0", no_place)
    ∷ []

unfoldable pub Tell : List LongRow → Type 0
Tell rs =
    map (λ (r : LongRow). told (ferp_check r.0 (bytes r.1) (bytes r.2))) rs ≡ map (λ (r : LongRow). (bytes r.3, r.4)) rs

pub table_checks : Tell table_rows
unfolding the_rules the_ferp_rules render class_of Tell
table_checks = refl
