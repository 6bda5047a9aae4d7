-- More checks of the rules, over the same statement as the twelve, in the order of document 01. Assumes nothing.
use Rattle.std.specs.Prelude.{refl, List, [], ◌∷◌, ◌++◌}
use Prim.Native.String.{String}
use Rattle.lines.specs.Bytes.{class_of}
use Rattle.rules.specs.Verdict.{the_rules}
use Rattle.rules.specs.Render.{render}
use Rattle.rules.specs.Twelve.{Row, A, B, Agree}

-- the formula of check 7: an empty clause alone
abbrev pub F : String
F = "p cnf 0 1\n0\n"

-- LINES AND NUMBERS
abbrev pub line_rows : List Row
line_rows =
    -- "A line ends at byte 10 or at the end of the file. Blanks are space, tab and byte 13."
    ("\r\np\tcnf\r0  1\r\n\t 0", " e\t0 \r", "accepted,0,0,0,1,0,0")
    -- "A line of blanks only, or whose first non-blank byte is `c`, is skipped."
    ∷ (" c p\ncp cnf 1 1\n \t\np cnf 0 1\n\nc 0\n0\nc", "c e 0\n\ncnf\ne 0\n\tc", "accepted,0,0,0,1,0,0")
    ∷ (B, "5 c 0\n", "refused,2,2,1,0,0,0")
    ∷ (B, "5 0 c\n", "refused,2,2,1,0,0,0")
    -- "A line's number is the count of bytes 10 before it, plus 1."
    ∷ ("c\n\np cnf 0 0\n c\n1 0\n", "", "refused,3,1,5,0,0,0")
    ∷ (B, "\nc\n5 0\n\n0", "refused,12,2,5,0,1,0")
    -- "`-0`, `+3` and `07` are malformed."
    ∷ (B, "-0\n", "refused,2,2,1,0,0,0")
    ∷ (B, "-0 0\n", "refused,2,2,1,0,0,0")
    ∷ (B, "+3 0\n", "refused,2,2,1,0,0,0")
    ∷ (B, "07 0\n", "refused,2,2,1,0,0,0")
    ∷ (B, "-07 0\n", "refused,2,2,1,0,0,0")
    ∷ (B, "00\n", "refused,2,2,1,0,0,0")
    ∷ (B, "- 0\n", "refused,2,2,1,0,0,0")
    ∷ (B, "--5 0\n", "refused,2,2,1,0,0,0")
    ∷ (B, "5- 0\n", "refused,2,2,1,0,0,0")
    ∷ (B, "5x 0\n", "refused,2,2,1,0,0,0")
    ∷ ("p cnf 00 0\n", "", "refused,2,1,1,0,0,0")
    -- "with a minus before it only in a literal": none in V, in C, in a prefix line, in P, in E, in a hint
    ∷ ("p cnf -1 0\n", "", "refused,2,1,1,0,0,0")
    ∷ ("p cnf 0 -1\n", "", "refused,2,1,1,0,0,0")
    ∷ ("p cnf 1 0\na -1 0\n", "", "refused,2,1,2,0,0,0")
    ∷ ("p cnf 1 0\ne -1 0\n", "", "refused,2,1,2,0,0,0")
    ∷ (A, "x -1 0 2 0 0\n", "refused,2,2,1,0,0,0")
    ∷ (A, "x 1 0 -2 0 0\n", "refused,2,2,1,0,0,0")
    ∷ (A, "o -1 0\n", "refused,2,2,1,0,0,0")
    -- "The files write numbers in base ten", of any size
    ∷ ("p cnf 10 1\ne 10 0\n-10 0\n", "x 12 0 10 0 0\ne -12 0\n", "refused,14,2,0,1,0,0")
    ∷ ("p cnf 10 1\ne 11 0\n", "", "refused,3,1,2,0,0,0")
    ∷ (B, "-100000000000000000000 0\n", "refused,3,2,1,0,0,0")
    ∷ []

-- THE FORMULA'S LINES
abbrev pub formula_rows : List Row
formula_rows =
    -- "first `p cnf V C`": this word and no other, two numbers and nothing more
    ("p dnf 0 0\n", "", "refused,2,1,1,0,0,0")
    ∷ ("p cnfs 0 0\n", "", "refused,2,1,1,0,0,0")
    ∷ ("p cn 0 0\n", "", "refused,2,1,1,0,0,0")
    ∷ ("p 0 0 0\n", "", "refused,2,1,1,0,0,0")
    ∷ ("p 0 0\n", "", "refused,2,1,1,0,0,0")
    ∷ ("p cnf 0\n", "", "refused,2,1,1,0,0,0")
    ∷ ("p cnf 0 0 0\n", "", "refused,2,1,1,0,0,0")
    ∷ ("pcnf 0 0\n", "", "refused,2,1,1,0,0,0")
    ∷ ("P cnf 0 0\n", "", "refused,2,1,1,0,0,0")
    -- "no `p` line": none at all has line 0; another line before it; a second one
    ∷ ("", "", "refused,2,1,0,0,0,0")
    ∷ ("c\n\ncnf 0 0\n", "", "refused,2,1,0,0,0,0")
    ∷ ("c\n0\np cnf 0 1\n", "", "refused,2,1,2,0,0,0")
    ∷ ("e 1 0\np cnf 1 0\n", "", "refused,2,1,1,0,0,0")
    ∷ ("p cnf 0 0\np cnf 0 0\n", "", "refused,2,1,2,0,0,0")
    -- "`a` universal or `e` existential, one or more variables, `0`", and all of them before the clauses
    ∷ ("p cnf 1 0\na 0\n", "", "refused,2,1,2,0,0,0")
    ∷ ("p cnf 1 0\ne 1\n", "", "refused,2,1,2,0,0,0")
    ∷ ("p cnf 1 0\ne 1 0 0\n", "", "refused,2,1,2,0,0,0")
    ∷ ("p cnf 2 0\na 1 0 2 0\n", "", "refused,2,1,2,0,0,0")
    ∷ ("p cnf 1 0\ne x 0\n", "", "refused,2,1,2,0,0,0")
    ∷ ("p cnf 1 0\nb 1 0\n", "", "refused,2,1,2,0,0,0")
    ∷ ("p cnf 1 0\nee 1 0\n", "", "refused,2,1,2,0,0,0")
    ∷ ("p cnf 1 0\nd 1 0\n", "", "refused,2,1,2,0,0,0")
    ∷ ("p cnf 1 2\n0\ne 1 0\n0\n", "", "refused,2,1,3,0,0,0")
    -- "literals, perhaps none, `0`"
    ∷ ("p cnf 1 1\ne 1 0\n1\n", "", "refused,2,1,3,0,0,0")
    ∷ ("p cnf 1 1\ne 1 0\n1 0 1\n", "", "refused,2,1,3,0,0,0")
    ∷ ("p cnf 1 1\ne 1 0\n1 e 0\n", "", "refused,2,1,3,0,0,0")
    -- "Neighbouring prefix lines may have the same letter, and the last may be `a`"; V may be above all of them, and no line is due
    ∷ ("p cnf 9 0\ne 1 0\ne 4 0\na 3 0\na 2 0\n", "", "refused,14,2,0,0,0,0")
    ∷ ("p cnf 9 0\n", "", "refused,14,2,0,0,0,0")
    -- "All clauses are sets: a literal written twice counts once."
    ∷ ("p cnf 2 1\ne 1 2 0\n1 2 1 0\n", "x 1 2 0 1 2 0 0\ne 2 1 2 0\n", "refused,14,2,0,1,0,0")
    ∷ []

-- THE CERTIFICATE'S LINES
abbrev pub certificate_rows : List Row
certificate_rows =
    -- "mapping lines, at most one `o` line, `e` lines, then additions and deletions mixed"
    (A, "o 0\nx 1 0 2 0 0\n", "refused,2,2,2,0,0,0")
    ∷ (A, "o 0\no 0\n", "refused,2,2,2,0,0,0")
    ∷ (F, "e 0\no 0\n", "refused,2,2,2,1,0,0")
    ∷ (F, "e 0\nx 0 0 0\n", "refused,2,2,2,1,0,0")
    ∷ (F, "5 0\ne 0\n", "refused,2,2,2,0,1,0")
    ∷ (F, "5 0\no 0\n", "refused,2,2,2,0,1,0")
    ∷ (F, "5 0\nx 0 0 0\n", "refused,2,2,2,0,1,0")
    ∷ (F, "e 0\nd 0\ne 0\n", "refused,2,2,3,1,0,1")
    ∷ (F, "x 0 0 0\nx 0 0 0\no 1 1 0\ne 0\ne 0\nd 0\n5 0\nd 5 0\n6 0\n", "accepted,0,0,0,2,2,2")
    -- a zero at the end of each list, and nothing after the last
    ∷ (A, "x 1 0 2 0 -1\n", "refused,2,2,1,0,0,0")
    ∷ (A, "x 1 0 2 0\n", "refused,2,2,1,0,0,0")
    ∷ (A, "x 1 0 2 0 -1 0 0\n", "refused,2,2,1,0,0,0")
    ∷ (A, "o 1\n", "refused,2,2,1,0,0,0")
    ∷ (A, "o 1 0 2 0\n", "refused,2,2,1,0,0,0")
    ∷ (F, "e\n", "refused,2,2,1,0,0,0")
    ∷ (F, "e 0 0\n", "refused,2,2,1,0,0,0")
    ∷ (B, "5\n", "refused,2,2,1,0,0,0")
    ∷ (B, "5 0 6\n", "refused,2,2,1,0,0,0")
    ∷ (B, "5 0\nd 5\n", "refused,2,2,2,0,1,0")
    ∷ (B, "5 0\nd 5 0 5\n", "refused,2,2,2,0,1,0")
    -- no other letters
    ∷ (B, "a 1 0\n", "refused,2,2,1,0,0,0")
    ∷ (B, "p cnf 0 0\n", "refused,2,2,1,0,0,0")
    ∷ (B, "dd 0\n", "refused,2,2,1,0,0,0")
    ∷ (B, "5 d 0\n", "refused,2,2,1,0,0,0")
    ∷ []

-- LIMITS, with tables of 16,384
abbrev pub limit_rows : List Row
limit_rows =
    -- "Thus V = 4,096 passes and 4,097 is refused 3; copy 16,384 passes and 16,385 is refused 3"
    ("p cnf 4096 0\n", "", "refused,14,2,0,0,0,0")
    ∷ ("p cnf 4097 0\n", "", "refused,3,1,1,0,0,0")
    ∷ (B, "16384 0\n-16385 0\n", "refused,3,2,2,0,1,0")
    ∷ (A, "x 16384 0 2 0 -1 0\ne 16384 0\ne -16385 0\n", "refused,3,2,3,1,0,0")
    ∷ (A, "x 16385 0 2 0 0\n", "refused,3,2,1,0,0,0")
    ∷ (B, "d 16384 0\n", "refused,13,2,1,0,0,0")
    ∷ (B, "d 16385 0\n", "refused,3,2,1,0,0,0")
    -- "C 0 to 8,192": with too few clauses, then
    ∷ ("p cnf 0 8192\n", "", "refused,6,1,0,0,0,0")
    ∷ ("p cnf 0 8193\n", "", "refused,3,1,1,0,0,0")
    -- "a formula variable, E or L above V; a hint above C", and not above V
    ∷ ("p cnf 0 0\ne 1 0\n", "", "refused,3,1,2,0,0,0")
    ∷ ("p cnf 1 1\na 1 2 0\n", "", "refused,3,1,2,0,0,0")
    ∷ ("p cnf 1 1\n-2 0\n", "", "refused,3,1,2,0,0,0")
    ∷ (A, "x 1 0 3 0 0\n", "refused,3,2,1,0,0,0")
    ∷ (A, "x 1 0 2 0 -3 0\n", "refused,3,2,1,0,0,0")
    ∷ (A, "o 1 3 0\n", "refused,3,2,1,0,0,0")
    ∷ ("p cnf 1 0\n", "o 1 0\n", "refused,3,2,1,0,0,0")
    ∷ (F, "o 1 0\ne 0\n", "accepted,0,0,0,1,0,0")
    ∷ []

-- MAPPING AND EXPANSION
abbrev pub expansion_rows : List Row
expansion_rows =
    -- "Both lists of k are equally long; k and m may be 0."
    (A, "x 1 0 0 0\n", "refused,2,2,1,0,0,0")
    ∷ (A, "x 0 2 0 0\n", "refused,2,2,1,0,0,0")
    ∷ (A, "x 0 0 0\nx 0 0 -1 0\n", "refused,14,2,0,0,0,0")
    -- 7 mapped twice: in its own line, and before; and before 8
    ∷ (A, "x 1 1 0 1 1 0 0\n", "refused,7,2,1,0,0,0")
    ∷ (A, "x 1 0 2 0 0\nx 3 1 0 2 2 0 0\n", "refused,7,2,2,0,0,0")
    -- 8 bad annotation: E universal, E unbound; L existential, unbound, right of the E, right of one of two E, twice, in both signs
    ∷ (A, "x 1 2 0 2 1 0 0\n", "refused,8,2,1,0,0,0")
    ∷ ("p cnf 1 0\n", "x 1 0 1 0 0\n", "refused,8,2,1,0,0,0")
    ∷ ("p cnf 2 0\ne 1 2 0\n", "x 1 0 2 0 1 0\n", "refused,8,2,1,0,0,0")
    ∷ ("p cnf 2 0\ne 1 0\n", "x 1 0 1 0 2 0\n", "refused,8,2,1,0,0,0")
    ∷ ("p cnf 2 0\ne 1 0\na 2 0\n", "x 1 0 1 0 2 0\n", "refused,8,2,1,0,0,0")
    ∷ ("p cnf 3 0\ne 2 0\na 1 0\ne 3 0\n", "x 1 2 0 2 3 0 1 0\n", "refused,8,2,1,0,0,0")
    ∷ ("p cnf 3 0\ne 2 0\na 1 0\ne 3 0\n", "x 1 2 0 3 2 0 1 0\n", "refused,8,2,1,0,0,0")
    ∷ (A, "x 1 0 2 0 -1 -1 0\n", "refused,8,2,1,0,0,0")
    ∷ (A, "x 1 0 2 0 -1 1 0\n", "refused,8,2,1,0,0,0")
    -- the same of an L with no E: existential, unbound, twice
    ∷ (A, "x 0 0 2 0\n", "refused,8,2,1,0,0,0")
    ∷ ("p cnf 1 0\n", "x 0 0 1 0\n", "refused,8,2,1,0,0,0")
    ∷ (A, "x 0 0 1 1 0\n", "refused,8,2,1,0,0,0")
    -- "Two copies may stand for the same pair." "Two copies of one pair may both occur."
    ∷ ("p cnf 1 1\ne 1 0\n1 0\n", "x 1 2 0 1 1 0 0\ne 1 2 0\n", "refused,14,2,0,1,0,0")
    -- 9 unmapped, before 10 and 11
    ∷ (A, "x 1 0 2 0 -1 0\no 0\ne 1 7 0\n", "refused,9,2,3,0,0,0")
    -- "Every existential literal of clause n must occur and none besides.", with its sign
    ∷ ("p cnf 2 1\ne 1 2 0\n1 2 0\n", "x 1 2 0 1 2 0 0\ne 1 0\n", "refused,11,2,2,0,0,0")
    ∷ ("p cnf 2 1\ne 1 2 0\n1 0\n", "x 1 2 0 1 2 0 0\ne 1 2 0\n", "refused,11,2,2,0,0,0")
    ∷ ("p cnf 1 1\ne 1 0\n-1 0\n", "x 1 0 1 0 0\ne 1 0\n", "refused,11,2,2,0,0,0")
    ∷ ("p cnf 1 1\ne 1 0\n1 -1 0\n", "x 1 0 1 0 0\ne 1 -1 0\n", "refused,14,2,0,1,0,0")
    -- "never both signs of one variable": no t makes the clause's 1 and -1 false; nor has both annotations
    ∷ ("p cnf 1 1\na 1 0\n1 -1 0\n", "e 0\n", "refused,11,2,1,0,0,0")
    ∷ ("p cnf 3 1\na 1 0\ne 2 3 0\n2 3 0\n", "x 1 0 2 0 1 0\nx 2 0 3 0 -1 0\ne 1 2 0\n", "refused,11,2,3,0,0,0")
    -- "each copy's annotation equals the part of t over universals left of its existential": each its own part, no less, and also
    -- over a universal that is not in the clause; t may leave that out
    ∷ ("p cnf 4 1\na 1 0\ne 2 0\na 3 0\ne 4 0\n1 2 3 4 0\n", "x 1 0 2 0 -1 0\nx 2 0 4 0 -3 -1 0\ne 2 1 0\n", "refused,14,2,0,1,0,0")
    ∷ ("p cnf 4 1\na 1 0\ne 2 0\na 3 0\ne 4 0\n1 2 3 4 0\n", "x 1 0 2 0 -1 0\nx 2 0 4 0 -1 0\ne 2 1 0\n", "refused,11,2,3,0,0,0")
    ∷ ("p cnf 2 1\na 1 0\ne 2 0\n2 0\n", "x 1 0 2 0 1 0\ne 1 0\n", "refused,14,2,0,1,0,0")
    ∷ ("p cnf 2 1\na 1 0\ne 2 0\n2 0\n", "x 1 0 2 0 0\ne 1 0\n", "refused,14,2,0,1,0,0")
    -- the clause that `o` names, and no other; it may be named again
    ∷ (A, "x 1 0 2 0 -1 0\no 2 1 0\ne 1 0\n", "refused,11,2,3,0,0,0")
    ∷ (A, "x 1 0 2 0 -1 0\no 1 1 0\ne 1 0\ne 1 0\n", "refused,14,2,0,2,0,0")
    ∷ []

-- ADDITIONS AND DELETIONS
abbrev pub addition_rows : List Row
addition_rows =
    -- "Standing clauses are those of accepted `e` and addition lines", not those of the matrix
    ("p cnf 1 2\ne 1 0\n1 0\n-1 0\n", "0\n", "refused,12,2,1,0,0,0")
    -- four turns are needed, one clause is a unit that is written twice, and 4 is a universal right of all: refuses a single pass, a
    -- unit by literals as written, and an annotation over universals that stand right of the existential
    ∷ (
      "p cnf 4 4\ne 1 2 3 0\na 4 0\n-1 -2 -3 4 0\n-2 3 0\n-1 2 0\n1 1 0\n",
      "x 1 2 3 0 1 2 3 0 0\ne -1 -2 -3 0\ne -2 3 0\ne -1 2 0\ne 1 1 0\n0\n",
      "accepted,0,0,0,4,1,0",
    )
    -- eight turns are needed
    ∷ (
      B,
      "2 -1 0\n3 -2 0\n4 -3 0\n5 -4 0\n6 -5 0\n7 -6 0\n8 -7 0\n9 -8 0\n10 -9 0\n9 -1 0\n",
      "refused,14,2,0,0,10,0",
    )
    -- "Both signs true is a conflict too": the second addition joined with the first is RUP
    ∷ (B, "-5 -6 0\n5 6 0\n", "refused,14,2,0,0,2,0")
    -- of the candidates {-1, 2} and {-1, 3} only the first is RUP, then only the last: refuses values kept from one RAT candidate to
    -- the next, and a test of the first or of the last alone
    ∷ (
      "p cnf 4 4\ne 1 2 3 4 0\n-1 2 0\n-1 3 0\n2 4 0\n2 -4 0\n",
      "x 1 2 3 4 0 1 2 3 4 0 0\ne -1 2 0\ne -1 3 0\ne 2 4 0\ne 2 -4 0\n1 0\n",
      "refused,12,2,6,4,0,0",
    )
    ∷ (
      "p cnf 4 4\ne 1 2 3 4 0\n-1 2 0\n-1 3 0\n2 4 0\n2 -4 0\n",
      "x 1 2 3 4 0 1 2 3 4 0 0\ne -1 3 0\ne -1 2 0\ne 2 4 0\ne 2 -4 0\n1 0\n",
      "refused,12,2,6,4,0,0",
    )
    -- a tautology is RUP. While it stands, "every standing clause D holding the negation of l" has it for both of its literals, and the
    -- addition joined with it less that negation is {5}, or {-5}
    ∷ (B, "5 -5 0\n5 0\n", "refused,12,2,2,0,1,0")
    ∷ (B, "5 -5 0\n-5 0\n", "refused,12,2,2,0,1,0")
    ∷ (B, "5 -5 0\nd -5 5 0\n5 0\n", "refused,14,2,0,0,2,1")
    -- a deletion takes one of two equal clauses and leaves the other to the next; {5}, {-5, 6} and {5, 6, 7} are not the same set as
    -- {5, 6}: refuses "takes every equal clause", and "matches a subset", both ways
    ∷ (B, "5 0\n5 0\nd 5 0\nd 5 0\n5 0\n6 -5 0\n5 6 7 0\nd 5 6 0\n", "refused,13,2,8,0,5,2")
    ∷ (B, "5 6 0\nd 6 5 6 0\nd 5 6 0\n", "refused,13,2,3,0,1,1")
    -- "Unit clauses are removed as well." (check 6 writes the unit's literal twice)
    ∷ (A, "x 1 0 2 0 -1 0\no 1 2 0\ne 1 0\ne -1 0\nd 1 0\n0\n", "refused,12,2,6,2,0,1")
    ∷ []

-- THE ORDER OF NUMBERS, AND LINES
abbrev pub order_rows : List Row
order_rows =
    -- "formula lines, certificate lines"
    ("p cnf 0 0\n1 0\n", "x\n", "refused,3,1,2,0,0,0")
    ∷ ("p cnf 0 1\n", "x\n", "refused,6,1,0,0,0,0")
    -- "Within a line: 2, 3, 15, then by rising number" (15: see TableRows). 2 before 3
    ∷ ("p cnf 4097 0 0\n", "", "refused,2,1,1,0,0,0")
    ∷ ("p cnf 1 1\n0\ne 2 0\n", "", "refused,2,1,3,0,0,0")
    ∷ ("p cnf 1 1\n2 07 0\n", "", "refused,2,1,2,0,0,0")
    ∷ (A, "x 16385 0 0 0\n", "refused,2,2,1,0,0,0")
    ∷ (F, "5 0\ne 16385 0\n", "refused,2,2,2,0,1,0")
    ∷ (F, "e 0\no 2 0\n", "refused,2,2,2,1,0,0")
    -- 3 before 4, 5, 6, 7, 8, 9, 10, 13
    ∷ ("p cnf 1 0\ne 1 1 2 0\n", "", "refused,3,1,2,0,0,0")
    ∷ ("p cnf 1 0\n1 2 0\n", "", "refused,3,1,2,0,0,0")
    ∷ (A, "x 1 1 0 1 3 0 0\n", "refused,3,2,1,0,0,0")
    ∷ (A, "x 1 0 1 0 3 0\n", "refused,3,2,1,0,0,0")
    ∷ (A, "o 0\ne 7 16385 0\n", "refused,3,2,2,0,0,0")
    ∷ (A, "o 1 0\n16385 0\n", "refused,3,2,2,0,0,0")
    ∷ (A, "o 1 0\nd 16385 0\n", "refused,3,2,2,0,0,0")
    -- 4 bound twice: in its own line, before, and by the other letter; 5 unbound, before 6
    ∷ ("p cnf 1 0\ne 1 1 0\n", "", "refused,4,1,2,0,0,0")
    ∷ ("p cnf 1 0\na 1 0\na 1 0\n", "", "refused,4,1,3,0,0,0")
    ∷ ("p cnf 1 0\na 1 0\ne 1 0\n", "", "refused,4,1,3,0,0,0")
    ∷ ("p cnf 2 1\ne 1 0\n1 -2 0\n", "", "refused,5,1,3,0,0,0")
    ∷ ("p cnf 1 0\n1 0\n", "", "refused,5,1,2,0,0,0")
    -- "Too many clauses: the first extra line."
    ∷ ("p cnf 0 0\n0\n", "", "refused,6,1,2,0,0,0")
    ∷ ("p cnf 0 1\n0\nc\n0\n0\n", "", "refused,6,1,4,0,0,0")
    ∷ ("p cnf 0 2\n0\n", "", "refused,6,1,0,0,0,0")
    -- "A missing hint: that `e` line", before 11; `o` with no hint is an `o` line
    ∷ (A, "x 1 0 2 0 -1 0\no 1 0\ne 1 0\ne -1 0\n0\n", "refused,10,2,4,1,0,0")
    ∷ (A, "x 1 0 2 0 -1 0\no 0\ne 1 0\n", "refused,10,2,3,0,0,0")
    ∷ (A, "x 1 0 2 0 -1 0\no 0\ne 1 -1 0\n", "refused,10,2,3,0,0,0")
    ∷ (A, "o 0\n", "refused,14,2,0,0,0,0")
    -- "Hints left over: the first line after the `e` lines that isn't skipped", before 12 and 13
    ∷ (A, "x 1 0 2 0 -1 0\no 1 2 0\ne 1 0\nc\n\n0\n", "refused,10,2,6,1,0,0")
    ∷ (A, "x 1 0 2 0 -1 0\no 1 2 0\ne 1 0\nc\n1 0\n", "refused,10,2,5,1,0,0")
    ∷ (A, "x 1 0 2 0 -1 0\no 1 2 0\ne 1 0\nd 1 0\n", "refused,10,2,4,1,0,0")
    ∷ (A, "o 1 0\nd 5 0\n", "refused,10,2,2,0,0,0")
    ∷ (A, "o 1 0\no 1 0\n", "refused,2,2,2,0,0,0")
    -- "at a file's end, by rising number too", with line 0
    ∷ (A, "x 1 0 2 0 -1 0\no 1 2 0\ne 1 0\n", "refused,10,2,0,1,0,0")
    ∷ (F, "o 1 1 0\ne 0\n", "refused,10,2,0,1,0,0")
    ∷ []

abbrev pub rows : List Row
rows = line_rows ++ formula_rows ++ certificate_rows ++ limit_rows ++ expansion_rows ++ addition_rows ++ order_rows

pub more_checks : Agree rows
unfolding the_rules render class_of Agree
more_checks = refl
