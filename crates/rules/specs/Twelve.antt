-- The twelve checks of the rules. Assumes nothing.
use Rattle.std.specs.Prelude.{◌≡◌, refl, List, [], ◌∷◌, map}
use Prim.Native.String.{String}
use Rattle.lines.specs.Bytes.{bytes, class_of}
use Rattle.rules.specs.Needs.{Places, places}
use Rattle.rules.specs.Limits.{limits}
use Rattle.rules.specs.Verdict.{verdict, the_rules}
use Rattle.rules.specs.Render.{render}

abbrev pub tables : Places
tables = places 16384 16384 16384 16384 16384 16384

-- a formula, a certificate and the verdict
abbrev pub Row : Type 0
Row = String × String × String

abbrev pub A : String
A = "p cnf 2 2\na 1 0\ne 2 0\n1 2 0\n1 -2 0\n"

abbrev pub B : String
B = "p cnf 0 0\n"

abbrev pub twelve : List Row
twelve =
    (A, "x 1 0 2 0 -1 0\no 1 2 0\ne 1 0\ne -1 0\n0\n", "accepted,0,0,0,2,1,0")
    ∷ (A, "x 1 0 2 0 1 0\no 1 2 0\ne 1 0\ne -1 0\n0\n", "refused,11,2,3,0,0,0")
    ∷ (A, "x 1 0 2 0 -1 0\ne 1 0\ne -1 0\n0\n", "accepted,0,0,0,2,1,0")
    ∷ (A, "", "refused,14,2,0,0,0,0")
    ∷ (A, "x 1 0 2 0 -1 0\no 1 2 0\ne 1 0\ne -1 0\n0\nd 0\n", "refused,14,2,0,2,1,1")
    ∷ (A, "x 1 0 2 0 -1 0\no 1 2 0\ne 1 0\ne -1 0\nd 1 1 0\n0\n", "refused,12,2,6,2,0,1")
    ∷ ("p cnf 0 1\n0\n", "e 0\n", "accepted,0,0,0,1,0,0")
    ∷ (B, "0\n", "refused,12,2,1,0,0,0")
    ∷ (B, "5 0\n6 -5 0\n", "refused,14,2,0,0,2,0")
    ∷ (B, "5 0\n-5 6 0\n", "refused,12,2,2,0,1,0")
    ∷ (B, "d 5 0\n", "refused,13,2,1,0,0,0")
    ∷ ("p cnf 2 2\na 1 0\ne 2 0\n1 2 0\n-1 -2 0\n", "x 1 0 2 0 0\ne 1 0\n", "refused,11,2,2,0,0,0")
    ∷ []

unfoldable pub Agree : List Row → Type 0
Agree rows =
    map (λ (r : Row). render (verdict (limits tables) (bytes r.0) (bytes r.1))) rows ≡ map (λ (r : Row). bytes r.2) rows

pub twelve_checks : Agree twelve
unfolding the_rules render class_of Agree
twelve_checks = refl
