-- A list of checks packed in one slice of bytes, two ends and a kind for each check. Assumes nothing.
use Rattle.std.specs.Prelude.{◌≡◌, cond, List, [], ◌∷◌, ◌++◌, map, ℕ, ◌+◌, ◌-◌, min, max, eqb, length, take, drop, get_or, replicate}
use Rattle.std.proofs.Math.Option.{Option, none, some}
use Rattle.rules.specs.declared.Report.{Report}
use Rattle.report.specs.Fields.{seven_of}
use Rattle.tables.specs.Tables.{Tables}
use Rattle.checks.specs.Runs.{Job, ferat, ferp, Runs, Demanded, Each}

-- an end below the one before it counts as that one, an end above the bytes' length as that length
abbrev pub clamped : ℕ → ℕ → ℕ → ℕ
clamped low high end = max low (min end high)

-- the bytes from one place up to another
unfoldable pub part : ℕ → ℕ → List ℕ → List ℕ
part from to bytes = take (to - from) (drop from bytes)

-- THE KIND OF A CHECK by its number: 1 is FERAT, 2 is FERP; any other number names none
unfoldable pub job_of : ℕ → List ℕ → List ℕ → Option Job
job_of k f c = cond (eqb k 1) (some (ferat f c)) (cond (eqb k 2) (some (ferp f c)) none)

-- of the two files that stand from `from` to `middle` and from there to `to`
abbrev pub job_in : List ℕ → ℕ → ℕ → ℕ → ℕ → Option Job
job_in bytes from middle to kind = job_of kind (part from middle bytes) (part middle to bytes)

-- the checks from a place of the bytes and from kind k on: the end of a formula, the end of its certificate, ..; an odd last end is left
-- alone; a missing kind is 0, which names none
unfoldable pub asked_from : List ℕ → List ℕ → ℕ → ℕ → List ℕ → List (Option Job)
asked_from bytes kinds k from [] = []
asked_from bytes kinds k from (a ∷ []) = []
asked_from bytes kinds k from (a ∷ b ∷ ends) =
    job_in bytes from (clamped from (length bytes) a) (clamped (clamped from (length bytes) a) (length bytes) b) (get_or kinds k 0)
    ∷ asked_from bytes kinds (k + 1) (clamped (clamped from (length bytes) a) (length bytes) b) ends

abbrev pub asked : List ℕ → List ℕ → List ℕ → List (Option Job)
asked bytes ends kinds = asked_from bytes kinds 0 0 ends

-- WHAT BECAME OF A CHECK: it was run, with its report; or passed over, since no kind was named
pub data Entry : Type 0 where
  ran : Job → Report → Entry
  passed : Entry

abbrev pub asked_by : Entry → Option Job
asked_by (ran j r) = some j
asked_by passed = none

-- of a list: the checks that were run, and their reports
abbrev pub jobs_in : List Entry → List Job
jobs_in [] = []
jobs_in (ran j r ∷ es) = j ∷ jobs_in es
jobs_in (passed ∷ es) = jobs_in es

abbrev pub reports_in : List Entry → List Report
reports_in [] = []
reports_in (ran j r ∷ es) = r ∷ reports_in es
reports_in (passed ∷ es) = reports_in es

-- seven numbers for each: those of its report, or zeros, which no report has, since the word is never 0
abbrev pub seven_in : Entry → List ℕ
seven_in (ran j r) = seven_of r
seven_in passed = replicate 7 0

unfoldable pub numbers_in : List Entry → List ℕ
numbers_in [] = []
numbers_in (e ∷ es) = seven_in e ++ numbers_in es

-- a slice whose first places take these numbers as far as it goes; its other places hold what they held
unfoldable pub over : List ℕ → List ℕ → List ℕ
over out [] = out
over [] (n ∷ ns) = []
over (o ∷ out) (n ∷ ns) = n ∷ over out ns

-- THE PROMISE OF A LIST OF CHECKS, t being the tables before and u after, `out` and `exit` the results' slice: each check of the list that
-- names a kind is run in the tables that the one before it left, and its report is written; one that names none is passed over, and zeros
-- are written; demand 3 holds of each that was run
pub record CheckedAll (bytes ends kinds : List ℕ) (t : Tables) (out : List ℕ) (u : Tables) (exit : List ℕ) : Type 0 where
  pub entries : List Entry
  pub checks : map asked_by entries ≡ asked bytes ends kinds
  pub runs : Runs (jobs_in entries) t (reports_in entries) u
  pub written : exit ≡ over out (numbers_in entries)
  pub demanded : Each (Demanded t) (jobs_in entries) (reports_in entries)
