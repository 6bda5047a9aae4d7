-- DEMAND 3: of every list of checks run in the same six tables, whatever these held before. Assumes nothing.
use mathlib.Core.Path.{◌≡◌, refl, ap, sym, ◌∙◌}
use mathlib.Core.List.{List, [], ◌∷◌, map}
use Rattle.rules.specs.Needs.{Places}
use Rattle.rules.specs.Limits.{Limits, limits}
use Rattle.rules.specs.Verdict.{verdict}
use Rattle.rules.specs.Falsity.{FalseFile}
use Rattle.rules.specs.declared.Verdict.TheVariants.{Accepted}
use Rattle.rules.specs.declared.Report.{Report}
use Rattle.rules.proofs.Theorem.{accepted_false}
use Rattle.ferp_rules.specs.Verdict.{ferp_verdict}
use Rattle.ferp_rules.proofs.Theorem.{ferp_accepted_false}
use Rattle.tables.specs.Tables.{Tables, lengths_of, zeros}
use Rattle.tables.specs.Checked.{CheckedBy}
use Rattle.tables.proofs.Frames.{same_lengths, all_self, zeros_lengths}
use Rattle.checks.specs.Runs.{Job, ferat, ferp, rules_of, range_of, formula_of, Runs, none, more, Demanded, Each, end, and}

-- what the rules of its kind say of a check in tables of these lengths
abbrev pub report_at : Places → Job → Report
report_at n j = (rules_of j (limits n)).report

-- acceptance by the rules of any kind implies falsity
sound : (j : Job) (l : Limits) → (rules_of j l).report.verdict ≡ Accepted → FalseFile (formula_of j)
unfolding verdict ferp_verdict
sound (ferat f c) l e = accepted_false l f c e
sound (ferp f c) l e = ferp_accepted_false l f c e

-- the report of a run of one check
single_report : {j : Job} {t u : Tables} {q : Report} → Runs (j ∷ []) t (q ∷ []) u → q ≡ report_at (lengths_of t) j
single_report (more c none) = c.report

-- a check in tables of the same lengths as s
demanded : (s t u : Tables) (j : Job) (r : Report) → lengths_of t ≡ lengths_of s → CheckedBy (rules_of j) (range_of j) t r u → Demanded s j r
demanded s t u j r e c =
    let z = zeros (lengths_of s) in
    let k : r ≡ report_at (lengths_of z) j = c.report ∙ ap (λ n. report_at n j) (e ∙ sym (zeros_lengths (lengths_of s))) in
    record {
      falsity = λ a. sound j (limits (lengths_of t)) (ap (λ (x : Report). x.verdict) (sym c.report) ∙ a);
      single = λ q w g. k ∙ sym (single_report g);
      zeroed = (z, more (record { report = k; kept = all_self _ z; ranged = c.ranged }) none);
    }

-- EVERY LIST: accepted and refused checks of all kinds in any order, of any length
pub demand_3 : {js : List Job} {t u : Tables} {rs : List Report} → Runs js t rs u → Each (Demanded t) js rs
demand_3 {t} r = go t refl r
  where
    go : {js : List Job} {v u : Tables} {rs : List Report} (s : Tables) → lengths_of v ≡ lengths_of s → Runs js v rs u → Each (Demanded s) js rs
    go s e none = end
    go {v} s e (more {j} {u} {r} c rest) = and (demanded s v u j r e c) (go s (same_lengths c.kept ∙ e) rest)

-- the reports of the whole list are the rules', at the lengths of the tables that were lent first
pub reports_are : {js : List Job} {t u : Tables} {rs : List Report} → Runs js t rs u → rs ≡ map (report_at (lengths_of t)) js
reports_are none = refl
reports_are {t} (more {j} {js} {r} {rs} c rest) =
    let e = c.report in
    let f : rs ≡ map (report_at (lengths_of t)) js = reports_are rest ∙ ap (λ n. map (report_at n) js) (same_lengths c.kept) in
    cc
