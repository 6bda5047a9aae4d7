-- Lists of checks, of whatever kinds, run in the same six tables. Assumes nothing.
use Rattle.std.specs.Prelude.{◌≡◌, List, [], ◌∷◌, ℕ}
use Rattle.rules.specs.Limits.{Limits}
use Rattle.rules.specs.Verdict.{Checked, check, FeratNumber, Ranged}
use Rattle.rules.specs.Falsity.{FalseFile}
use Rattle.rules.specs.declared.Verdict.{Verdict}
use Rattle.rules.specs.declared.Verdict.TheVariants.{Accepted}
use Rattle.rules.specs.declared.Report.{Report}
use Rattle.ferp_rules.specs.Verdict.{ferp_check, FerpNumber}
use Rattle.tables.specs.Tables.{Tables, lengths_of, zeros}
use Rattle.tables.specs.Checked.{CheckedBy}

-- A CHECK of some kind, with its files: "lists mixing FERAT with this check and those added later" (#101)
pub data Job : Type 0 where
  ferat : (formula certificate : List ℕ) → Job
  ferp : (formula certificate : List ℕ) → Job

-- the rules of its kind on its files, the range of their verdicts, and the formula that an acceptance speaks of
abbrev pub rules_of : Job → Limits → Checked
rules_of (ferat f c) = λ l. check l f c
rules_of (ferp f c) = λ l. ferp_check l f c

abbrev pub range_of : Job → Verdict → Type 0
range_of (ferat f c) = Ranged FeratNumber f c
range_of (ferp f c) = Ranged FerpNumber f c

abbrev pub formula_of : Job → List ℕ
formula_of (ferat f c) = f
formula_of (ferp f c) = f

-- A LIST OF CHECKS run one after the other, by whatever code: each step is the promise of a check. "The first finds in them whatever they
-- held before, each later one what the check before it left." "A refused check hands the tables on as well."
pub data Runs : List Job → Tables → List Report → Tables → Type 0 where
  none : {t : Tables} → Runs [] t [] t
  more : {j : Job} {js : List Job} {t u w : Tables} {r : Report} {rs : List Report}
      → CheckedBy (rules_of j) (range_of j) t r u → Runs js u rs w → Runs (j ∷ js) t (r ∷ rs) w

-- DEMAND 3 of one check of a list that began in tables t
pub record Demanded (t : Tables) (j : Job) (r : Report) : Type 0 where
  -- "Every formula whose check in the list answered accepted is false when its quantifiers are read recursively"
  pub falsity : r.verdict ≡ Accepted → FalseFile (formula_of j)
  -- "each verdict in the list is, in all seven fields, the one that a single check of the same files gives in tables of the same sizes filled
  -- with zeros": any single check in such tables has this report
  pub single : (q : Report) (u : Tables) → Runs (j ∷ []) (zeros (lengths_of t)) (q ∷ []) u → r ≡ q
  -- and a single check in such tables with this report there is
  pub zeroed : (u : Tables) × Runs (j ∷ []) (zeros (lengths_of t)) (r ∷ []) u

-- of every check of a list and its report
pub data Each (P : Job → Report → Type 0) : List Job → List Report → Type 0 where
  end : Each P [] []
  and : {j : Job} {js : List Job} {r : Report} {rs : List Report} → P j r → Each P js rs → Each P (j ∷ js) (r ∷ rs)
