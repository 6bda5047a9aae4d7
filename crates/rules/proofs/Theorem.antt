-- THE THEOREM: an accepted certificate makes its formula false, whatever the limits and the table lengths; and so for every list of
-- checks.
use mathlib.Core.Path.{◌≡◌, refl}
use mathlib.Core.Bool.{Bool, true, false, cond}
use mathlib.Core.List.{List, [], ◌∷◌}
use mathlib.Core.Option.{Option, none, some}
use Prim.Native.Nat.{ℕ}
use native.Mathlib.Omega.{arith}
use lib.ListN.{length}
use Rattle.rules.specs.Formula.{Formula}
use Rattle.rules.specs.Needs.{Places, places}
use Rattle.rules.specs.Limits.{Limits, allows}
use Rattle.rules.specs.Step.{Read, ended, refused_at}
use Rattle.rules.specs.FormulaLines.{read_formula}
use Rattle.rules.specs.CertificateLines.{State, read_certificate}
use Rattle.rules.specs.Falsity.{FalseFile, is_false}
use Rattle.rules.specs.Verdict.{Checked, early, of_certificate, of_formula, both_files, check, verdict}
use Rattle.rules.specs.declared.Verdict.TheVariants.{Accepted, Refused}
use Rattle.rules.proofs.Kit.{by_no}
use Rattle.rules.proofs.FalsityLaw.{decides}
use Rattle.rules.proofs.Strategy.{Strategy}
use Rattle.rules.proofs.Play.{strategy}
use Rattle.rules.proofs.Reading.{Formed, read_formed, read_same}
use Rattle.rules.proofs.Sound.{certificate_sound}

pub refused_not : (number file line : ℕ) → Refused number file line ≡ Accepted → ⊥
refused_not number file line h = let z : ◌≡◌ {A = ℕ} 0 1 = cc in omega arith

certificate_ended : (r : Read State) → (of_certificate r).report.verdict ≡ Accepted → (s : State) × (r ≡ ended s)
certificate_ended (ended s) h = (s, refl)
certificate_ended (refused_at n line s) h = absurd (refused_not n 2 line h)

-- a formula that was read, and whose certificate was accepted
abbrev Passed : Read (Option Formula) → (Formula → Checked) → Type 0
Passed r k = (f : Formula) × (r ≡ ended (some f)) × ((k f).report.verdict ≡ Accepted)

formula_ended : (r : Read (Option Formula)) (k : Formula → Checked) → (of_formula r k).report.verdict ≡ Accepted → Passed r k
formula_ended (ended none) k h = absurd (refused_not 2 1 0 h)
formula_ended (ended (some f)) k h = (f, refl, h)
formula_ended (refused_at n line s) k h = absurd (refused_not n 1 line h)

-- neither file is overlong
not_overlong : (a b : Bool) (n : Places) (c : Checked)
    → (cond a (cond b c (early (Refused 1 2 0) n)) (early (Refused 1 1 0) n)).report.verdict ≡ Accepted → c.report.verdict ≡ Accepted
not_overlong true true n c h = h
not_overlong true false n c h = absurd (refused_not 1 2 0 h)
not_overlong false b n c h = absurd (refused_not 1 1 0 h)

-- a check of both files that answered accepted, whatever its kind: if acceptance of the certificate's lines makes the formula false, the file's
-- formula is false
pub both_false : (limits : Limits) (formula certificate : List ℕ) (k : Formula → Checked)
    → ((f : Formula) → Formed f → (k f).report.verdict ≡ Accepted → (is_false f ≡ false → Strategy f) → is_false f ≡ true)
    → (both_files limits formula certificate k).report.verdict ≡ Accepted → FalseFile formula
unfolding FalseFile
both_false limits formula certificate k lines h = (f, read_same limits formula f r, (decides f).0 false_f)
  where
    p : Passed (read_formula limits formula) k
    p = formula_ended (read_formula limits formula) k
        (not_overlong (allows limits.formula_bytes (length formula)) (allows limits.certificate_bytes (length certificate))
        (places 0 0 0 0 0 0) (of_formula (read_formula limits formula) k) h)

    f : Formula
    f = p.0

    r : read_formula limits formula ≡ ended (some f)
    r = p.1

    formed : Formed f
    formed = read_formed limits formula f r

    false_f : is_false f ≡ true
    false_f = lines f formed p.2 (strategy f formed.once)

pub accepted_false : (limits : Limits) (formula certificate : List ℕ) → (verdict limits formula certificate).verdict ≡ Accepted
    → FalseFile formula
unfolding verdict check
accepted_false limits formula certificate h =
    both_false limits formula certificate (λ f. of_certificate (read_certificate limits f certificate))
    (λ f formed accepted play.
    let c = certificate_ended (read_certificate limits f certificate) accepted in
    by_no (is_false f) λ e. certificate_sound limits f formed (play e) certificate c.0 c.1)
    h

-- a check: its limits and table lengths, its formula and its certificate
pub record Check : Type 0 where
  pub limits : Limits
  pub formula : List ℕ
  pub certificate : List ℕ

-- each element of the list
abbrev pub Every : {A : Type 0} → (A → Type 0) → List A → Type 0
Every P [] = Unit {0}
Every P (x ∷ xs) = P x × Every P xs

-- one statement about a whole list of checks
pub all_false_lem : (checks : List Check)
    → Every (λ c. (verdict c.limits c.formula c.certificate).verdict ≡ Accepted → FalseFile c.formula) checks
all_false_lem [] = tt
all_false_lem (c ∷ checks) = (accepted_false c.limits c.formula c.certificate, all_false_lem checks)
