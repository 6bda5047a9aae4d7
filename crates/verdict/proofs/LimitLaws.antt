-- Laws of the program's limits. Assumes nothing.
use mathlib.Core.Path.{◌≡◌, refl, ap, sym, ◌∙◌, subst}
use mathlib.Core.Bool.{Bool, true, false, cond}
use mathlib.Core.List.{List}
use Prim.Native.Nat.{ℕ, min, ◌≤◌, ◌<◌}
use native.Mathlib.Omega.{arith}
use lib.Dec.{leb}
use lib.ListN.{length, take, length-take}
use lib.Seq.{take_all}
use borrow.Author.Tests.{le-leb, lt-leb, leb-true, leb-false}
use Rattle.rules.specs.Formula.{Formula}
use Rattle.rules.specs.Needs.{Places, places}
use Rattle.rules.specs.Limits.{limits_with, limits, program_limits}
use Rattle.rules.specs.FormulaLines.{read_formula}
use Rattle.rules.specs.CertificateLines.{read_certificate}
use Rattle.rules.specs.Rule.{of_file}
use Rattle.rules.specs.declared.Rule.TheVariants.{Overlong}
use Rattle.rules.specs.Verdict.{Checked, early, of_certificate, of_formula, check, verdict, the_rules, FeratNumber, Ranged}
use Rattle.rules.specs.declared.Verdict.TheVariants.{Refused}
use Rattle.rules.specs.declared.Report.{Report}
use Rattle.rules.proofs.Ranges.{check_ranged}
use Rattle.rules.proofs.Theorem.{accepted_false}
use Rattle.tables.specs.Tables.{Tables, lengths_of, KeptAll}
use Rattle.reading.specs.Ends.{refused_early}
use Rattle.ferat.specs.Check.{CheckedIn}
use Rattle.tables.proofs.Frames.{all_self}
use Rattle.report.specs.Fields.{Rendered}
use Rattle.verdict.specs.Program.{ReportedIn, Loaded, Printed}
use Rattle.verdict.specs.declared.Contents.{Contents}

-- THE LINES OF A FILE are judged alike whatever bytes a file may have
module _ (f c g d : ℕ) (l : Places) where
  formula_alike : (bs : List ℕ) → read_formula (limits_with f c l) bs ≡ read_formula (limits_with g d l) bs
  unfolding the_rules
  formula_alike bs = refl

  certificate_alike : (x : Formula) (bs : List ℕ) → read_certificate (limits_with f c l) x bs ≡ read_certificate (limits_with g d l) x bs
  unfolding the_rules
  certificate_alike x bs = refl

module _ (bs cs : List ℕ) where
  -- the lines of both files, and the two tests before them
  abbrev inner : ℕ → ℕ → Places → Checked
  inner f c l = of_formula (read_formula (limits_with f c l) bs) (λ x. of_certificate (read_certificate (limits_with f c l) x cs))

  abbrev outer : Bool → Bool → Checked → Checked
  outer a b k = cond a (cond b k (early (Refused 1 2 0) (places 0 0 0 0 0 0))) (early (Refused 1 1 0) (places 0 0 0 0 0 0))

  inner_alike : (f c g d : ℕ) (l : Places) → inner f c l ≡ inner g d l
  inner_alike f c g d l i = of_formula (formula_alike f c g d l bs i) (λ x. of_certificate (certificate_alike f c g d l x cs i))

  -- a check by its two tests
  tested : (f c : ℕ) (l : Places) (a b : Bool) → leb (length bs) f ≡ a → leb (length cs) c ≡ b → check (limits_with f c l) bs cs ≡ outer a b (inner f c l)
  unfolding check
  tested f c l a b p q i = outer (p i) (q i) (inner f c l)

  -- within the smaller limits both give the same
  within : length bs ≤ 16384 → length cs ≤ 65536 → (l : Places) → check (limits l) bs cs ≡ check (program_limits l) bs cs
  within p q l =
      tested 1048576 1048576 l true true (le-leb (length bs) 1048576 (omega (arith, p))) (le-leb (length cs) 1048576 (omega (arith, q)))
      ∙ inner_alike 1048576 1048576 16384 65536 l
      ∙ sym (tested 16384 65536 l true true (le-leb (length bs) 16384 p) (le-leb (length cs) 65536 q))

  module _ (t : Tables) where
    told : (r : Report) (u : Tables) (k : Checked) → k ≡ check (program_limits (lengths_of t)) bs cs → r ≡ k.report → KeptAll k.needs t u → ReportedIn bs cs t r u
    unfolding verdict
    told r u k e h s =
        let v : r ≡ verdict (program_limits (lengths_of t)) bs cs = h ∙ ap (λ z. z.report) e in
        record {
          report = v;
          kept = subst (λ z. KeptAll z.needs t u) e s;
          ranged = subst (λ (z : Report). Ranged FeratNumber bs cs z.verdict) (sym v) (check_ranged (program_limits (lengths_of t)) bs cs);
          falsity = λ a. accepted_false (program_limits (lengths_of t)) bs cs (ap (λ (z : Report). z.verdict) (sym v) ∙ a);
        }

    -- "1 overlong", of the formula and of the certificate
    pub overlong_formula : 16384 < length bs → (r : Report) → r ≡ refused_early (of_file Overlong) 1 → ReportedIn bs cs t r t
    overlong_formula h r e =
        told r t _ (sym (tested 16384 65536 (lengths_of t) false (leb (length cs) 65536) (lt-leb (length bs) 16384 h) refl)) e (all_self _ t)

    module _ (p : length bs ≤ 16384) where
      pub overlong_certificate : 65536 < length cs → (r : Report) → r ≡ refused_early (of_file Overlong) 2 → ReportedIn bs cs t r t
      overlong_certificate h r e =
          told r t _ (sym (tested 16384 65536 (lengths_of t) true false (le-leb (length bs) 16384 p) (lt-leb (length cs) 65536 h))) e (all_self _ t)

      -- the check of the library, of files that the program holds
      pub held : length cs ≤ 65536 → (r : Report) (u : Tables) → CheckedIn bs cs t r u → ReportedIn bs cs t r u
      unfolding verdict
      held q r u h = told r u (check (limits (lengths_of t)) bs cs) (within p q (lengths_of t)) h.report h.kept

-- WHAT IS LOADED begins as the file does
begins : (buffer : List ℕ) (count : ℕ) (file : List ℕ) → Loaded buffer count file → take (length buffer) (take count buffer) ≡ take (length buffer) file
begins buffer count file h = take_all (length buffer) (take count buffer) (omega (arith, length-take count buffer)) ∙ h

-- every buffer and count are those of some file
pub loaded_itself : (buffer : List ℕ) (count : ℕ) → Loaded buffer count (take count buffer)
loaded_itself buffer count = sym (take_all (length buffer) (take count buffer) (omega (arith, length-take count buffer)))

-- TWO FILES THAT BEGIN WITH THE SAME k BYTES, more than n, are both longer than n, or the same
module _ (n k : ℕ) (room : n < k) (bs ds : List ℕ) (h : take k bs ≡ take k ds) where
  lengths_alike : min k (length bs) ≡ min k (length ds)
  lengths_alike = sym (length-take k bs) ∙ ap length h ∙ length-take k ds

  both_longer : n < length bs → leb (length ds) n ≡ false
  both_longer g = lt-leb (length ds) n (omega (arith, lengths_alike))

  same : length bs ≤ n → bs ≡ ds
  same g = sym (take_all k bs (omega arith)) ∙ h ∙ take_all k ds (omega (arith, lengths_alike))

-- THE PROGRAM'S CHECK sees no byte after the first that is too many
begin_alike : (l : Places) {n m : ℕ} → 16384 < n → 65536 < m → (bs cs ds es : List ℕ) → take n bs ≡ take n ds → take m cs ≡ take m es
    → check (program_limits l) bs cs ≡ check (program_limits l) ds es
begin_alike l {n} {m} f c bs cs ds es h k = go (leb (length bs) 16384) (leb (length cs) 65536) refl refl
  where
    formula_same : leb (length bs) 16384 ≡ true → bs ≡ ds
    formula_same p = same 16384 n f bs ds h (leb-true (length bs) 16384 p)

    go : (a b : Bool) → leb (length bs) 16384 ≡ a → leb (length cs) 65536 ≡ b → check (program_limits l) bs cs ≡ check (program_limits l) ds es
    go true true p q = λ i. check (program_limits l) (formula_same p i) (same 65536 m c cs es k (leb-true (length cs) 65536 q) i)
    go true false p q =
        tested bs cs 16384 65536 l true false p q
        ∙ sym (tested ds es 16384 65536 l true false (ap (λ x. leb (length x) 16384) (sym (formula_same p)) ∙ p)
        (both_longer 65536 m c cs es k (leb-false (length cs) 65536 q)))
    go false b p q =
        tested bs cs 16384 65536 l false b p q
        ∙ sym (tested ds es 16384 65536 l false (leb (length es) 65536) (both_longer 16384 n f bs ds h (leb-false (length bs) 16384 p)) refl)

-- the report on what is loaded is the report on the files
reported : (formula certificate : List ℕ) (f c : ℕ) (t : Tables) (r : Report) (u : Tables) → 16384 < length formula → 65536 < length certificate
    → ReportedIn (take f formula) (take c certificate) t r u → (x y : List ℕ) → Loaded formula f x → Loaded certificate c y → ReportedIn x y t r u
unfolding verdict
reported formula certificate f c t r u a b h x y p q =
    told x y t r u (check (program_limits (lengths_of t)) (take f formula) (take c certificate))
    (begin_alike (lengths_of t) a b (take f formula) (take c certificate) x y (begins formula f x p) (begins certificate c y q)) h.report h.kept

-- THE LINE TO PRINT, from the report on what is loaded
pub printed : {n m : ℕ} (formula : Contents n) (certificate : Contents m) (t : Tables) (r : Report) (u : Tables) {out exit bs cs : List ℕ} {k : ℕ}
    → 16384 < length formula.bytes → 65536 < length certificate.bytes → lengths_of t ≡ places 16384 16384 16384 16384 16384 16384
    → bs ≡ take formula.count formula.bytes → cs ≡ take certificate.count certificate.bytes → ReportedIn bs cs t r u → Rendered r out exit k
    → Printed formula certificate t out u exit k
printed formula certificate t r u a b l d e h w = record {
  report = r;
  reported = reported formula.bytes certificate.bytes formula.count certificate.count t r u a b (rw (d, e) at h);
  rendered = w;
  lengths = l;
}
