-- Laws of a list of checks. Assumes nothing.
use mathlib.Core.Path.{◌≡◌, refl, ap, ap₂, sym, ◌∙◌, subst}
use mathlib.Core.Bool.{cond}
use mathlib.Core.List.{List, [], ◌∷◌, ◌++◌, map, append_assoc, append-nil}
use mathlib.Core.Option.{none as nothing, some}
use Rattle.std.specs.Prelude.{Option, Some, None, MatchOption, replicate}
use Prim.Native.Nat.{ℕ, suc, ◌+◌, ◌*◌, ◌-◌, ◌<◌, ◌≤◌}
use native.Mathlib.Omega.{arith}
use native.Mathlib.Numerals.{add-one}
use lib.Dec.{eqb}
use borrow.Author.Tests.{eq-eqb, ne_eqb}
use lib.ListN.{length, take, drop, get_or, set, length-append, length-set, drop_of_length-le}
use lib.Seq.{sets, drop-cons}
use Rattle.rules.specs.declared.Report.{Report}
use Rattle.report.specs.Fields.{seven_of}
use Rattle.tables.specs.Tables.{Tables, lengths_of}
use Rattle.tables.proofs.Frames.{same_lengths}
use Rattle.tables.specs.Checked.{CheckedBy}
use Rattle.checks.specs.Runs.{Job, ferat, ferp, rules_of, range_of, Runs, none, more}
use Rattle.checks.specs.All.{clamped, part, job_of, job_in, asked_from, asked, Entry, ran, passed, asked_by, jobs_in, reports_in, seven_in, numbers_in, over, CheckedAll}
use Rattle.checks.specs.One.{RanAs, Leaves, One}
use Rattle.checks.proofs.Runs.{demand_3}

-- a run leaves the lengths of the tables
runs_lengths : {js : List Job} {t u : Tables} {rs : List Report} → Runs js t rs u → lengths_of u ≡ lengths_of t
runs_lengths none = refl
runs_lengths (more c r) = runs_lengths r ∙ same_lengths c.kept

-- the entries of two lists, one after the other
numbers_then : (es fs : List Entry) → numbers_in (es ++ fs) ≡ numbers_in es ++ numbers_in fs
unfolding numbers_in
numbers_then [] fs = refl
numbers_then (e ∷ es) fs = ap (λ l. seven_in e ++ l) (numbers_then es fs) ∙ sym (append_assoc (seven_in e) (numbers_in es) (numbers_in fs))

asked_then : (es fs : List Entry) → map asked_by (es ++ fs) ≡ map asked_by es ++ map asked_by fs
asked_then [] fs = refl
asked_then (e ∷ es) fs = ap (λ l. asked_by e ∷ l) (asked_then es fs)

entries_run : (es fs : List Entry) {t u w : Tables} → Runs (jobs_in es) t (reports_in es) u → Runs (jobs_in fs) u (reports_in fs) w
    → Runs (jobs_in (es ++ fs)) t (reports_in (es ++ fs)) w
entries_run [] fs none s = s
entries_run (ran j r ∷ es) fs (more c rest) s = more c (entries_run es fs rest s)
entries_run (passed ∷ es) fs r s = entries_run es fs r s

seven_numbers : (e : Entry) → length (seven_in e) ≡ 7
unfolding seven_of
seven_numbers (ran j r) = refl
seven_numbers passed = refl

over_length : (o ns : List ℕ) → length (over o ns) ≡ length o
unfolding over
over_length o [] = refl
over_length [] (n ∷ ns) = refl
over_length (o ∷ os) (n ∷ ns) = ap suc (over_length os ns)

-- one number more
over_next : (o ns : List ℕ) (n : ℕ) → set (over o ns) (length ns) n ≡ over o (ns ++ (n ∷ []))
unfolding over
over_next [] [] n = refl
over_next (o ∷ os) [] n = refl
over_next [] (m ∷ ms) n = refl
over_next (o ∷ os) (m ∷ ms) n = ap (λ l. m ∷ l) (over_next os ms n)

-- some numbers more
over_then : (o ns ms : List ℕ) → sets (over o ns) (length ns) ms ≡ over o (ns ++ ms)
over_then o ns [] = ap (over o) (sym (append-nil ns))
over_then o ns (m ∷ ms) =
    let k : suc (length ns) ≡ length (ns ++ (m ∷ [])) = omega (arith, length-append ns (m ∷ [])) in
    ap (λ l. sets l (suc (length ns)) ms) (over_next o ns m) ∙ ap (λ n. sets (over o (ns ++ (m ∷ []))) n ms) k
    ∙ over_then o (ns ++ (m ∷ [])) ms ∙ ap (over o) (append_assoc ns (m ∷ []) ms)

-- i of the numbers are written: the rest of them, written too, makes the whole
pub record Partly (out : List ℕ) (at : ℕ) (ns now : List ℕ) (i : ℕ) : Type 0 where
  pub within : i ≤ length ns
  pub same : length now ≡ length out
  pub whole : sets now (at + i) (drop i ns) ≡ sets out at ns

pub partly_start : (out : List ℕ) (at : ℕ) (ns : List ℕ) → Partly out at ns out 0
partly_start out at ns =
    let e : at + 0 ≡ at = omega arith in
    record { within = omega arith; same = refl; whole = ap (λ k. sets out k ns) e }

pub partly_next : {out ns now next : List ℕ} {at i : ℕ} → i < length ns → next ≡ set now (at + i) (get_or ns i 0) → Partly out at ns now i
    → Partly out at ns next (i + 1)
partly_next {ns = ns} {now = now} {next = next} {at = at} {i = i} h w p =
    let e : at + (i + 1) ≡ suc (at + i) = omega arith in
    record {
      within = omega arith;
      same = ap length w ∙ length-set now (at + i) (get_or ns i 0) ∙ p.same;
      whole =
          ap (λ l. sets l (at + (i + 1)) (drop (i + 1) ns)) w
          ∙ ap (λ k. sets (set now (at + i) (get_or ns i 0)) k (drop (i + 1) ns)) e
          ∙ ap (λ k. sets (set now (at + i) (get_or ns i 0)) (suc (at + i)) (drop k ns)) (add-one i)
          ∙ ap (sets now (at + i)) (sym (drop-cons ns i 0 h)) ∙ p.whole;
    }

pub partly_end : {out ns now : List ℕ} {at i : ℕ} → length ns ≤ i → Partly out at ns now i → now ≡ sets out at ns
partly_end {ns = ns} {now = now} {at = at} {i = i} h p = ap (sets now (at + i)) (sym (drop_of_length-le ns h)) ∙ p.whole

-- THE KIND by its number
module _ (f c : List ℕ) {t u : Tables} {r : Report} where
  pub ran_ferat : {k : ℕ} → k ≡ 1 → CheckedBy (rules_of (ferat f c)) (range_of (ferat f c)) t r u → RanAs k f c t (Some r) u
  unfolding job_of
  ran_ferat {k} e h = (ferat f c, ap (λ b. cond b (some (ferat f c)) (cond (eqb k 2) (some (ferp f c)) nothing)) (eq-eqb k 1 e), h)

  pub ran_ferp : {k : ℕ} → (k ≡ 1 → ⊥) → k ≡ 2 → CheckedBy (rules_of (ferp f c)) (range_of (ferp f c)) t r u → RanAs k f c t (Some r) u
  unfolding job_of
  ran_ferp {k} z e h =
      (ferp f c, ap₂ (λ a b. cond a (some (ferat f c)) (cond b (some (ferp f c)) nothing)) (ne_eqb k 1 z) (eq-eqb k 2 e), h)

pub ran_none : (f c : List ℕ) (t : Tables) {k : ℕ} → (k ≡ 1 → ⊥) → (k ≡ 2 → ⊥) → RanAs k f c t None t
unfolding job_of
ran_none f c t {k} y z = (ap₂ (λ a b. cond a (some (ferat f c)) (cond b (some (ferp f c)) nothing)) (ne_eqb k 1 y) (ne_eqb k 2 z), refl)

-- one check with its numbers
pub one : (kind : ℕ) (f c : List ℕ) {t u : Tables} {out exit : List ℕ} (at : ℕ) (ns : List ℕ) (r : Option Report) → RanAs kind f c t r u
    → MatchOption r (ns ≡ replicate 7 0) (λ q. ns ≡ seven_of q) → exit ≡ sets out at ns → One kind f c t out at u exit
one kind f c {out = out} at ns (Some r) h e w = record { entry = ran h.0 r; asked = sym h.1; leaves = h.2; written = w ∙ ap (sets out at) e }
one kind f c {out = out} at ns None h e w = record { entry = passed; asked = sym h.0; leaves = h.1; written = w ∙ ap (sets out at) e }

-- SO FAR: k checks are done, the next file stands from `from` on, and `rest` are the ends that are left
pub record Going (bytes ends kinds : List ℕ) (from k : ℕ) (rest : List ℕ) (t : Tables) (out : List ℕ) (u : Tables) (now : List ℕ) : Type 0 where
  pub entries : List Entry
  pub start : from ≤ length bytes
  pub runs : Runs (jobs_in entries) t (reports_in entries) u
  pub left : map asked_by entries ++ asked_from bytes kinds k from rest ≡ asked bytes ends kinds
  pub written : now ≡ over out (numbers_in entries)
  pub place : 7 * k ≡ length (numbers_in entries)

-- the tables after one check more
leaves_run : (e : Entry) {t u : Tables} → Leaves e t u → Runs (jobs_in (e ∷ [])) t (reports_in (e ∷ [])) u
leaves_run (ran j r) h = more h none
leaves_run passed {t} {u} h = subst (λ z. Runs [] t [] z) (sym h) none

-- two ends
two : (p : List ℕ) → length p ≡ 2 → p ≡ get_or p 0 0 ∷ get_or p 1 0 ∷ []
two (a ∷ b ∷ []) e = refl
two [] e = absurd (omega (arith, e))
two (a ∷ []) e = absurd (omega (arith, e))
two (a ∷ b ∷ c ∷ p) e = absurd (omega (arith, e))

module _ (bytes ends kinds : List ℕ) where
  pub going_start : (t : Tables) (out : List ℕ) → Going bytes ends kinds 0 0 ends t out t out
  unfolding numbers_in over
  going_start t out = record { entries = []; start = omega arith; runs = none; left = refl; written = refl; place = refl }

  asked_next : (k from a b : ℕ) (es : List ℕ) (middle to kind : ℕ) → middle ≡ clamped from (length bytes) a → to ≡ clamped middle (length bytes) b
      → kind ≡ get_or kinds k 0 → asked_from bytes kinds k from (a ∷ b ∷ es) ≡ job_in bytes from middle to kind ∷ asked_from bytes kinds (k + 1) to es
  unfolding asked_from
  asked_next k from a b es middle to kind m e n = rw (e, m, n)

  pub going_more : (from k middle to : ℕ) {kind : ℕ} (pair : List ℕ) {rest next : List ℕ} {t u w : Tables} {out p q : List ℕ} → rest ≡ pair ++ next
      → length pair ≡ 2 → middle ≡ clamped from (length bytes) (get_or pair 0 0) → to ≡ clamped middle (length bytes) (get_or pair 1 0)
      → kind ≡ get_or kinds k 0 → Going bytes ends kinds from k rest t out u p
      → One kind (take (middle - from) (drop from bytes)) (take (to - middle) (drop middle bytes)) u p (7 * k) w q
      → Going bytes ends kinds to (k + 1) next t out w q
  unfolding numbers_in part
  going_more from k middle to {kind} pair {rest = rest} {next = next} {out = out} {p = p} {q = q} h l m e n g c =
      let ns = numbers_in g.entries in
      let s = seven_in c.entry in
      let both : numbers_in (g.entries ++ (c.entry ∷ [])) ≡ ns ++ s = numbers_then g.entries (c.entry ∷ []) ∙ ap (λ l. ns ++ l) (append-nil s) in
      let more = asked_from bytes kinds (k + 1) to next in
      let step : asked_from bytes kinds k from rest ≡ asked_by c.entry ∷ more
      = ap (asked_from bytes kinds k from) (h ∙ ap (λ l. l ++ next) (two pair l))
      ∙ asked_next k from (get_or pair 0 0) (get_or pair 1 0) next middle to kind m e n ∙ ap (λ j. j ∷ more) (sym c.asked) in
      record {
        entries = g.entries ++ (c.entry ∷ []);
        start = omega (arith, g.start);
        runs = entries_run g.entries (c.entry ∷ []) g.runs (leaves_run c.entry c.leaves);
        left =
            ap (λ l. l ++ more) (asked_then g.entries (c.entry ∷ [])) ∙ append_assoc (map asked_by g.entries) (asked_by c.entry ∷ []) more
            ∙ ap (λ l. map asked_by g.entries ++ l) (sym step) ∙ g.left;
        written = c.written ∙ ap (λ l. sets l (7 * k) s) g.written ∙ ap (λ k. sets (over out ns) k s) g.place ∙ over_then out ns s ∙ ap (over out) (sym both);
        place = omega (arith, g.place, ap length both, length-append ns s, seven_numbers c.entry);
      }

  pub going_end : {from k : ℕ} {rest : List ℕ} {t u : Tables} {out p : List ℕ} → length rest < 2 → Going bytes ends kinds from k rest t out u p
      → CheckedAll bytes ends kinds t out u p
  unfolding asked_from
  going_end {from} {k} {rest} h g = record {
    entries = g.entries;
    checks = sym (append-nil (map asked_by g.entries)) ∙ ap (λ l. map asked_by g.entries ++ l) (sym (short rest h)) ∙ g.left;
    runs = g.runs;
    written = g.written;
    demanded = demand_3 g.runs;
  }
    where
      short : (l : List ℕ) → length l < 2 → asked_from bytes kinds k from l ≡ []
      short [] q = refl
      short (a ∷ []) q = refl
      short (a ∷ b ∷ l) q = absurd (omega arith)
