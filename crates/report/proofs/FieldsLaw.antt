-- The fields as numbers and as bytes: by the verdict's cases, one number more, and the whole. Assumes nothing.
use mathlib.Core.Path.{◌≡◌, refl, sym, ap, ◌∙◌}
use mathlib.Core.List.{List, [], ◌∷◌, ◌++◌, append_assoc, append-nil}
use Prim.Native.Nat.{ℕ, ◌+◌, ◌*◌, ◌<◌, ◌≤◌}
use native.Mathlib.Omega.{arith}
use native.Mathlib.Numerals.{add-one}
use lib.ListN.{length, take, drop, get_or, length-take, length-append}
use lib.Seq.{take-suc, take-append_seam, drop-append_seam}
use Rattle.rules.specs.Render.{word_of, render}
use Rattle.rules.specs.declared.Verdict.{Verdict}
use Rattle.rules.specs.declared.Verdict.TheVariants.{Accepted, Refused}
use Rattle.rules.specs.declared.Report.{Report}
use Rattle.report.specs.Fields.{word_number, seven_of, Rendered}
use Rattle.report.specs.declared.Line.{Line}
use Rattle.report.specs.Written.{Adds, text_of, numeral, after_commas}
use Rattle.report.proofs.Writing.{adds_then, adds_as}

-- a place that nothing was written to, and was cleared before, is no word; accepted is 1 alone
pub word_written : (v : Verdict) → 1 ≤ word_number v
word_written Accepted = omega arith
word_written (Refused number file line) = omega arith

pub one_accepted : (v : Verdict) → word_number v ≡ 1 → v ≡ Accepted
one_accepted Accepted e = refl
one_accepted (Refused number file line) e = absurd (omega (arith, e))

after_one_more : (ns : List ℕ) (n : ℕ) → after_commas (ns ++ (n ∷ [])) ≡ after_commas ns ++ (44 ∷ numeral n)
unfolding after_commas
after_one_more [] n = ap (λ l. 44 ∷ l) (append-nil (numeral n))
after_one_more (m ∷ ns) n = ap (λ l. 44 ∷ (numeral m ++ l)) (after_one_more ns n) ∙ ap (λ l. 44 ∷ l) (sym (append_assoc (numeral m) (after_commas ns) (44 ∷ numeral n)))

pub after_next : (ns : List ℕ) (i : ℕ) → i < length ns → after_commas (take i ns) ++ (44 ∷ numeral (get_or ns i 0)) ≡ after_commas (take (i + 1) ns)
after_next ns i h = sym (after_one_more (take i ns) (get_or ns i 0)) ∙ ap after_commas (rw (add-one, take-suc ns i 0))

-- the six fields after the word
abbrev six : List ℕ → List ℕ
six s = take 6 (drop 1 s)

pub six_long : (r : Report) {s : List ℕ} → s ≡ seven_of r → length (six s) ≡ 6
unfolding seven_of
six_long r e = rw e

pub word_short : (v : Verdict) → length (word_of v) ≤ 8
word_short Accepted = omega arith
word_short (Refused number file line) = omega arith

render_is : (r : Report) {s : List ℕ} → s ≡ seven_of r → word_of r.verdict ++ after_commas (six s) ≡ render r
unfolding seven_of after_commas numeral render
render_is r e = rw e (simp append-nil)

-- the word, the six numbers and byte 10, and then their copy at the start of `entry`
pub rendered : (r : Report) {s w entry : List ℕ} {l m n k : Line} → s ≡ seven_of r → l.end ≡ 0 → w ≡ word_of r.verdict → Adds l w m
    → Adds m (after_commas (six s)) n × (n.end ≤ m.end + 11 * length (six s)) → Adds n (10 ∷ []) k
    → Rendered r entry (text_of k ++ drop (length (text_of k)) entry) (length (text_of k))
rendered r {entry = entry} {l = l} {k = k} e z o f g h =
    let all = adds_then (adds_as (render_is r e) (adds_then (adds_as o f) g.0)) h in
    let text : text_of k ≡ render r ++ (10 ∷ []) = all.text ∙ ap (λ n. take n l.bytes ++ (render r ++ (10 ∷ []))) z in
    record {
      room = omega (arith, ap length o, word_short r.verdict, six_long r e, f.next, g.1, h.next, length-take k.end k.bytes);
      within = omega (arith, length-append (text_of k) (drop (length (text_of k)) entry));
      count = ap length text;
      bytes = take-append_seam (text_of k) (drop (length (text_of k)) entry) ∙ text;
      rest = drop-append_seam (text_of k) (drop (length (text_of k)) entry);
    }
