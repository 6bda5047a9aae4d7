use mathlib.Core.Logic.{⊎_elim}
use Rattle.std.proofs.Common.{◌+◌, refl, ap, ◌∙◌, rules}
use Rattle.std.specs.Iterator.Adapters.{zip_first}
use Rattle.lines.specs.Each.{lines_left}
use Rattle.reading.proofs.ReadLaws.{midway_start, midway_next, midway_refused, midway_last, midway_short, long_of}
use Rattle.certificates.proofs.lines_read.read_certificate.Goals as goal

pub loop-bytes-init : goal.loop-bytes-init
loop-bytes-init g c =
    let i = c.into_iter-bytes-iterator.ensures.into_iter_gives in
    let z = c.zip-bytes-items.ensures in
    record {
      midway = λ x. midway_start g.met.K.Kind.apt (ap (λ i. lines_left (zip_first i)) i ∙ ap lines_left z.first ∙ c.new.ensures) (Prim.search rules);
      prefix = Prim.search rules;
      matrix = Prim.search rules;
      lengths = refl;
      lent = Prim.search rules;
    }

pub returns-in-Err-clause-read : goal.returns-in-Err-clause-read
returns-in-Err-clause-read g c = λ z.
    let s = c.in-Some.ensures.steps in
    rw c.counts.ensures (midway_refused g.met.K.Kind.apt (c.loop-bytes.invariant.midway z) s.0 z _ _ c.line_keeping_lengths.ensures.read _ c.in-Err.is s.1.0)

pub loop-bytes-preserved : goal.loop-bytes-preserved
loop-bytes-preserved g c =
    let s = c.in-Some.ensures.steps in
    record {
      midway = λ z. midway_next g.met.K.Kind.apt (c.loop-bytes.invariant.midway z) s.0 z _ _ c.line_keeping_lengths.ensures.read _ c.in-Ok.is (s.1.1 ∙ ap (λ n. n + 1) s.1.0) (long_of _ _ c.line_keeping_lengths.ensures.lengths);
      prefix = Prim.search rules;
      matrix = Prim.search rules;
      lengths = c.line_keeping_lengths.ensures.lengths ∙ c.loop-bytes.invariant.lengths;
      lent = Prim.search rules;
    }

pub returns-clause-read : goal.returns-clause-read
returns-clause-read g c = λ z.
    let m = c.loop-bytes.invariant.midway z in
    midway_last g.met.K.Kind.apt m (⊎_elim (λ w. w.1.0) (λ w. absurd (midway_short g.met.K.Kind.apt m z w.1.0)) c.in-None.ensures.steps) c.end.result
    (λ f s sh. c.end.ensures.ends _ f s sh) (rw c.counts-2.ensures at c.at_end.ensures)
