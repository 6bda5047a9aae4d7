use mathlib.Core.Logic.{⊎_elim}
use Rattle.std.proofs.Common.{◌≡◌, ◌+◌, ap, ◌∙◌, Ok, arith, rules}
use Rattle.std.proofs.lemmas.Result.{err_from_is_err_and}
use Rattle.std.specs.Iterator.Adapters.{zip_first, zip_second}
use Rattle.lines.specs.Each.{lines_left}
use Rattle.rules.proofs.RuleLaws.{mapped_err}
use Rattle.formula.proofs.FileLaws.{going_start, going_able, going_refused, going_next, going_last}
use Rattle.formula.proofs.read_lines.Goals as goal

pub loop-bytes-init : goal.loop-bytes-init
loop-bytes-init c =
    let i = c.into_iter-bytes-iterator.ensures.into_iter_gives in
    let z = c.zip-bytes-items.ensures in
    going_start (ap (λ i. lines_left (zip_first i)) i ∙ ap lines_left z.first ∙ c.new.ensures) (search rules)

pub read_line-requires : goal.read_line-requires
read_line-requires c = going_able c.loop-bytes.invariant c.in-Some.ensures.steps.0 c.requires

pub returns-in_err-so_far : goal.returns-in_err-so_far
returns-in_err-so_far c =
    let p = err_from_is_err_and c.from_residual.result c.from_residual.ensures.1 in
    let q = mapped_err c.read_line.result _ c.map_err.ensures.cases c.in_err-so_far.was in
    let k = q.2 in
    let e : p.0 ≡ record { rule = q.0; line = (zip_second c.loop-bytes.bytes-iterator).start } = search rules in
    rw p.1 (going_refused c.loop-bytes.invariant c.in-Some.ensures.steps.0 c.read_line.ensures q.1 e)

pub loop-bytes-preserved : goal.loop-bytes-preserved
loop-bytes-preserved c =
    let s = c.in-Some.ensures.steps in
    let t : c.read_line.result ≡ Ok c.in_ok-so_far.so_far = grind arith in
    going_next c.loop-bytes.invariant s.0 c.read_line.ensures t (s.1.1 ∙ ap (λ n. n + 1) s.1.0)

pub returns : goal.returns
returns c =
    let g = c.loop-bytes.invariant in
    going_last g (⊎_elim (λ w. w.1.0) (λ w. absurd (omega (arith, g.count, c.requires, w.1.0))) c.in-None.ensures.steps) c.close.ensures
