use mathlib.Core.Path.{◌∙◌}
use Prim.Native.Nat.{◌-◌}
use lib.ListN.{take, drop}
use Rattle.lines.proofs.Heads.{same_pointwise}
use Rattle.lines.proofs.Words.{word_none, word_within, word_told}
use Rattle.lines.proofs.word_is.Goals as goal

pub returns-then-line-s : goal.returns-then-line-s
returns-then-line-s c = word_none _ _ c.past_blanks-s.ensures _ c.if-line-s.true

pub slice_bounds-eq-end : goal.slice_bounds-eq-end
slice_bounds-eq-end c = word_within _ _ c.past_blanks-s.ensures c.past-e.ensures c.if-line-s.false

pub returns : goal.returns
returns c =
    c.then_some.ensures ∙ word_told _ _ c.past_blanks-s.ensures c.past-e.ensures _ c.if-line-s.false
    (c.eq.ensures ∙ same_pointwise (take (c.past-e.result - c.past_blanks-s.result) (drop c.past_blanks-s.result c.args.line.now)) c.args.word.now)
