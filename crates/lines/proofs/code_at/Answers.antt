use Rattle.lines.proofs.Words.{code_none, code_read, word_within}
use Rattle.lines.proofs.code_at.Goals as goal

pub returns-then-line-s : goal.returns-then-line-s
returns-then-line-s c = code_none _ _ c.past-s.ensures c.if-line-s.true

pub slice_bounds-number_of-end : goal.slice_bounds-number_of-end
slice_bounds-number_of-end c = word_within _ _ c.past-s.ensures c.past.ensures c.if-line-s.false

pub returns : goal.returns
returns c = code_read _ _ c.past-s.ensures c.past.ensures c.number_of.ensures
