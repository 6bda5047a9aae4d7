use Rattle.lines.proofs.Heads.{head_blank, head_comment, head_one, head_more}
use Rattle.lines.proofs.line_head.Goals as goal

pub returns-then-line-s : goal.returns-then-line-s
returns-then-line-s c = head_blank _ c.past_blanks-s.ensures c.if-line-s.true

pub returns-then-b-eq99 : goal.returns-then-b-eq99
returns-then-b-eq99 c = head_comment _ c.past_blanks-s.ensures c.if-line-s.false c.if-b-eq99.true

pub returns-then-word_ends : goal.returns-then-word_ends
returns-then-word_ends c = head_one _ c.past_blanks-s.ensures c.if-line-s.false c.if-b-eq99.false c.word_ends.ensures c.if-word_ends.true

pub returns-else-word_ends : goal.returns-else-word_ends
returns-else-word_ends c = head_more _ c.past_blanks-s.ensures c.if-line-s.false c.if-b-eq99.false c.word_ends.ensures c.if-word_ends.false
