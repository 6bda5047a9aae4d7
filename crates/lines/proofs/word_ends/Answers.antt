use borrow.Author.Rules.{rules}
use Rattle.lines.specs.Bytes.{is_blank}
use Rattle.lines.proofs.Here.{test_at}
use Rattle.lines.proofs.Walks.{ends_told}
use Rattle.lines.proofs.word_ends.Goals as goal

pub returns : goal.returns
returns c = ends_told _ _ (test_at is_blank _ _ _ c.get.ensures.lookup c.is_none_or.ensures (λ x q. search rules))
