use borrow.Author.Rules.{rules}
use Rattle.lines.specs.Bytes.{is_minus}
use Rattle.lines.proofs.Here.{test_at}
use Rattle.lines.proofs.Walks.{minus_told}
use Rattle.lines.proofs.minus_at.Goals as goal

pub returns : goal.returns
returns c = let k = minus_told _ _ (test_at is_minus _ _ _ c.get.ensures.lookup c.is_some_and.ensures (λ x q. search rules)) in search rules
