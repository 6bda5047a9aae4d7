use Rattle.std.proofs.Common.{rules, tests, ◌∙◌}
use Rattle.std.proofs.lemmas.Iterator.{YieldsList-from_slice}
use Rattle.std.proofs.lemmas.Iterator.Search.{all_from_yields_List}
use Rattle.assignment.specs.Annotations.{alone, apart}
use Rattle.assignment.specs.Least.{items_of}
use Rattle.assignment.proofs.HeldLaws.{all_filled}
use Rattle.assignment.proofs.least.Least.one_signed.Goals as goal

pub returns : goal.returns
unfolding alone apart
returns c = λ h.
    all_from_yields_List (alone (items_of c.args.self.now)) _ _ _ c.all.ensures.ran (YieldsList-from_slice _ cc) (λ x b q k. search (rules, tests))
    ∙ all_filled _ _ _ c.args.self.now.room.1
