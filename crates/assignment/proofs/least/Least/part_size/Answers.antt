use Rattle.std.proofs.Common.{rules, tests, take}
use Rattle.std.proofs.lemmas.Iterator.{YieldsList-from_slice}
use Rattle.std.proofs.lemmas.Iterator.Consumers.{YieldsList-from_filter, count_from_yields_List}
use Rattle.copies.specs.Copies.{words}
use Rattle.assignment.proofs.Arms.{part_of}
use Rattle.assignment.proofs.least.Least.part_size.Goals as goal

pub returns : goal.returns
returns c = let t = c.args.self.now in
    part_of (words c.args.view) t.held.now t.count c.args.e
    (count_from_yields_List _ _ c.count.ensures.ran (YieldsList-from_filter _ _ (YieldsList-from_slice (take t.count t.held.now) cc) c.filter.ensures.closure (λ x b q k. search (rules, tests))))
    t.room.0 t.room.1
