use Rattle.std.proofs.Common.{rules, tests, ◌∙◌}
use Prim.Native.Nat.{max}
use Rattle.std.proofs.lemmas.Iterator.Consumers.{fold_from_yields_List}
use Rattle.lines_c.proofs.Laws.{codes_given, largest_left}
use Rattle.lines_c.proofs.in_tokens.Goals as goal

pub returns : goal.returns
returns c =
    fold_from_yields_List _ (λ a x. max x a) 0 _ c.fold.ensures.ran (codes_given c.new.result) (λ a x b q k. search (rules, tests))
    ∙ largest_left c.new.result c.args.line.now c.new.ensures
