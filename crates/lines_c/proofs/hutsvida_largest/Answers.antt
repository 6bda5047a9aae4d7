use Rattle.std.proofs.Common.{rules, tests, ◌∙◌}
use Prim.Native.Nat.{max}
use Rattle.std.proofs.lemmas.Iterator.Consumers.{YieldsList-from_first, fold_from_yields_List}
use Rattle.lines.specs.Lines.{read_line}
use Rattle.lines.specs.Each.{lines_left}
use Rattle.lines_c.specs.Largest.{in_line}
use Rattle.lines_c.proofs.Laws.{largest_lines}
use Rattle.lines_c.proofs.hutsvida_largest.Goals as goal

pub returns : goal.returns
returns c =
    fold_from_yields_List _ (λ a l. max (in_line (read_line l)) a) 0 _ c.fold.ensures.ran (YieldsList-from_first (λ x. x.now) lines_left {s = c.new.result} _ c.new.ensures) (λ a x b q k. search (rules, tests))
    ∙ largest_lines _
