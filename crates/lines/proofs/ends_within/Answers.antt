use Rattle.std.proofs.Common.{rules, tests, ◌∙◌}
use mathlib.Core.Path.{sym}
use mathlib.Core.Bool.{false, ◌||◌}
use Rattle.std.proofs.lemmas.Iterator.{YieldsList-from_slice}
use Rattle.std.proofs.lemmas.Iterator.Consumers.{fold_from_yields_List}
use Rattle.lines.specs.Bytes.{is_line_end}
use Rattle.lines.proofs.Runs.{run_none}
use Rattle.lines.proofs.ends_within.Goals as goal

pub returns : goal.returns
returns c = λ e.
    let f = fold_from_yields_List _ (λ a b. a || is_line_end b) false _ c.fold.ensures.ran (YieldsList-from_slice _ c.iter.ensures.rest) (λ a x b q k. search (rules, tests)) in
    (run_none is_line_end _ false (sym f ∙ e)).1
