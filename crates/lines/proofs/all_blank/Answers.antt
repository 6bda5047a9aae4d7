use Rattle.std.proofs.Common.{rules, tests, ◌∙◌}
use mathlib.Core.Path.{sym}
use mathlib.Core.Bool.{true, ◌&&◌}
use Rattle.std.proofs.lemmas.Iterator.{YieldsList-from_slice}
use Rattle.std.proofs.lemmas.Iterator.Consumers.{fold_from_yields_List}
use Rattle.lines.specs.Bytes.{is_blank}
use Rattle.lines.proofs.Runs.{run_all}
use Rattle.lines.proofs.all_blank.Goals as goal

pub returns : goal.returns
returns c = λ e.
    let f = fold_from_yields_List _ (λ a b. a && is_blank b) true _ c.fold.ensures.ran (YieldsList-from_slice _ c.iter.ensures.rest) (λ a x b q k. search (rules, tests)) in
    (run_all is_blank _ true (sym f ∙ e)).1
