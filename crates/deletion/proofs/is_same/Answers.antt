use mathlib.Core.Path.{refl, sym, ◌∙◌, ap}
use mathlib.Core.Bool.{◌&&◌}
use Rattle.std.specs.List.{list_all as all}
use Rattle.rules.specs.Basics.{is_in}
use Rattle.cells.specs.Codes.{codes_left}
use Rattle.deletion.specs.Deletions.{list_in}
use Rattle.deletion.proofs.DeletionLaws.{same_by}
use Rattle.deletion.proofs.is_same.Goals as goal

pub returns-then-all_marked : goal.returns-then-all_marked
returns-then-all_marked c = λ l.
    ap (λ b. b && c.covers.result) (sym c.if-all_marked.true) ∙ same_by _ _ _ l _ c.all_marked.ensures c.covers.ensures

pub returns-else-all_marked : goal.returns-else-all_marked
returns-else-all_marked c = λ l.
    let b = all (is_in (codes_left c.args.clause)) (list_in c.args.trail.now) in
    c.if-all_marked.false ∙ ap (λ a. a && b) (sym c.if-all_marked.false) ∙ same_by _ _ _ l _ c.all_marked.ensures refl
