use borrow.Author.Rules.{rules}
use native.Mathlib.Omega.{arith}
use mathlib.Core.Path.{◌∙◌}
use Rattle.lines.proofs.Tables.{same_rank, among_none, among_more}
use Rattle.lines.proofs.among.Goals as goal

pub loop-i-init : goal.loop-i-init
loop-i-init c = (omega arith, search rules, among_none _ _ _)

pub loop-i-preserved : goal.loop-i-preserved
loop-i-preserved c = let k = c.loop-i.invariant in
    (omega (arith, k.0), search rules, among_more _ _ _ _ c.classes-classes.ensures _ k.0 (search rules) k.2 (c.eq.ensures ∙ same_rank _ _))
