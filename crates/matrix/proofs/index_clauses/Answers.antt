use mathlib.Core.Path.{◌≡◌, ap, ◌∙◌}
use native.Mathlib.Omega.{arith}
use Prim.Native.Nat.{ℕ, ◌+◌, ◌-◌}
use lib.ListN.{length, set, length-set}
use Rattle.matrix.specs.Index.{index_from, index_of}
use Rattle.matrix.proofs.IndexLaws.{noted_set, turn_end, turn_on, walk_start, walk_done}
use Rattle.matrix.proofs.index_clauses.Goals.{then-cell-eq0, else-cell-eq0}
use Rattle.matrix.proofs.index_clauses.Goals as goal

pub loop-k-init : goal.loop-k-init
unfolding index_of
loop-k-init c = record {
  within = omega arith;
  long = length-set c.args.starts.now 0 0 ∙ c.told-starts;
  left = walk_start _ _ _ ∙ ap (index_from c.args.matrix.now c.args.used 0 0) (noted_set _ _ _ c.told-starts);
}

pub loop-k-preserved : goal.loop-k-preserved
loop-k-preserved c =
    let l = c.loop-k in
    elim c.if-cell-eq0.branch [
      | then-cell-eq0 w ↦
          let s : c.if-cell-eq0.starts ≡ set l.starts (l.i + 1) (l.k + 1) = w.starts-is ∙ w.set_at.ensures in record {
            within = omega (arith, w.i-is, l.invariant.within);
            long = ap (length {A = ℕ}) s ∙ length-set l.starts (l.i + 1) (l.k + 1) ∙ l.invariant.long;
            left =
                ap (λ i. index_from c.args.matrix.now (c.args.used - (l.k + 1)) i (l.k + 1) c.if-cell-eq0.starts) w.i-is
                ∙ turn_end _ _ _ _ _ _ c.loop-k-test.true l.invariant.left c.cell.ensures w.if-cell-eq0.true (s ∙ noted_set _ _ _ l.invariant.long);
          }
      | else-cell-eq0 w ↦ record {
        within = omega (arith, w.i-is, l.invariant.within);
        long = ap (length {A = ℕ}) w.starts-is ∙ l.invariant.long;
        left =
            ap (λ i. index_from c.args.matrix.now (c.args.used - (l.k + 1)) i (l.k + 1) c.if-cell-eq0.starts) w.i-is
            ∙ ap (index_from c.args.matrix.now (c.args.used - (l.k + 1)) l.i (l.k + 1)) w.starts-is
            ∙ turn_on _ _ _ _ _ _ c.loop-k-test.true l.invariant.left c.cell.ensures w.if-cell-eq0.false;
      }
    ]

pub returns : goal.returns
returns c = walk_done _ _ _ _ _ _ c.loop-k-test.false c.loop-k.invariant.left
