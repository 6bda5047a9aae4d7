use mathlib.Core.Path.{◌≡◌}
use lib.ListN.{length}
use Prim.Native.Nat.{◌-◌, ◌≤◌}
use Rattle.matrix.specs.Index.{index_from, index_of}
use Rattle.matrix.proofs.index_clauses.Given as goal

abbrev pub invariant-loop-k : goal.invariant-loop-k
invariant-loop-k l = record {
  within : l.i ≤ l.k;
  long : length l.starts ≡ 8193;
  left : index_from l.matrix (l.used - l.k) l.i l.k l.starts ≡ index_of l.matrix l.used l.fn.starts;
}
