use Prim.Native.Nat.{◌*◌}
use Rattle.deletion.specs.Deletions.{ListedIn, list_in, NoneThere}
use Rattle.deletion.proofs.earliest.Given as goal

abbrev pub invariant-loop-block : goal.invariant-loop-block
invariant-loop-block l = ListedIn l.trail → NoneThere (list_in l.trail) l.standing.proof.now l.standing.marks.now 0 (4 * l.block)
