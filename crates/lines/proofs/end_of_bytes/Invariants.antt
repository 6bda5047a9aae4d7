-- The loop: from the place on, the run ends where the run from the start does, and the blocks that are left are the bytes from there on. Assumes nothing.
use mathlib.Core.Path.{◌≡◌}
use Prim.Native.Nat.{◌+◌}
use lib.ListN.{drop}
use Rattle.std.specs.Slice.Iter.{chunks_exact_rest, chunks_exact_size}
use Rattle.lines.specs.declared.Run.TheVariants.{Line}
use Rattle.lines.specs.Scan.{passes, run}
use Rattle.lines.proofs.end_of_bytes.Given as goal

abbrev pub invariant-loop-block : goal.invariant-loop-block
invariant-loop-block l =
    (chunks_exact_size l.block-iterator ≡ 8) × (chunks_exact_rest l.block-iterator ≡ drop l.i l.s)
    × (l.at + run (passes Line) (drop l.at l.s) ≡ l.i + run (passes Line) (drop l.i l.s))
