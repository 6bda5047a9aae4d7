use Rattle.buffers.proofs.BufferLaws.{Copying}
use Rattle.buffers.proofs.copy.Given as goal

abbrev pub invariant-loop-k : goal.invariant-loop-k
invariant-loop-k l = Copying l.codes l.initial.table l.from l.k l.table
