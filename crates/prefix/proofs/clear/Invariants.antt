use Rattle.prefix.proofs.TableLaws.{Zeroing}
use Rattle.prefix.proofs.clear.Given as goal

abbrev pub invariant-loop-i : goal.invariant-loop-i
invariant-loop-i l = Zeroing l.initial.t l.n l.t l.i
