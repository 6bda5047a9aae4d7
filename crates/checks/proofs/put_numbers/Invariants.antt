use Rattle.checks.proofs.ListLaws.{Partly}
use Rattle.checks.proofs.put_numbers.Given as goal

abbrev pub invariant-loop-i : goal.invariant-loop-i
invariant-loop-i l = Partly l.initial.out l.at l.numbers l.out l.i
