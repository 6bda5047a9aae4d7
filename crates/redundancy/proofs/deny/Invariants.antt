use Rattle.cells.specs.Codes.{codes_left}
use Rattle.trail.specs.Trail.{ReadyIn}
use Rattle.redundancy.specs.Additions.{less_of}
use Rattle.redundancy.proofs.DenyLaws.{Denying}
use Rattle.redundancy.proofs.deny.Given as goal

abbrev pub invariant-loop-l : goal.invariant-loop-l
invariant-loop-l l = ReadyIn l.initial.trail → Denying (less_of l.skip (codes_left l.fn.clause)) (less_of l.skip (codes_left l.l-iterator)) l.initial.trail.falses l.initial.trail.literals l.initial.trail.length l.trail.falses l.trail.literals l.trail.length
