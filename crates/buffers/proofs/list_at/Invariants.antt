use mathlib.Core.Path.{◌≡◌}
use Prim.Native.Nat.{◌+◌, ◌≤◌}
use Rattle.lines.specs.Literals.{literals_line, literals_at}
use Rattle.lists.specs.Lists.{listed_at}
use Rattle.lists.proofs.ListLaws.{merged}
use Rattle.buffers.proofs.BufferLaws.{Keeping}
use Rattle.buffers.proofs.list_at.Given as goal

abbrev pub invariant-loop-x : goal.invariant-loop-x
invariant-loop-x l =
    (literals_line l.x-iterator ≡ l.line) × (l.measure.count + l.at ≤ literals_at l.x-iterator)
    × (merged l.measure.negative l.measure.count l.measure.largest (listed_at l.line (literals_at l.x-iterator)) ≡ listed_at l.line l.at)
    × Keeping l.line l.at l.initial.buffer (literals_at l.x-iterator) l.measure.count l.buffer
