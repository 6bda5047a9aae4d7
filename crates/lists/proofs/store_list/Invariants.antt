use mathlib.Core.Path.{◌≡◌}
use Rattle.lines.specs.Literals.{literals_line, literals_at}
use Rattle.lists.proofs.StoreLaws.{Storing}
use Rattle.lists.proofs.store_list.Given as goal

abbrev pub invariant-loop-x : goal.invariant-loop-x
invariant-loop-x l = (literals_line l.x-iterator ≡ l.line) × Storing l.line l.at l.initial.table l.from (literals_at l.x-iterator) l.k l.table
