use mathlib.Core.Path.{◌≡◌}
use Rattle.lines.specs.Literals.{literals_line, literals_at}
use Rattle.formula.proofs.TableLaws.{Marking}
use Rattle.formula.proofs.put_binding.Given as goal

abbrev pub invariant-loop-x : goal.invariant-loop-x
invariant-loop-x l = (literals_line l.x-iterator ≡ l.line) × Marking l.line l.at l.q l.initial.prefix l.bound (literals_at l.x-iterator) l.prefix l.k
