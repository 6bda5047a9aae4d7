use mathlib.Core.Path.{◌≡◌}
use Rattle.std.specs.List.{list_all as all}
use Rattle.cells.specs.Codes.{codes_left}
use Rattle.copies.specs.Copies.{words, stands_in, line_in}
use Rattle.literals.specs.Marks.{meets, stamped_by}
use Rattle.literals.proofs.stamp_line.Given as goal

abbrev pub invariant-loop-x : goal.invariant-loop-x
invariant-loop-x l = (all (meets (words l.view) (stands_in l.view) (codes_left l.clause) l.seen) (codes_left l.x-iterator)
    ≡ all (meets (words l.view) (stands_in l.view) (codes_left l.clause) l.initial.seen) (line_in l.view))
    × (stamped_by (words l.view) (stands_in l.view) (codes_left l.clause) (codes_left l.x-iterator) l.seen
    ≡ stamped_by (words l.view) (stands_in l.view) (codes_left l.clause) (line_in l.view) l.initial.seen)
