use mathlib.Core.Path.{◌≡◌}
use mathlib.Core.Bool.{◌&&◌}
use Rattle.std.specs.List.{list_all as all}
use Rattle.cells.specs.Codes.{codes_left}
use Rattle.copies.specs.Copies.{words, stands_in, line_in}
use Rattle.literals.specs.Marks.{answered, cleared}
use Rattle.literals.proofs.take_back.Given as goal

abbrev pub invariant-loop-y : goal.invariant-loop-y
invariant-loop-y l = ((l.all && all (answered (words l.view) (stands_in l.view) (line_in l.view) l.seen) (codes_left l.y-iterator))
    ≡ all (answered (words l.view) (stands_in l.view) (line_in l.view) l.initial.seen) (codes_left l.clause))
    × (cleared (codes_left l.y-iterator) l.seen ≡ cleared (codes_left l.clause) l.initial.seen)
