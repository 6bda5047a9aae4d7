use mathlib.Core.Path.{◌≡◌}
use Rattle.cells.specs.Codes.{codes_left}
use Rattle.copies.specs.Copies.{words}
use Rattle.assignment.specs.Held.{joined}
use Rattle.assignment.specs.Least.{items_of, HeldIn, SameArrays}
use Rattle.assignment.specs.Annotations.{negations}
use Rattle.assignment.proofs.least.Least.join_negations.Given as goal

abbrev pub invariant-loop-y : goal.invariant-loop-y
invariant-loop-y l = record {
  lent : SameArrays l.initial.self l.self;
  held : HeldIn l.initial.self
      → HeldIn l.self
      × (joined (items_of l.self) (negations (words l.view) (codes_left l.y-iterator))
      ≡ joined (items_of l.initial.self) (negations (words l.view) (codes_left l.clause)));
}
