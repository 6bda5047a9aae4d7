use mathlib.Core.Path.{◌≡◌}
use Rattle.cells.specs.Codes.{codes_left}
use Rattle.copies.specs.Copies.{annotation_in, list_in, line_in}
use Rattle.assignment.specs.Held.{joined}
use Rattle.assignment.specs.Least.{items_of, HeldIn, SameArrays}
use Rattle.assignment.specs.Annotations.{annotations_of}
use Rattle.assignment.proofs.least.Least.join_annotations.Given as goal

abbrev pub invariant-loop-x : goal.invariant-loop-x
invariant-loop-x l = record {
  lent : SameArrays l.initial.self l.self;
  held : HeldIn l.initial.self
      → HeldIn l.self × (joined (items_of l.self) (list_in l.view.map.now l.last) ≡ items_of l.self)
      × (joined (items_of l.self) (annotations_of (annotation_in l.view) (codes_left l.x-iterator))
      ≡ joined (items_of l.initial.self) (annotations_of (annotation_in l.view) (line_in l.view)));
}
