use mathlib.Core.Path.{◌≡◌}
use lib.ListN.{length}
use Rattle.std.specs.List.{list_all as all}
use Rattle.cells.specs.Codes.{codes_left}
use Rattle.copies.specs.Copies.{words, stands_in, annotation_in, list_in, line_in}
use Rattle.assignment.specs.Held.{Noted}
use Rattle.assignment.specs.Least.{items_of}
use Rattle.assignment.specs.Annotations.{part_size, copy_fits}
use Rattle.assignment.proofs.copies_fit.Given as goal

abbrev pub invariant-loop-x : goal.invariant-loop-x
invariant-loop-x l = record {
  noted : Noted (part_size (words l.view) (items_of l.least)) l.sizes;
  long : l.long ≡ length (list_in l.view.map.now l.last);
  fits : all (copy_fits (words l.view) (stands_in l.view) (annotation_in l.view) (items_of l.least)) (codes_left l.x-iterator)
      ≡ all (copy_fits (words l.view) (stands_in l.view) (annotation_in l.view) (items_of l.least)) (line_in l.view);
}
