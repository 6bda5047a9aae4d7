use mathlib.Core.Path.{◌≡◌}
use Prim.Native.Nat.{◌-◌}
use Rattle.copies.specs.Copies.{list_in}
use Rattle.assignment.specs.Least.{IsEmpty, SameArrays}
use Rattle.matrix.specs.Index.{any_from}
use Rattle.expansion.specs.Codes.{expands_in, expands_any_in}
use Rattle.expansion.proofs.expands_any.Given as goal

abbrev pub invariant-loop-i : goal.invariant-loop-i
invariant-loop-i l = record {
  lent : SameArrays l.initial.least l.least;
  answer : IsEmpty l.initial.least
      → IsEmpty l.least
      × (any_from (λ k. expands_in l.view (list_in l.matrix k)) l.starts l.i (l.c - l.i) ≡ expands_any_in l.view l.matrix l.starts l.c);
}
