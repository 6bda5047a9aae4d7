use Rattle.mapped.specs.Numbers.{numbers_left, end_left}
use Rattle.mapping.proofs.CopyLaws.{CopyingPairs}
use Rattle.mapping.proofs.stores.store.Given as goal

abbrev pub invariant-loop-copy : goal.invariant-loop-copy
invariant-loop-copy l =
    CopyingPairs l.line l.at l.fn.lists.existentials_at l.note l.initial.place l.initial.map l.initial.values l.map l.values (numbers_left l.copy-iterator)
    (end_left l.copy-iterator) (numbers_left l.existentials) (end_left l.existentials) l.place
