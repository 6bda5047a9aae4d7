use Rattle.std.proofs.Common.{◌≡◌, ◌+◌, ◌*◌, length}
use Rattle.std.specs.Iterator.Adapters.{enumerate_source, enumerate_count}
use Rattle.std.specs.Slice.Iter.{chunks_exact_rest, chunks_exact_size}
use Rattle.tables.specs.Lent.{tables_of, SameLent}
use Rattle.checks.proofs.ListLaws.{Going}
use Rattle.checks.proofs.check_all.Given as goal

abbrev pub invariant-loop-k : goal.invariant-loop-k
invariant-loop-k l = record {
  size : chunks_exact_size (enumerate_source l.k-iterator) ≡ 2;
  left : 2 * enumerate_count l.k-iterator + length (chunks_exact_rest (enumerate_source l.k-iterator)) ≡ length l.ends;
  going : Going l.bytes l.ends l.kinds l.from (enumerate_count l.k-iterator) (chunks_exact_rest (enumerate_source l.k-iterator)) (tables_of l.fn.tables) l.fn.out (tables_of l.tables) l.out;
  lent : SameLent l.fn.tables l.tables;
}
