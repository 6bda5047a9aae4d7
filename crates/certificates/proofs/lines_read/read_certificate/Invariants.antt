use Rattle.std.proofs.Common.{◌≡◌, ◌≤◌, length}
use Rattle.std.specs.Iterator.Adapters.{zip_first, zip_second}
use Rattle.lines.specs.Each.{lines_left}
use Rattle.reading.proofs.ReadLaws.{Midway}
use Rattle.tables.specs.Tables.{lengths_of}
use Rattle.tables.specs.Lent.{tables_of, SameLent}
use Rattle.certificates.proofs.lines_read.read_certificate.Given as goal

abbrev pub invariant-loop-bytes : goal.invariant-loop-bytes
invariant-loop-bytes g l =
    let k = g.K.Kind in
    record {
      midway : length l.certificate ≤ 1048576
          → Midway k.rules k.code l.certificate l.initial.q (tables_of l.initial.tables) l.initial.work (zip_second l.bytes-iterator).start (lines_left (zip_first l.bytes-iterator)) l.q (tables_of l.tables) l.work;
      prefix : (tables_of l.tables).prefix ≡ (tables_of l.initial.tables).prefix;
      matrix : (tables_of l.tables).matrix ≡ (tables_of l.initial.tables).matrix;
      lengths : lengths_of (tables_of l.tables) ≡ lengths_of (tables_of l.initial.tables);
      lent : SameLent l.initial.tables l.tables;
    }
