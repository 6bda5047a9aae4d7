use Rattle.std.specs.Iterator.Adapters.{zip_first, zip_second}
use Rattle.lines.specs.Each.{lines_left}
use Rattle.formula.proofs.FileLaws.{Going}
use Rattle.formula.proofs.read_lines.Given as goal

abbrev pub invariant-loop-bytes : goal.invariant-loop-bytes
invariant-loop-bytes l =
    Going l.formula l.initial.prefix l.initial.matrix l.prefix l.matrix l.so_far (zip_second l.bytes-iterator).start (lines_left (zip_first l.bytes-iterator))
