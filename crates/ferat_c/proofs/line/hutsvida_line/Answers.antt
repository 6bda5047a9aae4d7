use Rattle.std.proofs.Common.{Bor, List, ℕ, [], ◌∷◌}
use Rattle.lines.proofs.Parts.{in_formula, in_certificate}
use Rattle.ferat_c.specs.Ends.{LineEnds}
use Rattle.ferat_c.proofs.EndsLaws.{ends_are}
use Rattle.ferat_c.proofs.line.hutsvida_line.Goals.{then-file-eq1, else-file-eq1}
use Rattle.ferat_c.proofs.line.hutsvida_line.Goals as goal

pub returns : goal.returns
returns c =
    let told = ends_are _ _ c.line_start-start.ensures c.line_end.ensures in
    let P = λ (s : Bor (List ℕ)). LineEnds s.now c.args.line (c.line_start-start.result ∷ c.line_end.result ∷ []) in
    elim c.if-file-eq1.branch [
      | then-file-eq1 w ↦ in_formula P _ _ _ w.if-file-eq1.true (rw w.bytes-is at told)
      | else-file-eq1 w ↦ in_certificate P _ _ _ w.if-file-eq1.false (rw w.bytes-is at told)
    ]
