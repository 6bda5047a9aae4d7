-- Laws of a line's start and end. Assumes nothing.
use mathlib.Core.Path.{◌≡◌, refl, ap, sym, ◌∙◌}
use mathlib.Core.List.{List, [], ◌∷◌}
use Prim.Native.Nat.{ℕ, ◌+◌, ◌-◌, ◌≤◌}
use native.Mathlib.Omega.{arith}
use lib.ListN.{length, drop, length-drop}
use lib.Seq.{length-take-le}
use Rattle.lines.specs.Lines.{line_at}
use Rattle.lines.specs.declared.Run.TheVariants.{Line}
use Rattle.lines.specs.Scan.{passes, run}
use Rattle.lines.specs.Parts.{line_start}
use Rattle.lines.proofs.Runs.{line_within}
use Rattle.lines.proofs.Parts.{start_within, part_is}
use Rattle.ferat_c.specs.Ends.{LineEnds}

pub ends_are : (s : List ℕ) (line : ℕ) {start end : ℕ} → start ≡ line_start line s → end ≡ start + run (passes Line) (drop start s) → LineEnds s line (start ∷ end ∷ [])
ends_are s line {start} {end} p q =
    let bytes = part_is line s p q in
    let w : end ≤ length s = line_within s start q (omega (arith, p, start_within line s)) in
    let n : length (line_at line s) ≡ end - start = ap length (sym bytes) ∙ length-take-le (end - start) (drop start s) (omega (arith, length-drop start s, w)) in
    record { start = start; end = end; written = refl; from = p; to = omega (arith, n, q); bytes = bytes }
