-- Laws of what was written: one piece after another. Assumes nothing.
use mathlib.Core.Path.{◌≡◌, sym, ap, ◌∙◌}
use mathlib.Core.List.{List, [], ◌++◌, append_assoc, append-nil}
use Prim.Native.Nat.{ℕ, ◌+◌}
use native.Mathlib.Omega.{arith}
use lib.ListN.{length, length-append}
use Rattle.report.specs.declared.Line.{Line}
use Rattle.report.specs.Written.{Adds, text_of}

pub adds_none : (l : Line) → Adds l [] l
adds_none l = record { next = omega arith; text = sym (append-nil (text_of l)) }

pub adds_then : {l m n : Line} {bs cs : List ℕ} → Adds l bs m → Adds m cs n → Adds l (bs ++ cs) n
adds_then {l} {bs = bs} {cs = cs} f g = record {
  next = omega (arith, f.next, g.next, length-append bs cs);
  text = g.text ∙ ap (λ t. t ++ cs) f.text ∙ append_assoc (text_of l) bs cs;
}

pub adds_as : {l m : Line} {bs cs : List ℕ} → bs ≡ cs → Adds l bs m → Adds l cs m
adds_as {l} e f = record { next = f.next ∙ ap (λ b. l.end + length b) e; text = f.text ∙ ap (λ b. text_of l ++ b) e }
