use mathlib.Core.Path.{◌≡◌}
use Rattle.lines.specs.Literals.{literals_line, literals_at}
use Rattle.lists.specs.Lists.{is_list}
use Rattle.deletion.specs.Deletions.{ListedIn}
use Rattle.ferat.proofs.DeletionLaws.{Partly}
use Rattle.ferat.proofs.deletion_lines.list_line.Given as goal

abbrev pub invariant-loop-x : goal.invariant-loop-x
invariant-loop-x l =
    record {
      line : literals_line l.x-iterator ≡ l.line;
      list : is_list l.line (literals_at l.x-iterator) ≡ is_list l.line l.at;
      listed : ListedIn l.initial.trail → l.initial.trail.length ≡ 0 → Partly l.line l.at (literals_at l.x-iterator) l.trail;
    }
