use mathlib.Core.Path.{refl}
use Rattle.lines.specs.Bytes.{class_of}
use Rattle.lines.proofs.Tables.{table_ranked}
use Rattle.lines.proofs.table.classes.Goals as goal

pub returns : goal.returns
unfolding class_of
returns c = table_ranked _ refl refl
