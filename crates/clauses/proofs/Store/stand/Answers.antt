use mathlib.Core.Path.{refl}
use Rattle.clauses.proofs.StoreLaws.{stands_now}
use Rattle.clauses.proofs.Store.stand.Goals as goal

pub returns-then-self-marks : goal.returns-then-self-marks
returns-then-self-marks c = λ l m. stands_now _ _ _ _ l m c.put.ensures refl
