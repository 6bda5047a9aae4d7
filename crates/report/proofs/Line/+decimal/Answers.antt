use mathlib.Core.Path.{refl}
use native.Mathlib.Omega.{arith}
use Rattle.report.proofs.Numerals.{numeral_one, numeral_more, numeral_longer, one_long}
use Rattle.report.proofs.Writing.{adds_as, adds_then}
use Rattle.report.proofs.Line.+decimal.Goals.{then-n-gt9, else-n-gt9}
use Rattle.report.proofs.Line.+decimal.Goals as goal

pub decimal-requires : goal.decimal-requires
decimal-requires t c = (omega (arith, c.decreases), omega (arith, c.requires, numeral_longer c.args.n c.if-n-gt9.true))

pub add-requires : goal.add-requires
add-requires t c = elim c.if-n-gt9.branch [
  | then-n-gt9 w ↦ rw w.self-is (omega (arith, c.requires, w.decimal.ensures.next, numeral_longer c.args.n w.if-n-gt9.true))
  | else-n-gt9 w ↦ rw w.self-is (omega (arith, c.requires, one_long c.args.n (omega (arith, w.if-n-gt9.false))))
]

pub returns : goal.returns
returns t c = elim c.if-n-gt9.branch [
  | then-n-gt9 w ↦ adds_as (numeral_more c.args.n w.if-n-gt9.true refl) (adds_then w.decimal.ensures (rw w.self-is at c.add.ensures))
  | else-n-gt9 w ↦ adds_as (numeral_one c.args.n (omega (arith, w.if-n-gt9.false)) (omega (arith, w.if-n-gt9.false))) (rw w.self-is at c.add.ensures)
]
