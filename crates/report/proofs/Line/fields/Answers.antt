use native.Mathlib.Omega.{arith}
use Rattle.report.specs.Written.{after_commas}
use Rattle.report.proofs.Numerals.{numeral_short}
use Rattle.report.proofs.Writing.{adds_none, adds_then, adds_as}
use Rattle.report.proofs.FieldsLaw.{after_next}
use Rattle.report.proofs.Line.fields.Goals as goal

pub loop-n-init : goal.loop-n-init
unfolding after_commas
loop-n-init c = (omega arith, adds_none _)

pub decimal-requires : goal.decimal-requires
decimal-requires c = omega (arith, numeral_short _ c.type_inv.n.fits, c.requires, c.loop-n.invariant.0, c.add.ensures.next)

pub loop-n-preserved : goal.loop-n-preserved
loop-n-preserved c = (
  omega (arith, numeral_short _ (c.type_inv.fields c.loop-n.n-index).fits, c.loop-n.invariant.0, c.add.ensures.next, c.decimal.ensures.next),
  adds_as (after_next _ c.loop-n.n-index c.loop-n-test.true) (adds_then c.loop-n.invariant.1 (adds_then c.add.ensures c.decimal.ensures)),
)
