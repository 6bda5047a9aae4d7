use native.Mathlib.Omega.{arith}
use Rattle.lines.proofs.Walks.{sign_fits, code_fits, plain_told}
use Rattle.lines.proofs.plain_at.Goals as goal

pub overflow_add-s : goal.overflow_add-s
overflow_add-s c = let h = sign_fits c.args.line.now c.past-s.result c.minus_at-sign.ensures {n = 18446744073709551615} (omega (arith, c.well_formed)) (omega arith) in omega arith

pub overflow_mul-v : goal.overflow_mul-v
overflow_mul-v c = let h = code_fits _ c.past-s.result c.minus_at-sign.ensures (c.unsigned_at.ensures _ _ c.in_ok-v.was) in omega arith

pub overflow_add-v : goal.overflow_add-v
overflow_add-v c = let h = code_fits _ c.past-s.result c.minus_at-sign.ensures (c.unsigned_at.ensures _ _ c.in_ok-v.was) in omega arith

pub returns : goal.returns
returns c = plain_told _ _ c.past-s.ensures c.minus_at-sign.ensures (c.unsigned_at.ensures _ _ c.in_ok-v.was) c.then_some.ensures
