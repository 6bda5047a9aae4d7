use Prim.Native.Nat.{ℕ, ◌-◌}
use native.Mathlib.Omega.{arith}
use mathlib.Core.Path.{ap}
use mathlib.Core.List.{List}
use lib.ListN.{get_or}
use Rattle.trail.proofs.TrailLaws.{undone_step}
use Rattle.trail.proofs.Trail.undo.Goals as goal

pub loop-k-preserved : goal.loop-k-preserved
loop-k-preserved c = let k = c.loop-k in (
  omega arith,
  k.invariant.1,
  λ t h. let u = k.invariant.2 t h in
      (omega (arith, c.loop-k-test.true), undone_step _ _ _ k.k _ (omega (arith, c.loop-k-test.true)) (ap (λ (x : List ℕ). get_or x (k.k - 1) 0) k.invariant.1) u.1),
)
