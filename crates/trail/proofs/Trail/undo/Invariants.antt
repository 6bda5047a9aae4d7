use Prim.Native.Nat.{◌≤◌}
use mathlib.Core.Path.{◌≡◌}
use Rattle.trail.specs.Trail.{Undone, TrailedIn}
use Rattle.trail.proofs.Trail.undo.Given as goal

abbrev pub invariant-loop-k : goal.invariant-loop-k
invariant-loop-k l = (l.k ≤ 65536) × (l.self.literals ≡ l.initial.self.literals)
    × (TrailedIn l.initial.self → (l.base ≤ l.initial.self.length) → (l.base ≤ l.k) × Undone l.initial.self.falses l.initial.self.literals l.k l.self.falses)
