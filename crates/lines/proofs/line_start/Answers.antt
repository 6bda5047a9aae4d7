use native.Mathlib.Omega.{arith}
use mathlib.Core.Path.{◌≡◌, subst}
use Prim.Native.Nat.{◌+◌, ◌-◌}
use Rattle.lines.proofs.Parts.{Left, left_zero, left_start, left_found, left_none, left_next}
use Rattle.lines.proofs.line_start.Goals as goal

pub returns-then-line-eq0 : goal.returns-then-line-eq0
returns-then-line-eq0 c = left_zero _ _ c.if-line-eq0.true

pub loop-init : goal.loop-init
loop-init c = left_start _ _ c.if-line-eq0.false

pub returns-then-s-e : goal.returns-then-s-e
returns-then-s-e c = let l = c.loop in left_none _ _ l.at (c.args.line - l.counter) l.invariant c.line_end-e.ensures (omega arith) c.if-s-e.true

pub loop-preserved : goal.loop-preserved
loop-preserved c = let l = c.loop in
    let e : c.args.line - l.counter - 1 ≡ c.args.line - (l.counter + 1) = omega arith in
    subst (Left _ _ _) e (left_next _ _ l.at (c.args.line - l.counter) l.invariant c.line_end-e.ensures (omega arith) c.if-s-e.false)

pub returns : goal.returns
returns c = let l = c.loop in left_found _ _ l.at (c.args.line - l.counter) l.invariant (omega arith)
