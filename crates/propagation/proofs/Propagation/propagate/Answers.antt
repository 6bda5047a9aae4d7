use native.Mathlib.Omega.{arith}
use Rattle.trail.proofs.TrailLaws.{flip_small, assumed_up, never_full}
use Rattle.propagation.proofs.MoveLaws.{moved_refl, moved_unit, read_clash}
use Rattle.propagation.proofs.AnswerLaws.{visited_clash, visited_moved, moved_on, settle_clash, settle_good, scanned_falsified, scanned_unit, scanned_good}
use Rattle.propagation.proofs.Propagation.propagate.Goals as goal

pub returns-in_default : goal.returns-in_default
returns-in_default c = λ r.
    let m = (c.loop.invariant r).0 in
    let v = visited_clash c.in_default.is (c.follow.ensures m.ready) in
    settle_clash m v.0 v.1

pub returns-in-Falsified : goal.returns-in-Falsified
returns-in-Falsified c = λ r.
    let i = (c.loop.invariant r).0 in
    let m = moved_on i (visited_moved c.in-Stable.is (c.follow.ensures i.ready)) in
    let s = scanned_falsified _ c.in-Falsified.is c.scan_all.ensures in
    settle_clash m (moved_refl _ _ _ _ m.ready) (read_clash _ _ _ _ m.ready _ s.1 s.2)

pub returns-in-Closed : goal.returns-in-Closed
returns-in-Closed c = λ r.
    let i = (c.loop.invariant r).0 in
    let m = moved_on i (visited_moved c.in-Stable.is (c.follow.ensures i.ready)) in
    settle_good m (scanned_good _ c.in-Closed.is c.scan_all.ensures m.ready)

pub loop-preserved : goal.loop-preserved
loop-preserved c = λ r.
    let i = c.loop.invariant r in
    let m = visited_moved c.in-Stable.is (c.follow.ensures i.0.ready) in
    let s = scanned_unit _ c.in-Unit.is c.scan_all.ensures in
    let a = c.make_true.ensures m.ready.trailed.shape s.3 in
    let up = assumed_up _ _ _ _ _ _ _ a s.4 in (
      moved_on (moved_on i.0 m) (moved_unit _ _ _ _ m.ready _ s.1 _ s.2 (flip_small _ s.3) _ _ _ a),
      omega (arith, i.1, up.1, m.up),
    )

pub returns : goal.returns
returns c = λ r. let i = c.loop.invariant r in absurd (never_full _ _ _ i.0.ready (omega (arith, i.1)))
