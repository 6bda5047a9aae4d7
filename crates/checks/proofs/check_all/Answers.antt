use Rattle.std.proofs.Common.{rules, arith, refl, ap, ◌∙◌, length, length-append}
use Rattle.checks.proofs.ListLaws.{going_start, going_more, going_end}
use Rattle.checks.proofs.check_all.Goals as goal

pub loop-k-init : goal.loop-k-init
loop-k-init c = rw (c.into_iter-k-iterator.ensures.into_iter_gives, c.enumerate-k-items.ensures.source, c.enumerate-k-items.ensures.count, c.chunks_exact.ensures.rest, c.chunks_exact.ensures.size)
    (record { size = refl; left = omega arith; going = going_start _ _ _ _ _; lent = search rules })

pub loop-k-preserved : goal.loop-k-preserved
loop-k-preserved c = let s = c.in-Some.ensures.steps in
    let long = s.0.1.1 ∙ c.loop-k.invariant.size in
    record {
      size = s.0.0 ∙ c.loop-k.invariant.size;
      left = omega (arith, c.loop-k.invariant.left, s.2, ap length s.0.1.0, length-append c.in-Some.pair.now, long);
      going = rw s.2 (going_more _ _ _ c.loop-k.from _ c.clamp-middle.result c.clamp-to.result c.in-Some.pair.now s.0.1.0 long c.clamp-middle.ensures
          c.clamp-to.ensures (rw s.1 at c.kind_at.ensures) c.loop-k.invariant.going (rw s.1 at c.check_one.ensures.checked));
      lent = search rules;
    }

pub returns-clause-checked : goal.returns-clause-checked
returns-clause-checked c = let s = c.in-None.ensures.steps in going_end _ _ _ (rw c.loop-k.invariant.size at s.0.1.0) c.loop-k.invariant.going
