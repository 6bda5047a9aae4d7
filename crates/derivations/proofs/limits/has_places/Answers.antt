use mathlib.Core.Path.{ap, ◌∙◌}
use Prim.Native.Nat.{◌-◌}
use Rattle.derivations.proofs.LimitLaws.{places_room, places_values}
use Rattle.derivations.proofs.limits.has_places.Goals as goal

pub returns-then-fits : goal.returns-then-fits
returns-then-fits c =
    places_values _ _ _ _ _ (c.saturating_sub-free.ensures ∙ ap (λ k. k - 1) (c.saturating_sub.ensures ∙ ap (λ k. c.args.proof - k) c.places.ensures)) c.fits.ensures c.if-fits.true c.max.ensures

pub returns-else-fits : goal.returns-else-fits
returns-else-fits c =
    c.if-fits.false ∙ places_room _ _ _ _ _ (c.saturating_sub-free.ensures ∙ ap (λ k. k - 1) (c.saturating_sub.ensures ∙ ap (λ k. c.args.proof - k) c.places.ensures)) c.fits.ensures c.if-fits.false
