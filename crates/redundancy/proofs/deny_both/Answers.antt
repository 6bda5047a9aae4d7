use mathlib.Core.Path.{refl, ap, sym}
use mathlib.Core.List.{◌++◌}
use Rattle.cells.specs.Codes.{codes_left}
use Rattle.redundancy.specs.Additions.{rest_of}
use Rattle.redundancy.proofs.DenyLaws.{denied_as, denied_go, joined}
use Rattle.redundancy.proofs.deny_both.Goals as goal

pub returns-in-Some : goal.returns-in-Some
returns-in-Some c = λ r.
    let d = denied_go _ c.in-Stable.is (c.deny.ensures r) in
    denied_as _ _ _ _ _ _ _ _ _ _ (ap (λ o. codes_left c.args.joined.c ++ rest_of o) (sym c.in-Some.is)) refl
    (joined _ _ _ _ _ _ _ _ d _ _ _ _ (c.deny-in-Some.ensures d.0.ready))
