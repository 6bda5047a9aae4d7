use Rattle.steps.proofs.StandLaws.{stands_then}
use Rattle.steps.proofs.additions.stand.Goals as goal

pub returns : goal.returns
returns c = λ t w o.
    let d = c.standing-standing.ensures in
    stands_then _ _ _ _ _ _ c.max.ensures c.places-place.ensures _ _ c.stand-store.ensures d.proof d.marks d.count _ _ c.attach-followed.ensures o
