use Rattle.std.proofs.Common.{◌≡◌, rules, tests}
use mathlib.Core.Bool.{true, false}
use Rattle.std.proofs.lemmas.Iterator.{first_from_Range}
use Rattle.deletion.specs.Deletions.{list_in, there_at}
use Rattle.deletion.proofs.DeletionLaws.{earliest_is}
use Rattle.deletion.proofs.earliest_in.Goals as goal

pub returns : goal.returns
returns c = λ l.
    let p = there_at (list_in c.args.trail.now) c.args.standing in
    earliest_is _ _ _ _ _ _ (first_from_Range _ _ _ _ (λ i. p i ≡ true) (λ i. p i ≡ false) c.find.ensures.ran (λ x q k. search (rules, tests)) (λ x q k. search (rules, tests)))
