use Rattle.checks.proofs.ListLaws.{one}
use Rattle.checks.proofs.check_one.Goals as goal

pub returns-clause-checked : goal.returns-clause-checked
returns-clause-checked c = one c.args.kind c.args.formula.now c.args.certificate.now c.args.at _ c.check_kind-checked.result c.check_kind-checked.ensures.ran c.map_or-numbers.ensures c.put_numbers.ensures
