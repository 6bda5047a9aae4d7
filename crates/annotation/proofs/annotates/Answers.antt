use Rattle.std.proofs.Common.{◌≡◌, refl, ap, ◌∙◌, Err, rules}
use Rattle.rules.specs.Rule.{broken}
use Rattle.rules.proofs.RuleLaws.{number_not_zero}
use Rattle.mapped.proofs.NumberLaws.{list_ends}
use Rattle.annotation.proofs.AnnotationLaws.{annotates_1, annotates_2, annotates_3}
use Rattle.annotation.proofs.annotates.Goals as goal

pub returns-in_err-narrowest : goal.returns-in_err-narrowest
returns-in_err-narrowest c = λ y z.
    let r : c.from_residual.result ≡ Err c.in_err-narrowest.field-0.0 = search rules in
    ap broken r ∙ annotates_1 _ _ _ (list_ends _ _ y) _ c.in_err-narrowest.ensures

pub returns-in_err-once : goal.returns-in_err-once
returns-in_err-once c = λ y z.
    let r : c.from_residual-in_err-once.result ≡ Err c.in_err-once.field-0.0 = search rules in
    ap broken r
    ∙ annotates_2 _ _ _ (list_ends _ _ y) _ c.in_ok-narrowest.ensures c.in_err-once.ensures (list_ends _ _ z) (number_not_zero _)

pub returns : goal.returns
returns c = λ y z. annotates_3 _ _ _ (list_ends _ _ y) _ c.in_ok-narrowest.ensures c.in_ok-once.ensures (list_ends _ _ z) refl c.all_under.ensures
