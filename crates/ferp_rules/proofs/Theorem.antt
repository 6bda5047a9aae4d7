-- THE THEOREM: an accepted FERP certificate makes its formula false, whatever the limits and the table lengths.
use mathlib.Core.Path.{◌≡◌, refl}
use mathlib.Core.List.{List}
use Prim.Native.Nat.{ℕ}
use Rattle.rules.specs.Limits.{Limits}
use Rattle.rules.specs.Step.{Read, ended, refused_at}
use Rattle.rules.specs.Falsity.{FalseFile, is_false}
use Rattle.rules.specs.declared.Verdict.TheVariants.{Accepted}
use Rattle.rules.proofs.Kit.{by_no}
use Rattle.rules.proofs.Theorem.{refused_not, both_false}
use Rattle.ferp_rules.specs.Lines.{Derived, read_ferp}
use Rattle.ferp_rules.specs.Verdict.{of_ferp, ferp_check}
use Rattle.ferp_rules.proofs.Sound.{ferp_sound}

ferp_ended : (r : Read Derived) → (of_ferp r).report.verdict ≡ Accepted → (s : Derived) × (r ≡ ended s)
ferp_ended (ended s) h = (s, refl)
ferp_ended (refused_at n line s) h = absurd (refused_not n 2 line h)

pub ferp_accepted_false : (limits : Limits) (formula certificate : List ℕ)
    → (ferp_check limits formula certificate).report.verdict ≡ Accepted → FalseFile formula
unfolding ferp_check
ferp_accepted_false limits formula certificate h =
    both_false limits formula certificate (λ f. of_ferp (read_ferp limits f certificate))
    (λ f formed accepted play.
    let c = ferp_ended (read_ferp limits f certificate) accepted in
    by_no (is_false f) λ e. ferp_sound limits f formed (play e) certificate c.0 c.1)
    h
