-- "an expansion of matrix clause n, judged as an `e` line with hint n"
use mathlib.Core.Path.{◌≡◌, refl, ap, ◌∙◌}
use mathlib.Core.Bool.{Bool, true, false, not, ◌||◌}
use mathlib.Core.List.{List}
use mathlib.Core.Option.{some}
use Prim.Native.Nat.{ℕ}
use lib.Dec.{ltb}
use lib.ListN.{length, get_or}
use Rattle.std.specs.List.{list_all as all}
use Rattle.rules.specs.Basics.{is_in}
use Rattle.rules.specs.Literals.{Lits, vars}
use Rattle.rules.specs.Formula.{Formula}
use Rattle.rules.specs.Forms as ferat
use Rattle.rules.specs.Expansion.{is_mapped, expands}
use Rattle.rules.specs.Step.{◌unless◌, ◌then◌}
use Rattle.rules.specs.CertificateLines as ferat-lines
use Rattle.rules.specs.CertificateLines.{State, state, clause_number}
use Rattle.ferp_rules.specs.Forms.{expansion}
use Rattle.ferp_rules.specs.Lines.{Derived, kind_rules}

-- the state with an `o` line's hints
abbrev pub hinting : List ℕ → State → State
hinting ns s = state s.mapped (some ns) s.standing s.expansions s.additions s.deletions s.needs

or_false : (b : Bool) → (b || false) ≡ b
or_false true = refl
or_false false = refl

-- AN EXPANSION IS JUDGED AS AN `e` LINE whose hint is n, once 17 is out
pub as_e_line : (f : Formula) (s : Derived) (i : ℕ) (c : Lits) (n : ℕ) (ns : List ℕ) → is_in s.indexes i ≡ false
    → ltb s.state.expansions (length ns) ≡ true → get_or ns s.state.expansions 0 ≡ n
    → kind_rules f s (expansion i c n) ≡ ferat-lines.kind_rules f (hinting ns s.state) (ferat.expansion c)
unfolding kind_rules ferat-lines.kind_rules
as_e_line f s i c n ns new there is =
    let mapped = 9 unless all (is_mapped s.state.mapped) (vars c) in
    ap (λ b. 17 unless not b then mapped then 11 unless expands f s.state.mapped c (clause_number f n)) new
    ∙ ap (λ k. mapped then 11 unless expands f s.state.mapped c (clause_number f k)) (back is)
    ∙ ap (λ b. mapped then 11 unless b) (back (or_false (expands f s.state.mapped c (clause_number f (get_or ns s.state.expansions 0)))))
    ∙ ap (λ b. mapped then 10 unless b then 11 unless (expands f s.state.mapped c (clause_number f (get_or ns s.state.expansions 0)) || false)) (back there)
  where
    back : {A : Type 0} {x y : A} → x ≡ y → y ≡ x
    back e = cc
