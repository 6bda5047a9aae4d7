-- What a kind of certificate promises of a line and of the end. Assumes nothing.
use Rattle.std.specs.Prelude.{◌≡◌, cond, List, ℕ, eqb, Result}
use Rattle.std.proofs.Math.Option.{Option, none, some}
use Rattle.rules.specs.declared.Rule.{Rule}
use Rattle.rules.specs.Rule.{broken}
use Rattle.rules.specs.Formula.{Formula}
use Rattle.tables.specs.Tables.{Tables}
use Rattle.reading.specs.Lines.{Rules, Code, AnyLine}

-- a number of a rule, 0 for none
abbrev pub numbered : ℕ → Option ℕ
numbered k = cond (eqb k 0) none (some k)

module _ {S P W : Type 0} (R : Rules S) (C : Code S P W) where
  -- ANY LINE: the tables t and the working memory w become u and v, and the step is the rules' step
  abbrev pub LineRead : List ℕ → P → Tables → W → Result P Rule → Tables → W → Type 0
  LineRead bs p t w r u v = AnyLine R C bs p t w r u v

  -- THE END: the rule that the code finds broken is that of the rules
  pub record EndRead (p : P) (t : Tables) (r : Result (Unit {0}) Rule) : Type 0 where
    pub ends : (w : W) (f : Formula) (s : S) → C.Shown p t w f s → R.at_end s ≡ numbered (broken r)
