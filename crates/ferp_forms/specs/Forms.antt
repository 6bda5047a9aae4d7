-- A clause line of a FERP certificate, as the first pass sees it. Assumes nothing.
use Rattle.std.specs.Prelude.{◌≡◌, cond, List, [], ◌∷◌, ℕ, min, length}
use Rattle.std.specs.Prelude.{Option as Answer, None, Some}
use Rattle.std.proofs.Math.Option.{Option, none, some}
use Rattle.std.proofs.lemmas.List.Edits.{sets}
use Rattle.lines.specs.Lines.{Token}
use Rattle.lines.specs.Scan.{cap, tokens_from, end_at, ended_at}
use Rattle.rules.specs.Basics.{maybe}
use Rattle.rules.specs.Literals.{vars}
use Rattle.rules.specs.Forms.{numeral, ◌>>=◌}
use Rattle.lists.specs.Lists.{capped, exactly}
use Rattle.lists.specs.Stores.{codes_at}
use Rattle.ferp_rules.specs.Forms.{FerpLine, mapping, expansion, resolution, derivation_form}
use Rattle.derivations.specs.declared.Reason.{Reason}
use Rattle.derivations.specs.declared.Reason.TheVariants.{Clause, Parents}
use Rattle.derivations.specs.declared.Derivation.{Derivation}

-- "One number n means an expansion of matrix clause n .. Two name earlier lines by index"
abbrev pub reason_in : List ℕ → Option Reason
reason_in [] = none
reason_in (n ∷ []) = some (Clause n)
reason_in (a ∷ b ∷ []) = some (Parents a b)
reason_in (a ∷ b ∷ n ∷ ns) = none

-- "one or two numbers, `0`", which ends the line
unfoldable pub reason_from : List Token → Option Reason
reason_from ts = exactly numeral ts >>= reason_in

-- the numbers at most the cap: above every limit exactly if they are
abbrev pub capped_reason : Reason → Reason
capped_reason (Clause n) = Clause (min cap n)
capped_reason (Parents a b) = Parents (min cap a) (min cap b)

abbrev pub given : Option Reason → Answer Reason
given none = None
given (some r) = Some (capped_reason r)

unfoldable pub reason_at : List ℕ → ℕ → Answer Reason
reason_at bs at = given (reason_from (tokens_from bs at))

-- the line ends there
unfoldable pub closed_at : List ℕ → ℕ → Reason → Answer Reason
closed_at bs at r = cond (ended_at bs at) (Some r) None

-- A CLAUSE LINE, by the form of the rules: what it says, and where its literals start
abbrev pub measured : List ℕ → ℕ → FerpLine → Answer (Derivation × ℕ)
measured bs at (mapping ps es ls) = None
measured bs at (expansion i c n) = Some (record { index = min cap i; reason = Clause (min cap n); size = length c; largest = capped (vars c) }, end_at bs at)
measured bs at (resolution i c a b) =
    Some (record { index = min cap i; reason = Parents (min cap a) (min cap b); size = length c; largest = capped (vars c) }, end_at bs at)

unfoldable pub derivation_at : List ℕ → ℕ → Answer (Derivation × ℕ)
derivation_at bs at = maybe (derivation_form (tokens_from bs at)) None (measured bs at)

-- and the literals' codes are kept in the buffer, as far as it goes
abbrev pub KeptIn : List ℕ → Answer (Derivation × ℕ) → List ℕ → List ℕ → Type 0
KeptIn bs (Some r) b u = u ≡ sets b 0 (codes_at bs r.1)
KeptIn bs None b u = Unit {0}

pub record Derives (bs : List ℕ) (at : ℕ) (b : List ℕ) (r : Answer (Derivation × ℕ)) (u : List ℕ) : Type 0 where
  pub measured : r ≡ derivation_at bs at
  pub kept : KeptIn bs r b u
