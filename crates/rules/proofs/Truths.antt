-- The truth of formulas, read recursively, free of any certificate.
use mathlib.Core.Path.{◌≡◌, refl}
use mathlib.Core.Bool.{Bool, true, false, not}
use mathlib.Core.List.{List, [], ◌∷◌, map}
use mathlib.Core.Option.{Option, none, some}
use Prim.Native.Nat.{ℕ}
use native.Mathlib.Omega.{arith}
use Rattle.lines.specs.Bytes.{bytes}
use Rattle.rules.specs.Basics.{maybe}
use Rattle.rules.specs.Formula.{Formula}
use Rattle.rules.specs.Falsity.{FalseFile, formula_of, is_false}
use Rattle.rules.specs.TruthRows.{TruthRow, truth_rows, Reads, AllRead, tested, AllTested, truth_checks}
use Rattle.rules.proofs.Kit.{clear, not_t, not_f}
use Rattle.rules.proofs.FalsityLaw.{decides}

-- the test decides
pub reads : (bs : List ℕ) (b : Bool) → tested bs ≡ some b → Reads b bs
unfolding FalseFile
reads bs b h = read (formula_of bs) refl b h
  where
    read : (o : Option Formula) → formula_of bs ≡ o → (b : Bool) → maybe o none (λ f. some (not (is_false f))) ≡ some b → Reads b bs
    read none e b h = let z : ◌≡◌ {A = ℕ} 0 1 = cc in absurd (omega arith)
    read (some f) e true h = (f, e, λ k. let t : not (is_false f) ≡ true = cc in clear ((decides f).1 k) (not_t (is_false f) t))
    read (some f) e false h = (f, e, let t : not (is_false f) ≡ false = cc in (decides f).0 (not_f (is_false f) t))

all_read : (rs : List TruthRow) → AllTested rs → AllRead rs
unfolding AllTested
all_read [] h = tt
all_read (r ∷ rs) h =
    let a : tested (bytes r.0) ≡ some r.1 = cc in
    let b : map (λ (r : TruthRow). tested (bytes r.0)) rs ≡ map (λ (r : TruthRow). some r.1) rs = cc in
    (reads (bytes r.0) r.1 a, all_read rs b)

-- EVERY ROW READS AS IT SAYS
pub truths : AllRead truth_rows
truths = all_read truth_rows truth_checks
