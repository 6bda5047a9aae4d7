-- THE ANSWER OF A CLAUSE BY ITS NUMBER, AND OF ANY, IS THE RULES' ANSWER. Assumes nothing.
use mathlib.Core.Path.{◌≡◌, refl, ap, sym, ◌∙◌}
use mathlib.Core.Bool.{Bool, true, false, ◌&&◌, ◌||◌, cond}
use mathlib.Core.List.{List, [], ◌∷◌, map}
use Prim.Native.Nat.{ℕ, suc, ◌+◌, ◌-◌, ◌<◌, ◌≤◌}
use native.Mathlib.Omega.{arith}
use lib.Dec.{leb}
use lib.ListN.{length, get_or}
use lib.IntN.{ℤ}
use borrow.Author.Tests.{leb-true, le-leb}
use Rattle.std.specs.List.{list_all as all, list_any as any}
use Rattle.cells.specs.Cells.{list_at}
use Rattle.prefix.specs.Prefix.{Told}
use Rattle.rules.specs.Basics.{is_in}
use Rattle.rules.specs.Literals.{Lits, vars}
use Rattle.rules.specs.Formula.{Formula, bound}
use Rattle.rules.specs.Codes.{code_of}
use Rattle.rules.specs.Expansion.{Copy, is_mapped, stands_for, annotation, expands}
use Rattle.rules.specs.Least.{Proper}
use Rattle.rules.proofs.Kit.{and_l, and_r, and_i, all_in, in_all_lem}
use Rattle.rules.proofs.Distinct.{is_in_in}
use Rattle.lists.specs.Stores.{place_of, in_range}
use Rattle.lists.proofs.StoreLaws.{all_at, clause_there}
use Rattle.formula.specs.Shown.{FormulaShown}
use Rattle.matrix.specs.Index.{place_at, any_from, Indexed}
use Rattle.copies.specs.Copies.{stands_of, annotation_of}
use Rattle.expansion.specs.Codes.{expands_at, expands_named, expands_any}
use Rattle.expansion.proofs.Laws.{tables_expand}
use Rattle.matrix.proofs.IndexLaws.{place_inside}

-- THE FORMULA IN ITS TABLES
range_more : (v w : ℕ) → v ≤ w → (vs : List ℕ) → in_range v vs ≡ true → in_range w vs ≡ true
range_more v w h vs e =
    in_all_lem (λ x. leb 1 x && leb x w) vs λ x i.
    let a = all_in (λ x. leb 1 x && leb x v) e i in
    let l = leb-true x v (and_r (leb 1 x) (leb x v) a) in
    and_i (leb 1 x) (leb x w) (and_l (leb 1 x) (leb x v) a) (le-leb x w (omega arith))

module _ {v c used : ℕ} {prefix matrix : List ℤ} {f : Formula} (sh : FormulaShown v c used prefix matrix f) where
  pub prefix_told : Told prefix v f
  prefix_told = record {
    shows = sh.shows;
    once = sh.once;
    ranged = λ u h.
        let e = all_in (λ x. leb 1 x && leb x v) sh.ranged (is_in_in (bound f) u h) in
        (leb-true 1 u (and_l (leb 1 u) (leb u v) e), leb-true u v (and_r (leb 1 u) (leb u v) e));
  }

  pub clause_shown : (i : ℕ) → i < length f.matrix → list_at matrix (place_of i f.matrix) ≡ map code_of (get_or f.matrix i [])
  clause_shown =
      clause_there matrix used f.matrix sh.clauses
      (in_all_lem (λ (c : Lits). in_range 16384 (vars c)) f.matrix λ c i.
      range_more v 16384 (let l = sh.low in omega arith) (vars c) (all_in (λ (c : Lits). in_range v (vars c)) sh.variables i))

  clause_closed : (i : ℕ) → i < length f.matrix → all (is_in (bound f)) (vars (get_or f.matrix i [])) ≡ true
  clause_closed i h = all_at (λ (c : Lits). all (is_in (bound f)) (vars c)) [] f.matrix i sh.closed h

-- what the tables say of the mapped copies
abbrev pub CopiesTold : List ℤ → List ℤ → List Copy → Type 0
CopiesTold values table m =
    (q : ℕ) → is_mapped m q ≡ true → (stands_of values table q ≡ stands_for m q) × (annotation_of values table q ≡ map code_of (annotation m q))

module _ {v c used : ℕ} {prefix matrix : List ℤ} {f : Formula} (sh : FormulaShown v c used prefix matrix f) {starts : List ℕ} (ix : Indexed starts f)
    {m : List Copy} (proper : Proper f m) (values table : List ℤ) (copies : CopiesTold values table m)
    (proof : List ℤ) (l : ℕ) (line : Lits) (e : list_at proof l ≡ map code_of line) (mapped : all (is_mapped m) (vars line) ≡ true) where
  abbrev test : ℕ → Bool
  test = expands_at prefix values table proof l matrix

  clause_tested : (i : ℕ) → i < length f.matrix → test (place_of i f.matrix) ≡ expands f m line (get_or f.matrix i [])
  clause_tested i h =
      tables_expand prefix values table proof matrix l (place_of i f.matrix) v f m line (get_or f.matrix i []) record {
        told = prefix_told sh;
        low = sh.low;
        the_line = e;
        the_clause = clause_shown sh i h;
        closed = clause_closed sh i h;
        mapped = mapped;
        stands = λ q j. (copies q (all_in (is_mapped m) mapped j)).0;
        annotated = λ q j. (copies q (all_in (is_mapped m) mapped j)).1;
        proper = proper;
      }

  place_tested : (i : ℕ) → i < length f.matrix → test (place_at starts i) ≡ expands f m line (get_or f.matrix i [])
  place_tested i h =
      let k : i < 8193 = let a = sh.whole in let b = sh.count in let d = sh.few in omega arith in
      ap test (sym (place_inside starts i 0 k) ∙ ix.at i h) ∙ clause_tested i h

  -- THE CLAUSE THAT A HINT NAMES
  pub named_tested : (n : ℕ) → 1 ≤ n → n ≤ length f.matrix
      → expands_named prefix values table proof l matrix starts n ≡ expands f m line (get_or f.matrix (n - 1) [])
  unfolding expands_named
  named_tested n h k = place_tested (n - 1) (omega arith)

  walk_tested : (i : ℕ) (cs : List Lits) → ((j : ℕ) → j < length cs → test (place_at starts (i + j)) ≡ expands f m line (get_or cs j []))
      → any_from test starts i (length cs) ≡ any (expands f m line) cs
  unfolding any_from
  walk_tested i [] h = refl
  walk_tested i (d ∷ cs) h =
      let z : i + 0 ≡ i = omega arith in
      go (test (place_at starts i)) (ap (λ k. test (place_at starts k)) (sym z) ∙ h 0 (omega arith))
      (walk_tested (i + 1) cs (λ j k. let y : i + 1 + j ≡ i + suc j = omega arith in ap (λ k. test (place_at starts k)) y ∙ h (suc j) (omega arith)))
    where
      go : (b : Bool) → b ≡ expands f m line d → any_from test starts (i + 1) (length cs) ≡ any (expands f m line) cs
          → cond b true (any_from test starts (i + 1) (length cs)) ≡ expands f m line d || any (expands f m line) cs
      go true q r = ap (λ b. b || any (expands f m line) cs) q
      go false q r = r ∙ ap (λ b. b || any (expands f m line) cs) q

  -- WITHOUT HINTS: any clause
  pub any_tested : expands_any prefix values table proof l matrix starts c ≡ any (expands f m line) f.matrix
  unfolding expands_any
  any_tested =
      let k : c ≡ length f.matrix = sh.count ∙ sym sh.whole in
      ap (any_from test starts 0) k
      ∙ walk_tested 0 f.matrix (λ j h. let y : 0 + j ≡ j = omega arith in ap (λ k. test (place_at starts k)) y ∙ place_tested j h)
