-- The formula's lines. Assumes nothing.
use Rattle.std.specs.Prelude.{Bool, ◌&&◌, List, [], ◌∷◌, ◌++◌, map, ℕ, ◌+◌, eqb, leb, length}
use Rattle.std.proofs.Math.Option.{Option, none, some}
use Rattle.std.specs.List.{list_all as all}
use Rattle.lines.specs.Lists.{is_empty}
use Rattle.rules.specs.Basics.{is_in, distinct}
use Rattle.rules.specs.Literals.{Lits, vars}
use Rattle.rules.specs.Formula.{Formula, Bound, bound_var, bound}
use Rattle.rules.specs.Forms.{FormulaLine, problem, binding, clause, formula_line}
use Rattle.rules.specs.Needs.{formula_needs}
use Rattle.rules.specs.Limits.{Limits, allows, has_room}
use Rattle.rules.specs.Step.{Step, next, refuse, Read, ◌unless◌, ◌then◌, refuse_in, judge_file, judge_bytes}

-- V and C, with nothing bound and no clause yet
abbrev pub blank : ℕ → ℕ → Formula
blank v c = record { highest = v; count = c; prefix = []; matrix = [] }

abbrev pub with_bound : Formula → List Bound → Formula
with_bound f bs = record { highest = f.highest; count = f.count; prefix = f.prefix ++ bs; matrix = f.matrix }

abbrev pub with_clause : Formula → Lits → Formula
with_clause f c = record { highest = f.highest; count = f.count; prefix = f.prefix; matrix = f.matrix ++ (c ∷ []) }

-- "a formula variable .. above V"
abbrev pub up_to_v : Formula → List ℕ → Bool
up_to_v f vs = all (λ v. leb v f.highest) vs

-- At the end "wrong clause count .. more or fewer than C". With no `p` line there is no formula: `of_formula` of Verdict.
unfoldable pub formula_end : Option Formula → Option ℕ
formula_end none = none
formula_end (some f) = 6 unless eqb (length f.matrix) f.count  -- wrong clause count

module _ (limits : Limits) where
  -- THE JUDGE OF A LINE OF THE FORMULA; none: before the `p` line
  unfoldable pub judge_formula : Option Formula → FormulaLine → Step (Option Formula)
  judge_formula none (problem v c) =
      refuse_in none (3 unless (allows limits.highest v && allows limits.clauses c))  -- out of range
      (refuse_in (some (blank v c)) (15 unless has_room limits.lengths (formula_needs (blank v c)))  -- table full
      (next (some (blank v c))))
  judge_formula none (binding bs) = refuse 2 none  -- malformed: out of sequence
  judge_formula none (clause c) = refuse 2 none  -- malformed: out of sequence
  judge_formula (some f) (problem v c) = refuse 2 (some f)  -- malformed: out of sequence
  judge_formula (some f) (binding bs) =
      refuse_in (some f)
      (2 unless is_empty f.matrix  -- malformed: out of sequence
      then 3 unless up_to_v f (map bound_var bs)  -- out of range
      then 4 unless distinct (map bound_var bs ++ bound f))  -- bound twice
      (next (some (with_bound f bs)))
  judge_formula (some f) (clause c) =
      refuse_in (some f) (3 unless up_to_v f (vars c))  -- out of range
      (refuse_in (some (with_clause f c))
      (15 unless has_room limits.lengths (formula_needs (with_clause f c))  -- table full
      then 5 unless all (is_in (bound f)) (vars c)  -- unbound
      then 6 unless leb (length f.matrix + 1) f.count)  -- wrong clause count
      (next (some (with_clause f c))))

  unfoldable pub read_formula : List ℕ → Read (Option Formula)
  read_formula bs = judge_file (judge_bytes formula_line judge_formula) formula_end bs none
