-- What a formula that was read keeps of the rules; limits change no formula that they let through.
use mathlib.Core.Path.{◌≡◌, refl, ap, subst, ◌∙◌}
use mathlib.Core.Bool.{true, ◌&&◌}
use mathlib.Core.List.{List, ◌++◌, map, map-append}
use mathlib.Core.Option.{Option, none, some}
use Prim.Native.Nat.{ℕ, ◌+◌}
use lib.Dec.{eqb, leb}
use lib.ListN.{length}
use Rattle.std.specs.List.{list_all as all}
use Rattle.lines.specs.Lists.{is_empty}
use Rattle.lines.specs.Lines.{lines_of}
use Rattle.rules.specs.Basics.{is_in, distinct}
use Rattle.rules.specs.Literals.{Lits, vars}
use Rattle.rules.specs.Formula.{Formula, Bound, bound_var, bound}
use Rattle.rules.specs.Forms.{FormulaLine, problem, binding, clause, formula_line}
use Rattle.rules.specs.Needs.{formula_needs}
use Rattle.rules.specs.Limits.{Limits, allows, has_room, set_aside}
use Rattle.rules.specs.Step.{◌unless◌, ◌then◌, next, ended, refuse_in, judge_file, judge_bytes}
use Rattle.rules.specs.FormulaLines.{blank, with_bound, with_clause, up_to_v, judge_formula, formula_end, read_formula}
use Rattle.rules.specs.Falsity.{formula_read, formula_of}
use Rattle.rules.proofs.Kit.{eqb_eq, either}
use Rattle.rules.proofs.Steps.{unless_none, then_none, next_same, refused, refuse_next, refuse_none, lines_keep, lines_same, bytes_next, bytes_same}
use Rattle.rules.proofs.Distinct.{distinct_swap}

-- what the rules 4 and 6 leave of a formula
pub record Formed (f : Formula) : Type 0 where
  pub once : distinct (bound f) ≡ true
  pub counted : length f.matrix ≡ f.count

abbrev Once : Option Formula → Type 0
Once none = Unit {0}
Once (some f) = distinct (bound f) ≡ true

-- the rules of a clause line other than 15
abbrev clause_rules : Formula → Lits → Option ℕ
clause_rules f c = 5 unless all (is_in (bound f)) (vars c) then 6 unless leb (length f.matrix + 1) f.count

module _ (limits : Limits) where
  -- what an accepted line of each kind tells
  problem_next : (v c : ℕ) (s : Option Formula) → judge_formula limits none (problem v c) ≡ next s → some (blank v c) ≡ s
  unfolding judge_formula
  problem_next v c s h =
      let room = 15 unless has_room limits.lengths (formula_needs (blank v c)) in
      let r = refuse_next none (3 unless (allows limits.highest v && allows limits.clauses c))
      (refuse_in (some (blank v c)) room (next (some (blank v c)))) s h in
      next_same (refuse_next (some (blank v c)) room (next (some (blank v c))) s r.1).1

  binding_next : (f : Formula) (bs : List Bound) (s : Option Formula) → judge_formula limits (some f) (binding bs) ≡ next s
      → (distinct (map bound_var bs ++ bound f) ≡ true) × (some (with_bound f bs) ≡ s)
  unfolding judge_formula
  binding_next f bs s h =
      let four = 4 unless distinct (map bound_var bs ++ bound f) in
      let three = 3 unless up_to_v f (map bound_var bs) in
      let two = 2 unless is_empty f.matrix in
      let r = refuse_next (some f) (two then three then four) (next (some (with_bound f bs))) s h in (
        unless_none 4 (distinct (map bound_var bs ++ bound f)) (then_none three four (then_none two (three then four) r.0).1).1,
        next_same r.1,
      )

  clause_next : (f : Formula) (c : Lits) (s : Option Formula) → judge_formula limits (some f) (clause c) ≡ next s
      → (3 unless up_to_v f (vars c) ≡ none) × (clause_rules f c ≡ none) × (some (with_clause f c) ≡ s)
  unfolding judge_formula
  clause_next f c s h =
      let room = 15 unless has_room limits.lengths (formula_needs (with_clause f c)) in
      let g = some (with_clause f c) in
      let r = refuse_next (some f) (3 unless up_to_v f (vars c)) (refuse_in g (room then clause_rules f c) (next g)) s h in
      let q = refuse_next g (room then clause_rules f c) (next g) s r.1 in
      (r.0, (then_none room (clause_rules f c) q.0).1, next_same q.1)

  -- no line binds a variable twice
  judge_once : (s : Option Formula) (line : FormulaLine) (s' : Option Formula) → judge_formula limits s line ≡ next s' → Once s → Once s'
  unfolding judge_formula
  judge_once none (problem v c) s' h p = subst Once {x = some (blank v c)} (problem_next v c s' h) refl
  judge_once none (binding bs) s' h p = absurd (refused h)
  judge_once none (clause c) s' h p = absurd (refused h)
  judge_once (some f) (problem v c) s' h p = absurd (refused h)
  judge_once (some f) (binding bs) s' h p =
      let r = binding_next f bs s' h in
      subst Once {x = some (with_bound f bs)} r.1
      (ap distinct (map-append bound_var f.prefix bs) ∙ distinct_swap (map bound_var bs) (bound f) r.0)
  judge_once (some f) (clause c) s' h p = subst Once {x = some (with_clause f c)} (clause_next f c s' h).2 p

  bytes_once : (s : Option Formula) (bs : List ℕ) (s' : Option Formula) → judge_bytes formula_line (judge_formula limits) s bs ≡ next s'
      → Once s → Once s'
  bytes_once s bs s' h p =
      either
      (λ e. subst Once e p)
      (λ j. judge_once s j.1 s' j.3 p)
      (bytes_next formula_line (judge_formula limits) s bs s' h)

  pub read_formed : (bs : List ℕ) (f : Formula) → read_formula limits bs ≡ ended (some f) → Formed f
  unfolding read_formula judge_file formula_end
  read_formed bs f h =
      let k = lines_keep (judge_bytes formula_line (judge_formula limits)) formula_end Once bytes_once 1 (lines_of bs) none (some f) h tt in
      record { once = k.0; counted = eqb_eq (length f.matrix) f.count (unless_none 6 (eqb (length f.matrix) f.count) k.1) }

  -- what the limits let through is accepted without them
  judge_aside : (s : Option Formula) (line : FormulaLine) (s' : Option Formula) → judge_formula limits s line ≡ next s'
      → judge_formula set_aside s line ≡ next s'
  unfolding judge_formula
  judge_aside none (problem v c) s' h = ap next (problem_next v c s' h)
  judge_aside none (binding bs) s' h = h
  judge_aside none (clause c) s' h = h
  judge_aside (some f) (problem v c) s' h = h
  judge_aside (some f) (binding bs) s' h = h
  judge_aside (some f) (clause c) s' h =
      let r = clause_next f c s' h in
      let g = some (with_clause f c) in
      refuse_none (some f) (3 unless up_to_v f (vars c)) (refuse_in g (clause_rules f c) (next g)) r.0
      ∙ refuse_none g (clause_rules f c) (next g) r.1
      ∙ ap next r.2

  pub read_aside : (bs : List ℕ) (s : Option Formula) → read_formula limits bs ≡ ended s → read_formula set_aside bs ≡ ended s
  unfolding read_formula judge_file formula_end
  read_aside bs s h =
      lines_same
      (judge_bytes formula_line (judge_formula limits))
      formula_end
      (judge_bytes formula_line (judge_formula set_aside))
      (bytes_same formula_line (judge_formula limits) (judge_formula set_aside) judge_aside)
      1 (lines_of bs) none s h

  -- a formula read under limits is the formula of its file
  pub read_same : (bs : List ℕ) (f : Formula) → read_formula limits bs ≡ ended (some f) → formula_of bs ≡ some f
  unfolding formula_of
  read_same bs f h = ap formula_read (read_aside bs (some f) h)
