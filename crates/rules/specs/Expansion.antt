-- Mapping and expansion. Assumes nothing.
use Rattle.std.specs.Prelude.{Bool, true, false, ◌&&◌, List, [], ◌∷◌, ◌++◌, map, ℕ, eqb}
use Rattle.std.proofs.Math.Option.{Option}
use Rattle.std.specs.List.{list_all as all, list_any as any, filter as keep}
use Rattle.rules.specs.Basics.{distinct}
use Rattle.rules.specs.Literals.{pos, neg, Lits, var, vars, negate, over, holds, same_set}
use Rattle.rules.specs.Formula.{Formula, bound, universal, existential, depends_on}
use Rattle.rules.specs.Step.{◌unless◌, ◌then◌}

-- "copy Pi stands for existential Ei under the annotation {L1..Lm}"
pub record Copy : Type 0 where
  pub copy : ℕ
  pub stands_for : ℕ
  pub under : Lits

abbrev pub copies : List ℕ → List ℕ → Lits → List Copy
copies [] es ls = []
copies (p ∷ ps) [] ls = []
copies (p ∷ ps) (e ∷ es) ls = record { copy = p; stands_for = e; under = ls } ∷ copies ps es ls

abbrev pub copy_vars : List Copy → List ℕ
copy_vars m = map (λ (c : Copy). c.copy) m

abbrev pub is_mapped : List Copy → ℕ → Bool
is_mapped m p = any (λ (c : Copy). eqb p c.copy) m

-- the existential and the annotation of a mapped copy
abbrev pub stands_for : List Copy → ℕ → ℕ
stands_for [] p = 0
stands_for (c ∷ m) p = elim (eqb p c.copy) [ true ↦ c.stands_for | false ↦ stands_for m p ]

abbrev pub annotation : List Copy → ℕ → Lits
annotation [] p = []
annotation (c ∷ m) p = elim (eqb p c.copy) [ true ↦ c.under | false ↦ annotation m p ]

-- "an assignment t (a set of universal literals, never both signs of one variable)": every one over these variables
abbrev pub assignments_over : List ℕ → List Lits
assignments_over [] = [] ∷ []
assignments_over (v ∷ vs) =
    assignments_over vs ++ map (λ t. pos v ∷ t) (assignments_over vs) ++ map (λ t. neg v ∷ t) (assignments_over vs)

module _ (f : Formula) where
  -- "Each L is a literal of a universal variable left of every E of the line, and no variable comes twice among the L."
  abbrev pub good_annotation : List ℕ → Lits → Bool
  good_annotation es ls =
      all (λ l. universal f (var l) && all (λ e. depends_on f e (var l)) es) ls && distinct (vars ls)

  -- THE RULES OF A MAPPING LINE, after the copies m. "P mapped before, also in its own line"; "E not existential, or an L breaks its rule"
  unfoldable pub mapping_rules : List Copy → List ℕ → List ℕ → Lits → Option ℕ
  mapping_rules m ps es ls =
      7 unless distinct (ps ++ copy_vars m)  -- mapped twice
      then 8 unless (all (existential f) es && good_annotation es ls)  -- bad annotation

  abbrev pub universals : Lits → Lits
  universals c = keep (λ l. universal f (var l)) c

  abbrev pub existentials : Lits → Lits
  existentials c = keep (λ l. existential f (var l)) c

  -- "the part of t over universals left of its existential"
  abbrev pub part : ℕ → Lits → Lits
  part e t = keep (λ l. depends_on f e (var l)) t

  abbrev pub assignments : List Lits
  assignments = assignments_over (keep (universal f) (bound f))

  -- "every universal literal of clause n is false in t"
  abbrev pub falsifies : Lits → Lits → Bool
  falsifies t clause = all (λ l. holds t (negate l)) (universals clause)

  module _ (m : List Copy) where
    -- "the line's literals, each with its copy replaced by the copy's existential and its sign kept, are as a set exactly the
    -- clause's existential literals"
    abbrev pub same_literals : Lits → Lits → Bool
    same_literals line clause = same_set (map (over (stands_for m)) line) (existentials clause)

    -- "each copy's annotation equals the part of t over universals left of its existential"
    abbrev pub annotated_by : Lits → ℕ → Bool
    annotated_by t p = same_set (annotation m p) (part (stands_for m p) t)

    -- t makes the line an expansion of the clause
    unfoldable pub expands_by : Lits → Lits → Lits → Bool
    expands_by line clause t = falsifies t clause && same_literals line clause && all (annotated_by t) (vars line)

    -- "`e` literals `0` is an expansion of matrix clause n if an assignment t .. exists such that"
    unfoldable pub expands : Lits → Lits → Bool
    expands line clause = any (expands_by line clause) assignments
