-- The rules of a clause line that is stored, over the tables and the working memory. Assumes nothing.
use Rattle.std.specs.Prelude.{◌≡◌, cond, List, ℕ, ℤ, Option, Some, None}
use Rattle.std.specs.Option.{is_some}
use Rattle.tables.specs.Tables.{Tables}
use Rattle.unmapped.specs.Copies.{all_mapped}
use Rattle.expansion.specs.Codes.{expands_named}
use Rattle.clauses.specs.Standing.{pending, written_at, clause_at}
use Rattle.indexes.specs.Shown.{place_at}
use Rattle.resolvents.specs.Marks.{Clear}
use Rattle.resolvents.specs.Resolves.{resolves}
use Rattle.derivations.specs.declared.Progress.{Progress}
use Rattle.derivations.specs.declared.Reason.{Reason}
use Rattle.derivations.specs.declared.Reason.TheVariants.{Clause, Parents}
use Rattle.derivations.specs.declared.Work.{Work}

-- the first of the rules 9 and 11 that an expansion of matrix clause n breaks; 0 if none
unfoldable pub expansion_broken : Progress → ℕ → Tables → Work → ℕ
expansion_broken p n t w =
    cond (all_mapped w.noted (pending t.proof p.store))
    (cond (expands_named t.prefix t.values t.map t.proof (written_at p.store) t.matrix w.starts n) 0 11) 9

-- 16 or 0, by the places of the parents; a missing one has none
abbrev pub by_places : Progress → List ℤ → List ℤ → Option ℕ → Option ℕ → ℕ
by_places p proof marks None y = 16
by_places p proof marks (Some i) None = 16
by_places p proof marks (Some i) (Some j) = cond (resolves (pending proof p.store) (clause_at proof marks i) (clause_at proof marks j)) 0 16

unfoldable pub parents_broken : Progress → ℕ → ℕ → List ℤ → List ℤ → List ℕ → ℕ
parents_broken p a b proof marks indexes = by_places p proof marks (place_at indexes a) (place_at indexes b)

-- where the marks are clear, and they are clear again
abbrev pub ExpansionJudged : Progress → ℕ → Tables → Work → ℕ → List ℕ → Type 0
ExpansionJudged p n t w r seen' = Clear w.seen → (r ≡ expansion_broken p n t w) × Clear seen'

abbrev pub ParentsJudged : Progress → ℕ → ℕ → Tables → Work → ℕ → List ℕ → Type 0
ParentsJudged p a b t w r seen' = Clear w.seen → (r ≡ parents_broken p a b t.proof t.marks w.indexes) × Clear seen'

-- the first of the rules 16, 9 and 11, by what the clause is said to follow from
abbrev pub rule_broken : Progress → Reason → Tables → Work → ℕ
rule_broken p (Clause n) t w = expansion_broken p n t w
rule_broken p (Parents a b) t w = parents_broken p a b t.proof t.marks w.indexes

abbrev pub RuleJudged : Progress → Reason → Tables → Work → ℕ → List ℕ → Type 0
RuleJudged p reason t w r seen' = Clear w.seen → (r ≡ rule_broken p reason t w) × Clear seen'

-- 17 before them
abbrev pub line_broken : Progress → ℕ → Reason → Tables → Work → ℕ
line_broken p i reason t w = cond (is_some (place_at w.indexes i)) 17 (rule_broken p reason t w)
