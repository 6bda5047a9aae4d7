-- The tests of an `e` line, over the tables and the working memory. Assumes nothing.
use Rattle.std.specs.Prelude.{Bool, cond, List, ℕ, ◌/◌, ℤ}
use Rattle.std.specs.Option.{is_some}
use Rattle.cells.specs.Cells.{code_at}
use Rattle.tables.specs.Tables.{Tables}
use Rattle.unmapped.specs.Copies.{all_mapped}
use Rattle.expansion.specs.Codes.{expands_named, expands_any}
use Rattle.clauses.specs.Standing.{pending, written_at}
use Rattle.progress.specs.declared.Progress.{Progress}
use Rattle.progress.specs.Order.{hint_missing}
use Rattle.progress.specs.declared.Work.{Work}

-- hint number e, counted from 0
unfoldable pub hint_at : List ℤ → ℕ → ℕ
hint_at proof e = code_at proof e / 2

-- the pending clause is an expansion of the clause that its hint names; without hints, of any clause
unfoldable pub fits_at : Progress → Tables → List ℕ → Bool
fits_at p t starts =
    cond (is_some p.hinted)
    (expands_named t.prefix t.values t.map t.proof (written_at p.store) t.matrix starts (hint_at t.proof p.counts.expansions))
    (expands_any t.prefix t.values t.map t.proof (written_at p.store) t.matrix starts p.formula.c)

-- the first of the rules 9, 10 and 11 that it breaks; 0 if none
unfoldable pub rule_broken : Progress → Tables → Work → ℕ
rule_broken p t w =
    cond (all_mapped w.noted (pending t.proof p.store)) (cond (hint_missing p) 10 (cond (fits_at p t w.starts) 0 11)) 9
