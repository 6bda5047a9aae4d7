-- The limits of a clause line, over the progress. Assumes nothing.
use Rattle.std.specs.Prelude.{Bool, cond, ◌&&◌, ℕ, ◌+◌, max, leb}
use Rattle.clauses.specs.Standing.{proof_need, marks_need, places_of}
use Rattle.derivations.specs.declared.Progress.{Progress}
use Rattle.derivations.specs.declared.Reason.{Reason}
use Rattle.derivations.specs.declared.Reason.TheVariants.{Clause, Parents}
use Rattle.derivations.specs.declared.Derivation.{Derivation}

-- "n above C, or an index above 65,536, is refused 3"
abbrev pub reason_in_range : ℕ → Reason → Bool
reason_in_range c (Clause n) = leb n c
reason_in_range c (Parents a b) = leb a 65536 && leb b 65536

unfoldable pub line_in_range : Progress → Derivation → Bool
line_in_range p d = leb d.index 65536 && leb d.largest 16384 && reason_in_range p.formula.c d.reason

-- "A clause line needs its literals plus 2 in the proof table, 1 in marks, and values as an `e` line does."
unfoldable pub has_places : Progress → Derivation → ℕ → ℕ → ℕ → Bool
has_places p d proof marks values =
    leb (proof_need p.store + places_of p.store + d.size + 2) proof && leb (marks_need p.store + 1) marks
    && leb (max p.mapped.largest d.largest) values

-- the first of the rules 3 and 15 that is broken; 0 if none
unfoldable pub limit_broken : Progress → Derivation → ℕ → ℕ → ℕ → ℕ
limit_broken p d proof marks values = cond (line_in_range p d) (cond (has_places p d proof marks values) 0 15) 3
