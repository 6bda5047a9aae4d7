-- The lines of a FERP certificate. Assumes nothing.
use Rattle.std.specs.Prelude.{Bool, true, false, ◌&&◌, not, List, [], ◌∷◌, ◌++◌, ℕ, ◌+◌, eqb, leb, length}
use Rattle.std.proofs.Math.Option.{Option, none, some}
use Rattle.std.specs.List.{list_all as all, list_any as any}
use Rattle.lines.specs.Lists.{is_empty}
use Rattle.rules.specs.Basics.{is_in, greatest}
use Rattle.rules.specs.Literals.{Lits, vars}
use Rattle.rules.specs.Formula.{Formula}
use Rattle.rules.specs.Forms as ferat
use Rattle.rules.specs.Needs.{Places, places, line_needs, together}
use Rattle.rules.specs.Limits.{Limits, allows, has_room}
use Rattle.rules.specs.Expansion.{is_mapped, mapping_rules, expands}
use Rattle.rules.specs.Step.{Step, next, Read, ◌unless◌, ◌then◌, refuse_in, judge_file, judge_bytes}
use Rattle.rules.specs.CertificateLines as ferat-lines
use Rattle.rules.specs.CertificateLines.{State, state, copies_in_range, clause_number}
use Rattle.ferp_rules.specs.Forms.{FerpLine, mapping, expansion, resolution, ferp_line}
use Rattle.ferp_rules.specs.Resolvent.{derives}

-- The state between two lines: that of a FERAT certificate, whose standing clauses are those derived and whose additions are the
-- resolutions; and the index of each clause, in the same order.
pub record Derived : Type 0 where
  pub state : State
  pub indexes : List ℕ

abbrev pub derived : State → List ℕ → Derived
derived s is = record { state = s; indexes = is }

abbrev pub start : Formula → Derived
start f = derived (ferat-lines.start f) []

-- the clause with this index
abbrev pub clause_of : List ℕ → List Lits → ℕ → Option Lits
clause_of [] cs i = none
clause_of (j ∷ js) [] i = none
clause_of (j ∷ js) (c ∷ cs) i = elim (eqb i j) [ true ↦ some c | false ↦ clause_of js cs i ]

abbrev pub parent : Derived → ℕ → Option Lits
parent s i = clause_of s.indexes s.state.standing i

-- "A clause line needs its literals plus 2 in the proof table, 1 in marks, and values as an `e` line does."
abbrev pub clause_needs : Lits → Places
clause_needs c = places 0 0 0 (length c + 2) 1 (greatest (vars c))

unfoldable pub ferp_needs : FerpLine → Places
ferp_needs (mapping ps es ls) = line_needs (ferat.mapping ps es ls)
ferp_needs (expansion i c n) = clause_needs c
ferp_needs (resolution i c a b) = clause_needs c

abbrev pub needing : Derived → FerpLine → Derived
needing s line =
    derived (state s.state.mapped s.state.hinted s.state.standing s.state.expansions s.state.additions
    s.state.deletions (together s.state.needs (ferp_needs line))) s.indexes

-- "the same mapping lines, then clause lines"
unfoldable pub in_sequence : Derived → FerpLine → Bool
in_sequence s (mapping ps es ls) = is_empty s.indexes
in_sequence s (expansion i c n) = true
in_sequence s (resolution i c a b) = true

module _ (limits : Limits) (f : Formula) where
  -- "n above C, or an index above 65,536, is refused 3"
  unfoldable pub in_range : FerpLine → Bool
  in_range (mapping ps es ls) = ferat-lines.in_range limits f (ferat.mapping ps es ls)
  in_range (expansion i c n) = allows limits.indexes i && copies_in_range limits (vars c) && leb n f.count
  in_range (resolution i c a b) =
      allows limits.indexes i && copies_in_range limits (vars c) && allows limits.indexes a && allows limits.indexes b

-- the rules of each kind of line, after 15: "It refuses a missing parent or a clause that is no resolvent with 16 (bad parent), and an index
-- used before with 17 (index used), 17 first, both directly after 15." "an expansion of matrix clause n, judged as an `e` line with hint n"
unfoldable pub kind_rules : Formula → Derived → FerpLine → Option ℕ
kind_rules f s (mapping ps es ls) = mapping_rules f s.state.mapped ps es ls
kind_rules f s (expansion i c n) =
    17 unless not (is_in s.indexes i)  -- index used
    then 9 unless all (is_mapped s.state.mapped) (vars c)  -- unmapped
    then 11 unless expands f s.state.mapped c (clause_number f n)  -- no expansion
kind_rules f s (resolution i c a b) =
    17 unless not (is_in s.indexes i)  -- index used
    then 16 unless derives c (parent s a) (parent s b)  -- bad parent

-- the state after an accepted line
unfoldable pub accept : Derived → FerpLine → Derived
accept s (mapping ps es ls) = derived (ferat-lines.accept s.state (ferat.mapping ps es ls)) s.indexes
accept s (expansion i c n) = derived (ferat-lines.accept s.state (ferat.expansion c)) (s.indexes ++ (i ∷ []))
accept s (resolution i c a b) = derived (ferat-lines.accept s.state (ferat.addition c)) (s.indexes ++ (i ∷ []))

-- "Acceptance means that an empty clause was derived."
unfoldable pub certificate_end : Derived → Option ℕ
certificate_end s = 14 unless any is_empty s.state.standing  -- not closed

module _ (limits : Limits) (f : Formula) where
  -- THE JUDGE OF A LINE. "Within a line: 2, 3, 15", then 17, 16, and 9 and 11; "A line refused 2 or 3 adds nothing to them."
  unfoldable pub judge : Derived → FerpLine → Step Derived
  judge s line =
      refuse_in s
      (2 unless in_sequence s line  -- malformed: out of sequence
      then 3 unless in_range limits f line)  -- out of range
      (refuse_in (needing s line)
      (15 unless has_room limits.lengths (needing s line).state.needs  -- table full
      then kind_rules f (needing s line) line)
      (next (accept (needing s line) line)))

  unfoldable pub read_ferp : List ℕ → Read Derived
  read_ferp bs = judge_file (judge_bytes ferp_line judge) certificate_end bs (start f)
