-- The certificate's lines. Assumes nothing.
use Rattle.std.specs.Prelude.{Bool, true, false, ◌&&◌, ◌||◌, List, [], ◌∷◌, ◌++◌, ℕ, ◌+◌, ◌-◌, eqb, leb, ltb, length, get_or}
use Rattle.std.proofs.Math.Option.{Option, none, some}
use Rattle.std.specs.List.{list_all as all, list_any as any}
use Rattle.lines.specs.Lists.{is_empty}
use Rattle.rules.specs.Basics.{without_first, maybe}
use Rattle.rules.specs.Literals.{Lits, vars, same_set}
use Rattle.rules.specs.Formula.{Formula}
use Rattle.rules.specs.Forms.{CertificateLine, mapping, hints, expansion, addition, deletion, certificate_line}
use Rattle.rules.specs.Needs.{Places, formula_needs, line_needs, together}
use Rattle.rules.specs.Limits.{Limits, allows, has_room}
use Rattle.rules.specs.Propagation.{rup, rat}
use Rattle.rules.specs.Expansion.{Copy, copies, is_mapped, mapping_rules, expands}
use Rattle.rules.specs.FormulaLines.{up_to_v}
use Rattle.rules.specs.Step.{Step, next, Read, ◌unless◌, ◌then◌, refuse_in, judge_file, judge_bytes}

-- The state between two lines. "Standing clauses are those of accepted `e` and addition lines, minus deletions", in the order of their lines.
pub record State : Type 0 where
  pub mapped : List Copy
  pub hinted : Option (List ℕ)
  pub standing : List Lits
  pub expansions : ℕ
  pub additions : ℕ
  pub deletions : ℕ
  pub needs : Places

abbrev pub state : List Copy → Option (List ℕ) → List Lits → ℕ → ℕ → ℕ → Places → State
state m h cs e a d n = record { mapped = m; hinted = h; standing = cs; expansions = e; additions = a; deletions = d; needs = n }

abbrev pub start : Formula → State
start f = state [] none [] 0 0 0 (formula_needs f)

-- matrix clause n, "counted from 1"
abbrev pub clause_number : Formula → ℕ → Lits
clause_number f n = get_or f.matrix (n - 1) []

module _ (s : State) where
  -- the state with what a line needs of the tables
  abbrev pub needing : CertificateLine → State
  needing line =
      state s.mapped s.hinted s.standing s.expansions s.additions s.deletions
      (together s.needs (line_needs line))

  -- "in this order: mapping lines, at most one `o` line, `e` lines, then additions and deletions mixed"
  abbrev pub before_additions : Bool
  before_additions = eqb (s.additions + s.deletions) 0

  abbrev pub before_hints : Bool
  before_hints = before_additions && eqb s.expansions 0 && maybe s.hinted true (λ ns. false)

  unfoldable pub in_sequence : CertificateLine → Bool
  in_sequence (mapping ps es ls) = before_hints
  in_sequence (hints ns) = before_hints
  in_sequence (expansion c) = before_additions
  in_sequence (addition c) = true
  in_sequence (deletion c) = true

  -- "hint count: fewer or more hints than `e` lines": the next `e` line has its hint; no hint is left over
  abbrev pub hint_there : Bool
  hint_there = maybe s.hinted true (λ ns. ltb s.expansions (length ns))

  abbrev pub no_hint_left : Bool
  no_hint_left = maybe s.hinted true (λ ns. leb (length ns) s.expansions)

  -- "`o n1..nj 0`, j from 0, gives the i-th `e` line clause ni, counted from 1"; without an `o` line "any clause of the matrix"
  abbrev pub candidates : Formula → List Lits
  candidates f = maybe s.hinted f.matrix (λ ns. clause_number f (get_or ns s.expansions 0) ∷ [])

-- "a copy above its limit; .. E or L above V; a hint above C"
abbrev pub copies_in_range : Limits → List ℕ → Bool
copies_in_range limits ps = all (allows limits.copies) ps

module _ (limits : Limits) (f : Formula) where
  unfoldable pub in_range : CertificateLine → Bool
  in_range (mapping ps es ls) = copies_in_range limits ps && up_to_v f es && up_to_v f (vars ls)
  in_range (hints ns) = all (λ n. leb n f.count) ns
  in_range (expansion c) = copies_in_range limits (vars c)
  in_range (addition c) = copies_in_range limits (vars c)
  in_range (deletion c) = copies_in_range limits (vars c)

-- the rules of each kind of line, from 7 on
unfoldable pub kind_rules : Formula → State → CertificateLine → Option ℕ
kind_rules f s (mapping ps es ls) = mapping_rules f s.mapped ps es ls
kind_rules f s (hints ns) = none
kind_rules f s (expansion c) =
    9 unless all (is_mapped s.mapped) (vars c)  -- unmapped
    then 10 unless hint_there s  -- hint count
    then 11 unless any (expands f s.mapped c) (candidates s f)  -- no expansion
kind_rules f s (addition c) =
    10 unless no_hint_left s  -- hint count
    then 12 unless (rup s.standing c || rat s.standing c)  -- not implied
kind_rules f s (deletion c) =
    10 unless no_hint_left s  -- hint count
    then 13 unless any (same_set c) s.standing  -- nothing to delete

-- the state after an accepted line; "`d` literals `0` removes one standing clause of the same set, the earliest; the others stay"
unfoldable pub accept : State → CertificateLine → State
accept s (mapping ps es ls) =
    state (s.mapped ++ copies ps es ls) s.hinted s.standing s.expansions s.additions s.deletions s.needs
accept s (hints ns) =
    state s.mapped (some ns) s.standing s.expansions s.additions s.deletions s.needs
accept s (expansion c) =
    state s.mapped s.hinted (s.standing ++ (c ∷ [])) (s.expansions + 1) s.additions s.deletions s.needs
accept s (addition c) =
    state s.mapped s.hinted (s.standing ++ (c ∷ [])) s.expansions (s.additions + 1) s.deletions s.needs
accept s (deletion c) =
    state s.mapped s.hinted (without_first (same_set c) s.standing) s.expansions s.additions (s.deletions + 1) s.needs

-- "at a file's end, by rising number too"; "At the end an empty clause must stand."
unfoldable pub certificate_end : State → Option ℕ
certificate_end s = 10 unless no_hint_left s then 14 unless any is_empty s.standing  -- hint count, not closed

module _ (limits : Limits) (f : Formula) where
  -- THE JUDGE OF A LINE. "Within a line: 2, 3, 15, then by rising number"; "A line refused 2 or 3 adds nothing to them."
  unfoldable pub judge : State → CertificateLine → Step State
  judge s line =
      refuse_in s
      (2 unless in_sequence s line  -- malformed: out of sequence
      then 3 unless in_range limits f line)  -- out of range
      (refuse_in (needing s line)
      (15 unless has_room limits.lengths (needing s line).needs  -- table full
      then kind_rules f (needing s line) line)
      (next (accept (needing s line) line)))

  unfoldable pub read_certificate : List ℕ → Read State
  read_certificate bs = judge_file (judge_bytes certificate_line judge) certificate_end bs (start f)
