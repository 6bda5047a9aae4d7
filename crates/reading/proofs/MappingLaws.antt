-- Laws of a mapping line, whatever the certificate's kind: crate mapping's answer is the rules' step. Assumes nothing.
use mathlib.Core.Path.{◌≡◌, refl, ap, ap₂, sym, ◌∙◌, subst}
use mathlib.Core.Bool.{Bool, true, false, ◌&&◌}
use mathlib.Core.List.{List, ◌++◌}
use mathlib.Core.Option.{Option, none, some}
use Prim.Native.Nat.{ℕ, ◌+◌, ◌*◌, ◌≤◌}
use native.Mathlib.Omega.{arith}
use lib.Dec.{leb}
use lib.ListN.{length}
use borrow.Author.Tests.{leb-true, leb-false}
use Rattle.std.specs.Prelude.{Result, Ok, Err}
use Rattle.rules.specs.declared.Rule.{Rule}
use Rattle.std.specs.List.{list_all as all}
use Rattle.lines.specs.Scan.{tokens_from}
use Rattle.cells.specs.Cells.{Kept}
use Rattle.cells.proofs.Laws.{kept_self}
use Rattle.rules.specs.Literals.{Lits, vars}
use Rattle.rules.specs.Formula.{Formula}
use Rattle.rules.specs.Forms.{mapping, mapping_form}
use Rattle.rules.specs.Needs.{Places, places, fits, line_needs, together}
use Rattle.rules.specs.Limits.{allows}
use Rattle.rules.specs.FormulaLines.{up_to_v}
use Rattle.rules.specs.Expansion.{Copy, copies, mapping_rules}
use Rattle.rules.specs.Step as rules
use Rattle.rules.specs.Step.{◌unless◌, ◌then◌, refuse_in}
use Rattle.tables.specs.Tables.{Tables, tables, lengths_of, KeptAll}
use Rattle.tables.proofs.Frames.{all_self}
use Rattle.tables.proofs.Rooms.{Room, fits_room, room_fits, no_room, places_same}
use Rattle.mapping.specs.declared.Mapped.{Mapped}
use Rattle.mapping.specs.MappingLine as mapping_line
use Rattle.mapping.specs.MappingLine.{Lent, after, refusal, Before, After, Unwritten, MappingLine}
use Rattle.reading.specs.Lines.{Rules, Code, Leads, with_map}

-- what is lent to crate mapping, and the tables with what it gives back
abbrev pub lent_of : Tables → List ℕ → Lent
lent_of t noted = record { map = t.map; values = t.values; noted = noted }

abbrev pub mapped_in : Tables → Lent → Tables
mapped_in t u = tables t.prefix t.matrix u.map t.proof t.marks u.values

-- where only the map and the values were written, the prefix is that before
pub map_same : (t u v : Tables) → v ≡ record u { map = v.map; values = v.values } → with_map t v ≡ record (with_map t u) { map = v.map; values = v.values }
map_same t u v e = ap (λ (x : Tables). record t { prefix = x.prefix; map = v.map; values = v.values }) e

pub map_lent : (t u : Tables) → u ≡ record t { map = u.map; values = u.values } → with_map t u ≡ u
map_lent t u e = map_same t t u e ∙ sym e

pub unwritten : (t : Tables) (noted : List ℕ) (u : Lent) (n : Places) → Unwritten (lent_of t noted) u → KeptAll n t (mapped_in t u)
unwritten t noted u n e = let a = all_self n t in record {
  prefix = a.prefix;
  matrix = a.matrix;
  map = subst (Kept n.map t.map) (sym e.map) (kept_self n.map t.map);
  proof = a.proof;
  marks = a.marks;
  values = subst (Kept n.values t.values) (sym e.values) (kept_self n.values t.values);
}

-- WHAT THE LINE NEEDS, of six needs two new ones
module _ (t : Tables) (m : Mapped) (a b d e : ℕ) (ps es : List ℕ) (ls : Lits) where
  abbrev pub needs_then : Places
  needs_then = places a b (after m ps es ls).used d e (after m ps es ls).largest

  pub mapping_needs : together (places a b m.used d e m.largest) (line_needs (mapping ps es ls)) ≡ needs_then
  unfolding together line_needs
  mapping_needs = places_same (omega arith) (omega arith) (omega arith) (omega arith) (omega arith) refl

  abbrev pub room : Bool
  room = leb (after m ps es ls).used (length t.map) && leb (after m ps es ls).largest (length t.values)

  pub mapping_room : fits (lengths_of t) (places a b m.used d e m.largest) ≡ true → fits (lengths_of t) needs_then ≡ room
  mapping_room h = go (leb (after m ps es ls).used (length t.map)) refl (leb (after m ps es ls).largest (length t.values)) refl
    where
      old : Room (lengths_of t) (places a b m.used d e m.largest)
      old = fits_room (lengths_of t) (places a b m.used d e m.largest) h

      go : (x : Bool) → leb (after m ps es ls).used (length t.map) ≡ x → (y : Bool) → leb (after m ps es ls).largest (length t.values) ≡ y
          → fits (lengths_of t) needs_then ≡ x && y
      go true i true j = room_fits (lengths_of t) needs_then record {
        prefix = old.prefix;
        matrix = old.matrix;
        map = leb-true (after m ps es ls).used (length t.map) i;
        proof = old.proof;
        marks = old.marks;
        values = leb-true (after m ps es ls).largest (length t.values) j;
      }
      go true i false j = no_room (lengths_of t) needs_then (λ z. omega (arith, z.values, leb-false (after m ps es ls).largest (length t.values) j))
      go false i y j = no_room (lengths_of t) needs_then (λ z. omega (arith, z.map, leb-false (after m ps es ls).used (length t.map) i))

-- in tables that keep their lengths
pub room_kept : (t : Tables) (u : Lent) (n : Places) → length u.map ≡ length t.map → length u.values ≡ length t.values
    → fits (lengths_of (mapped_in t u)) n ≡ fits (lengths_of t) n
room_kept t u n e g =
    ap₂ (λ i j. fits (places (length t.prefix) (length t.matrix) i (length t.proof) (length t.marks) j) n) e g

module _ {S P W : Type 0} (R : Rules S) (C : Code S P W) where
  -- WHAT A KIND SAYS of a mapping line: `needing` is its state with what the line needs, `accepted` the one with the line's copies as well; the
  -- code carries m of the mapping and `noted`, and goes on with another m and other marks
  pub record MapsBy (n : ℕ) (p : P) (t : Tables) (turn : Bool) (v : ℕ) (m : Mapped) (noted : List ℕ) (with : Mapped → P) (noting : List ℕ → W) (f : Formula)
      (s : S) (ps es : List ℕ) (ls : Lits) (step : rules.Step S) : Type 0 where
    pub mapped : List Copy
    pub needing : S
    pub accepted : S
    pub a : ℕ
    pub b : ℕ
    pub d : ℕ
    pub e : ℕ
    pub judge
        : step
        ≡ refuse_in s (2 unless turn then 3 unless (all (allows (some 16384)) ps && up_to_v f es && up_to_v f (vars ls)))
        (refuse_in needing (15 unless room t m a b d e ps es ls then mapping_rules f mapped ps es ls) (rules.next accepted))
    pub needs : (R.part needing).needs ≡ needs_then t m a b d e ps es ls
    pub same : (R.part accepted).needs ≡ (R.part needing).needs
    pub before : Before n v m t.prefix (lent_of t noted) f mapped
    pub shown : (u : Lent) → After n m (lent_of t noted) (after m ps es ls) u f (mapped ++ copies ps es ls) → length u.map ≡ length t.map
        → length u.values ≡ length t.values → room t m a b d e ps es ls ≡ true
        → C.Shown (with (after m ps es ls)) (mapped_in t u) (noting u.noted) f accepted
    pub weight : (after m ps es ls).used ≤ m.used + n → C.weight (with (after m ps es ls)) ≤ C.weight p + 3 * n

  -- the code's step
  abbrev pub step_by : (Mapped → P) → Result Mapped Rule → Result P Rule
  step_by with (Ok m) = Ok (with m)
  step_by with (Err k) = Err k

  module _ {n : ℕ} {p : P} {t : Tables} {turn : Bool} {v : ℕ} {m : Mapped} {noted : List ℕ} {with : Mapped → P} {noting : List ℕ → W} {f : Formula} {s : S}
      {ps es : List ℕ} {ls : Lits} {step : rules.Step S} (k : MapsBy n p t turn v m noted with noting f s ps es ls step) (u : Lent) where
    kept : After n m (lent_of t noted) (after m ps es ls) u f (k.mapped ++ copies ps es ls) → KeptAll (R.part k.accepted).needs t (mapped_in t u)
    kept d =
        subst (λ i. KeptAll i t (mapped_in t u)) (sym (k.same ∙ k.needs))
        (let a = all_self (needs_then t m k.a k.b k.d k.e ps es ls) t in record {
          prefix = a.prefix;
          matrix = a.matrix;
          map = d.map;
          proof = a.proof;
          marks = a.marks;
          values = d.values;
        })

    -- the rules' number and the step
    by : (x y z : Bool) (o : Option ℕ) → room t m k.a k.b k.d k.e ps es ls ≡ z → length u.map ≡ length t.map
        → length u.values ≡ length t.values → (r : Result Mapped Rule)
        → mapping_line.Leads n m (lent_of t noted) f (k.mapped ++ copies ps es ls) (after m ps es ls) (2 unless x then 3 unless y then 15 unless z then o) r u
        → Leads R C f p n t (refuse_in s (2 unless x then 3 unless y) (refuse_in k.needing (15 unless z then o) (rules.next k.accepted))) (step_by with r)
        (mapped_in t u) (noting u.noted)
    by false y z o e long wide (Ok q) d = absurd d
    by false y z o e long wide (Err j) d = (d.0, unwritten t noted u (R.part s).needs d.1)
    by true false z o e long wide (Ok q) d = absurd d
    by true false z o e long wide (Err j) d = (d.0, unwritten t noted u (R.part s).needs d.1)
    by true true false o e long wide (Ok q) d = absurd d
    by true true false o e long wide (Err j) d = (d.0, unwritten t noted u (R.part k.needing).needs d.1)
    by true true true (some i) e long wide (Ok q) d = absurd d
    by true true true (some i) e long wide (Err j) d = (d.0, unwritten t noted u (R.part k.needing).needs d.1)
    by true true true none e long wide (Err j) d = absurd d
    by true true true none e long wide (Ok q) d =
        subst (λ q. Leads R C f p n t (rules.next k.accepted) (Ok (with q)) (mapped_in t u) (noting u.noted)) (sym d.0)
        (k.shown u d.1 long wide e, kept d.1, k.weight d.1.grows)

    -- THE LINE'S STEP
    pub maps_step : {bs : List ℕ} → n ≡ length bs → (at : ℕ) {r : Result Mapped Rule} → MappingLine bs at turn v m t.prefix (lent_of t noted) r u
        → mapping_form (tokens_from bs at) ≡ some (mapping ps es ls) → Leads R C f p n t step (step_by with r) (mapped_in t u) (noting u.noted)
    unfolding refusal
    maps_step {bs} g at {r} x h =
        subst (λ y. Leads R C f p n t y (step_by with r) (mapped_in t u) (noting u.noted)) (sym k.judge)
        (by turn (all (allows (some 16384)) ps && up_to_v f es && up_to_v f (vars ls)) (room t m k.a k.b k.d k.e ps es ls)
        (mapping_rules f k.mapped ps es ls) refl x.long x.wide r
        (subst (λ i. mapping_line.Leads i m (lent_of t noted) f (k.mapped ++ copies ps es ls) (after m ps es ls) (refusal turn m (lent_of t noted) f k.mapped ps es ls) r u) (sym g)
        (x.formed ps es ls h f k.mapped (subst (λ i. Before i v m t.prefix (lent_of t noted) f k.mapped) g k.before))))
