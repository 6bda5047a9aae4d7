-- Laws of a pending clause that stands from now on, with its index. Assumes nothing.
use mathlib.Core.Path.{◌≡◌, refl, ap, ap₂, sym, ◌∙◌, subst}
use mathlib.Core.Bool.{true, false}
use mathlib.Core.List.{List, [], ◌∷◌, ◌++◌}
use Prim.Native.Nat.{ℕ, ◌+◌, ◌%◌, ◌*◌, ◌<◌, ◌≤◌, max}
use native.Mathlib.Omega.{arith}
use lib.ListN.{length, length-append, length-map}
use lib.IntN.{ℤ}
use Rattle.rules.specs.Basics.{is_in, greatest}
use Rattle.rules.specs.Literals.{Lits, vars}
use Rattle.rules.specs.Codes.{code_of}
use Rattle.rules.specs.Formula.{Formula}
use Rattle.rules.specs.Needs.{Places, places, fits, together}
use Rattle.rules.specs.CertificateLines as ferat-lines
use Rattle.rules.specs.CertificateLines.{state}
use Rattle.ferp_rules.specs.Forms.{FerpLine}
use Rattle.ferp_rules.specs.Lines.{Derived, derived, ferp_needs, needing, accept}
use Rattle.tables.specs.Tables.{Tables, tables, lengths_of, KeptAll}
use Rattle.cells.specs.Cells.{Kept}
use Rattle.tables.proofs.Frames.{all_self}
use Rattle.tables.proofs.Rooms.{fits_room, room_fits, places_same}
use Rattle.clauses.specs.Standing.{standing, places_of, literals, proof_need, marks_need, grown, Stood}
use Rattle.clauses.proofs.StandingLaws.{literals_more}
use Rattle.clauses.proofs.StoreLaws.{proof_grown, marks_grown, places_grown, places_marks}
use Rattle.mapping.specs.Shown.{MappingShown}
use Rattle.matrix.specs.Index.{Indexed}
use Rattle.indexes.specs.Shown.{IndexesShown}
use Rattle.indexes.proofs.IndexLaws.{shown_more}
use Rattle.resolvents.specs.Marks.{Clear}
use Rattle.reading.specs.Lines.{Light}
use Rattle.derivations.specs.declared.Progress.{Progress}
use Rattle.derivations.specs.declared.Reason.{Reason}
use Rattle.derivations.specs.declared.Reason.TheVariants.{Clause, Parents}
use Rattle.derivations.specs.declared.Derivation.{Derivation}
use Rattle.derivations.specs.declared.Work.{Work}
use Rattle.derivations.specs.Shown.{Shown, needs_of, weight, ferp_rules, ferp_code}
use Rattle.derivations.specs.Judges.{line_of, Pending, counted_by, stood_in, StandsAs}

-- one line more, as the rules count
abbrev pub expansions_then : Reason → ℕ → ℕ
expansions_then (Clause n) e = e + 1
expansions_then (Parents a b) e = e

abbrev pub additions_then : Reason → ℕ → ℕ
additions_then (Clause n) a = a
additions_then (Parents i j) a = a + 1

-- the tables with other marks
abbrev pub marked : Tables → List ℤ → Tables
marked t marks = tables t.prefix t.matrix t.map t.proof marks t.values

-- THE STATE AFTER the line, whatever the clause follows from
abbrev pub after : Derived → Derivation → Lits → Places → Derived
after s d c needs =
    derived (state s.state.mapped s.state.hinted (s.state.standing ++ (c ∷ [])) (expansions_then d.reason s.state.expansions)
    (additions_then d.reason s.state.additions) s.state.deletions needs) (s.indexes ++ (d.index ∷ []))

-- what is needed with the clause too
abbrev pub needs_with : Progress → Derivation → Places
needs_with p d =
    places p.formula.v p.formula.used p.mapped.used (proof_need p.store + places_of p.store + d.size + 2) (marks_need p.store + 1)
    (max p.mapped.largest d.largest)

needs_of_lem : (reason : Reason) (i : ℕ) (c : Lits) → ferp_needs (line_of i reason c) ≡ places 0 0 0 (length c + 2) 1 (greatest (vars c))
unfolding ferp_needs
needs_of_lem (Clause n) i c = refl
needs_of_lem (Parents a b) i c = refl

-- how many lines of either kind there are then, and the clauses and the indexes, by what the clause follows from
abbrev then : Derived → ℕ → Reason → Lits → Places → Derived
then s i reason c needs =
    derived (state s.state.mapped s.state.hinted (s.state.standing ++ (c ∷ [])) (expansions_then reason s.state.expansions)
    (additions_then reason s.state.additions) s.state.deletions needs) (s.indexes ++ (i ∷ []))

accept_is : (s : Derived) (i : ℕ) (reason : Reason) (c : Lits) → accept s (line_of i reason c) ≡ then s i reason c s.state.needs
unfolding accept ferat-lines.accept
accept_is s i (Clause n) c = refl
accept_is s i (Parents a b) c = refl

module _ {p : Progress} {t : Tables} {w : Work} {f : Formula} {s : Derived} (sh : Shown p t w f s) (d : Derivation) where
  abbrev line : Lits → FerpLine
  line = line_of d.index d.reason

  pub clause_needs_lem : (c : Lits) → d.size ≡ length c → d.largest ≡ greatest (vars c) → (needing s (line c)).state.needs ≡ needs_with p d
  unfolding together
  clause_needs_lem c e g =
      ap₂ together sh.needs (needs_of_lem d.reason d.index c)
      ∙ places_same (omega arith) (omega arith) (omega arith) (omega (arith, e)) (omega arith) (ap (max p.mapped.largest) (sym g))

  pub accepted_as : (c : Lits) → d.size ≡ length c → d.largest ≡ greatest (vars c) → accept (needing s (line c)) (line c) ≡ after s d c (needs_with p d)
  accepted_as c e g = accept_is (needing s (line c)) d.index d.reason c ∙ ap (after s d c) (clause_needs_lem c e g)

  module _ {c : Lits} (o : Pending p t d c) where
    module _ {marks : List ℤ} {indexes : List ℕ} {q : Progress} {k : ℕ} (light : Light ferp_rules ferp_code p k) (more : d.size < k)
        (h : StandsAs p d t.marks w.indexes q marks indexes) where
      small : proof_need (grown p.store d.size) < 1073741824
      small = omega (arith, light, more, proof_grown p.store d.size)

      stood : (q.store ≡ grown p.store d.size) × Stood t.proof t.marks marks p.store d.size
      stood =
          let a = h.stands small (omega (arith, o.marks, marks_grown p.store d.size)) in
          (a.0, a.1 t.proof sh.filled (o.count ∙ sym (length-map c code_of) ∙ ap length (sym o.stored)))

      next : q ≡ stood_in p d (grown p.store d.size)
      next = h.next ∙ ap (stood_in p d) stood.0

      pub stood_kept : KeptAll (needs_with p d) t (marked t marks)
      stood_kept =
          let a = all_self (needs_with p d) t in
          let e : marks_need (grown p.store d.size) ≡ marks_need p.store + 1 = marks_grown p.store d.size in
          record {
            prefix = a.prefix;
            matrix = a.matrix;
            map = a.map;
            proof = a.proof;
            marks = subst (λ z. Kept z t.marks marks) e stood.1.kept;
            values = a.values;
          }

      needs_are : needs_of (stood_in p d (grown p.store d.size)) ≡ needs_with p d
      needs_are =
          places_same refl refl refl (omega (arith, proof_grown p.store d.size, places_grown p.store d.size)) (marks_grown p.store d.size) refl

      room_then : fits (lengths_of (marked t marks)) (needs_with p d) ≡ true
      room_then =
          let r = fits_room (lengths_of t) (needs_of p) sh.room in
          room_fits (lengths_of (marked t marks)) (needs_with p d) record {
            prefix = r.prefix;
            matrix = r.matrix;
            map = r.map;
            proof = o.proof;
            marks = omega (arith, o.marks, stood.1.kept.long);
            values = o.values;
          }

      counts_are : (e a x : ℕ) → p.counts.expansions ≡ e → p.counts.additions ≡ a → p.counts.deletions ≡ x
          → ((counted_by d.reason p.counts).expansions ≡ expansions_then d.reason e) × ((counted_by d.reason p.counts).additions ≡ additions_then d.reason a)
          × ((counted_by d.reason p.counts).deletions ≡ x)
      counts_are e a x g h j = by d.reason
        where
          by : (r : Reason) → ((counted_by r p.counts).expansions ≡ expansions_then r e) × ((counted_by r p.counts).additions ≡ additions_then r a)
              × ((counted_by r p.counts).deletions ≡ x)
          by (Clause _) = (omega (arith, g, light), h, j)
          by (Parents _ _) = (g, omega (arith, h, light), j)

      -- in a working memory of which no more than the indexes and the marks of the tests changed
      pub stood_shown : d.index ≤ 65536 → is_in s.indexes d.index ≡ false → {v : Work} → v.starts ≡ w.starts → v.noted ≡ w.noted → v.indexes ≡ indexes
          → Clear v.seen → Shown q (marked t marks) v f (after s d c (needs_with p d))
      stood_shown l new {v} starts_same noted_same indexes_are clear =
          subst (λ r. Shown r (marked t marks) v f (after s d c (needs_with p d))) (sym next) record {
            formula = sh.formula;
            indexed = subst (λ z. Indexed z f) (sym starts_same) sh.indexed;
            mapping = subst (λ z. MappingShown t.map t.values z p.mapped.used s.state.mapped) (sym noted_same) sh.mapping;
            proper = sh.proper;
            copies = omega (arith, sh.copies, o.range);
            clauses =
                ap literals (stood.1.standing_then ∙ ap (λ l. standing t.proof t.marks (places_of p.store) ++ (l ∷ [])) o.stored)
                ∙ literals_more (standing t.proof t.marks (places_of p.store)) c ∙ ap (λ S. S ++ (c ∷ [])) sh.clauses;
            filled = stood.1.filled;
            count = omega (arith, places_grown p.store d.size, sh.count, length-append s.indexes (d.index ∷ []));
            paired = omega (arith, sh.paired, length-append s.indexes (d.index ∷ []), length-append s.state.standing (c ∷ []));
            indexes =
                subst (λ a. IndexesShown a (s.indexes ++ (d.index ∷ []))) (sym (indexes_are ∙ h.index))
                (shown_more sh.indexes d.index l new (places_of p.store % 1073741824) (omega (arith, sh.count, light, places_marks p.store)));
            clear = clear;
            expansions = (counts_are s.state.expansions s.state.additions s.state.deletions sh.expansions sh.additions sh.deletions).0;
            additions = (counts_are s.state.expansions s.state.additions s.state.deletions sh.expansions sh.additions sh.deletions).1;
            deletions = (counts_are s.state.expansions s.state.additions s.state.deletions sh.expansions sh.additions sh.deletions).2;
            needs = sym needs_are;
            room = ap (fits (lengths_of (marked t marks))) needs_are ∙ room_then;
          }

      low : weight (stood_in p d (grown p.store d.size)) ≤ weight p + 3 * k
      low = by d.reason
        where
          by : (r : Reason) → weight (stood_in p (record d { reason = r }) (grown p.store d.size)) ≤ weight p + 3 * k
          by (Clause _) = omega (arith, light, more, proof_grown p.store d.size, marks_grown p.store d.size)
          by (Parents _ _) = omega (arith, light, more, proof_grown p.store d.size, marks_grown p.store d.size)

      pub stood_weight : weight q ≤ weight p + 3 * k
      stood_weight = subst (λ r. weight r ≤ weight p + 3 * k) (sym next) low
