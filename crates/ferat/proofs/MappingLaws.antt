-- Laws of the mapping line: crate mapping's answer is the rules' step. Assumes nothing.
use mathlib.Core.Path.{◌≡◌, refl, ap, ap₂, sym, ◌∙◌, subst}
use mathlib.Core.Bool.{Bool, ◌&&◌}
use mathlib.Core.List.{List}
use mathlib.Core.Option.{none, some}
use Prim.Native.Nat.{ℕ}
use native.Mathlib.Omega.{arith}
use lib.ListN.{length}
use Rattle.std.specs.Prelude.{Result, Ok, Err, Some, None}
use Rattle.rules.specs.declared.Rule.{Rule}
use Rattle.rules.specs.declared.Rule.TheVariants.{Malformed}
use Rattle.std.specs.Prelude as prelude
use Rattle.std.specs.List.{list_all as all}
use Rattle.lines.specs.Scan.{tokens_from}
use Rattle.lists.specs.declared.MappingLists.{MappingLists}
use Rattle.lists.specs.Lists.{lits_at, mapping_at}
use Rattle.lists.proofs.FormLaws.{MapsAs, maps}
use Rattle.rules.specs.Literals.{Lits, vars}
use Rattle.rules.specs.Formula.{Formula}
use Rattle.rules.specs.Forms.{CertificateLine, mapping, mapping_form}
use Rattle.rules.specs.Needs.{fits, line_needs, together}
use Rattle.rules.specs.Limits.{allows}
use Rattle.rules.specs.FormulaLines.{up_to_v}
use Rattle.rules.specs.Expansion.{mapping_rules}
use Rattle.rules.specs.Step as rules
use Rattle.rules.specs.Step.{◌unless◌, ◌then◌, refuse_in}
use Rattle.rules.specs.CertificateLines.{State, needing, in_sequence, in_range, kind_rules, accept, judge}
use Rattle.tables.specs.Tables.{Tables, lengths_of}
use Rattle.mapping.specs.declared.Mapped.{Mapped}
use Rattle.mapping.specs.MappingLine.{Lent, after, MappingLine}
use Rattle.expansion.proofs.ClauseLaws.{prefix_told}
use Rattle.clauses.specs.Standing.{proof_need, marks_need}
use Rattle.reading.proofs.MappingLaws as reading
use Rattle.reading.proofs.MappingLaws.{lent_of, unwritten, room, mapping_needs, mapping_room, room_kept, MapsBy, maps_step}
use Rattle.progress.specs.declared.Progress.{Progress}
use Rattle.progress.specs.Order.{no_hints}
use Rattle.progress.specs.declared.Work.{Work}
use Rattle.progress.specs.Shown.{needs_of, Shown, Light, Stepped, ferat_rules, ferat_code}
use Rattle.progress.proofs.OrderLaws.{order_hints}
use Rattle.ferat.specs.Lines.{judged, Line, mapped_in}
use Rattle.ferat.proofs.ClauseLaws.{judged_none, judged_some}

-- the step that an answer is
abbrev step_of : Progress → Result Mapped Rule → Result Progress Rule
step_of p (Ok m) = Ok (mapped_in p m)
step_of p (Err k) = Err k

module _ (bs : List ℕ) (at : ℕ) (p : Progress) (t : Tables) (w : Work) (turn : Bool) (q : turn ≡ no_hints p) (r : Result Mapped Rule) (u : Lent)
    (x : MappingLine bs at turn p.formula.v p.mapped t.prefix (lent_of t w.noted) r u) where
  abbrev t₁ : Tables
  t₁ = reading.mapped_in t u

  abbrev noting : List ℕ → Work
  noting noted = record w { noted = noted }

  -- a line of no form
  malformed : mapping_form (tokens_from bs at) ≡ none → Line mapping_form bs at p t w (step_of p r) t₁ (noting u.noted)
  malformed h = record {
    steps = λ f s sh l.
        let e = x.malformed h in
        subst (λ a. Stepped f p (length bs) t (judged mapping_form bs at t f s) (step_of p a) t₁ (noting u.noted)) (sym e.0)
        (subst (λ y. Stepped f p (length bs) t y (Err Malformed) t₁ (noting u.noted)) (sym (judged_none mapping_form bs at t f s h))
        (refl, unwritten t w.noted u s.needs e.1));
  }

  module _ (ps es : List ℕ) (ls : Lits) (h : mapping_form (tokens_from bs at) ≡ some (mapping ps es ls)) {f : Formula} {s : State} (sh : Shown p t w f s)
      (light : Light p (length bs)) where
    abbrev line : CertificateLine
    line = mapping ps es ls

    abbrev m : Mapped
    m = after p.mapped ps es ls

    needed : (needing s line).needs ≡ needs_of (mapped_in p m)
    needed =
        ap (λ y. together y (line_needs line)) sh.needs
        ∙ mapping_needs t p.mapped p.formula.v p.formula.used (proof_need p.store) (marks_need p.store) ps es ls

    room_same : fits (lengths_of t) (needing s line).needs
        ≡ room t p.mapped p.formula.v p.formula.used (proof_need p.store) (marks_need p.store) ps es ls
    room_same =
        ap (fits (lengths_of t)) needed
        ∙ mapping_room t p.mapped p.formula.v p.formula.used (proof_need p.store) (marks_need p.store) ps es ls sh.room

    sequence : in_sequence s line ≡ turn
    unfolding in_sequence
    sequence = sym (q ∙ order_hints sh)

    -- the two stages, by what the code tests
    abbrev judging : Bool → Bool → rules.Step State
    judging a c =
        refuse_in s (2 unless a then 3 unless (all (allows (some 16384)) ps && up_to_v f es && up_to_v f (vars ls)))
        (refuse_in (needing s line) (15 unless c then mapping_rules f s.mapped ps es ls) (rules.next (accept (needing s line) line)))

    kind : MapsBy ferat_rules ferat_code (length bs) p t turn p.formula.v p.mapped w.noted (mapped_in p) noting f s ps es ls (judged mapping_form bs at t f s)
    unfolding judge in_range kind_rules accept
    kind = record {
      mapped = s.mapped;
      needing = needing s line;
      accepted = accept (needing s line) line;
      a = p.formula.v;
      b = p.formula.used;
      d = proof_need p.store;
      e = marks_need p.store;
      judge = judged_some mapping_form bs at t f s h ∙ ap₂ judging sequence room_same;
      needs = needed;
      same = refl;
      before = record {
        told = prefix_told sh.formula;
        highest = sh.formula.highest;
        low = sh.formula.low;
        shown = sh.mapping;
        proper = sh.proper;
        light = omega (arith, light);
      };
      shown = λ u d long wide e. record {
        formula = sh.formula;
        indexed = sh.indexed;
        mapping = d.shown;
        proper = d.proper;
        copies = omega (arith, d.few, sh.copies);
        hints = sh.hints;
        named = sh.named;
        fresh = sh.fresh;
        clauses = sh.clauses;
        filled = sh.filled;
        held = sh.held;
        expansions = sh.expansions;
        additions = sh.additions;
        deletions = sh.deletions;
        needs = needed;
        room = room_kept t u (needs_of (mapped_in p m)) long wide ∙ ap (fits (lengths_of t)) (sym needed) ∙ room_same ∙ e;
      };
      weight = λ g. omega (arith, g);
    }

    stepped : (y : Result Mapped Rule) → r ≡ y → Stepped f p (length bs) t (judged mapping_form bs at t f s) (step_of p y) t₁ (noting u.noted)
    stepped (Ok z) e = maps_step ferat_rules ferat_code kind u refl at (subst (λ y. MappingLine bs at turn p.formula.v p.mapped t.prefix (lent_of t w.noted) y u) e x) h
    stepped (Err k) e = maps_step ferat_rules ferat_code kind u refl at (subst (λ y. MappingLine bs at turn p.formula.v p.mapped t.prefix (lent_of t w.noted) y u) e x) h

  mapping_line : Line mapping_form bs at p t w (step_of p r) t₁ (noting u.noted)
  mapping_line = go (mapping_at bs at) (maps bs at)
    where
      go : (y : prelude.Option MappingLists) → MapsAs bs at y → Line mapping_form bs at p t w (step_of p r) t₁ (noting u.noted)
      go (Some q) o =
          record { steps = λ f s sh z. stepped (vars (lits_at bs at)) (vars (lits_at bs q.existentials_at)) (lits_at bs q.literals_at) o.form sh z r refl }
      go None o = malformed o

  -- the tables are the tables before, with the map and the values written
  pub mapping_refused : {k : Rule} → r ≡ Err k → {z : Tables} → z ≡ t₁ → Line mapping_form bs at p t w (Err k) z (noting u.noted)
  mapping_refused {k} e g =
      subst (λ z. Line mapping_form bs at p t w (Err k) z (noting u.noted)) (sym g)
      (subst (λ a. Line mapping_form bs at p t w (step_of p a) t₁ (noting u.noted)) e mapping_line)

  pub mapping_next : {m : Mapped} → r ≡ Ok m → {z : Tables} → z ≡ t₁ → Line mapping_form bs at p t w (Ok (mapped_in p m)) z (noting u.noted)
  mapping_next {m} e g =
      subst (λ z. Line mapping_form bs at p t w (Ok (mapped_in p m)) z (noting u.noted)) (sym g)
      (subst (λ a. Line mapping_form bs at p t w (step_of p a) t₁ (noting u.noted)) e mapping_line)
