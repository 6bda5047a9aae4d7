-- Laws of the mapping line: crate mapping's answer is the rules' step. Assumes nothing.
use Rattle.std.specs.Prelude.{Result, Ok, Err, Some, None}
use Rattle.std.specs.Prelude as prelude
use Rattle.rules.specs.declared.Rule.{Rule}
use Rattle.rules.specs.declared.Rule.TheVariants.{Malformed}
use mathlib.Core.Path.{◌≡◌, refl, ap, ap₂, sym, ◌∙◌, subst}
use mathlib.Core.Bool.{Bool, ◌&&◌}
use mathlib.Core.List.{List, [], ◌∷◌}
use mathlib.Core.Option.{none, some}
use Prim.Native.Nat.{ℕ, ◌+◌, suc}
use native.Mathlib.Omega.{arith}
use lib.Dec.{eqb}
use lib.ListN.{length}
use borrow.Author.Tests.{ne_eqb}
use Rattle.std.specs.List.{list_all as all}
use Rattle.lines.specs.Lists.{is_empty}
use Rattle.lines.specs.Scan.{tokens_from}
use Rattle.lists.specs.declared.MappingLists.{MappingLists}
use Rattle.lists.specs.Lists.{lits_at, mapping_at}
use Rattle.lists.proofs.FormLaws.{MapsAs, maps}
use Rattle.rules.specs.Basics.{maybe}
use Rattle.rules.specs.Literals.{Lits, vars}
use Rattle.rules.specs.Formula.{Formula}
use Rattle.rules.specs.Forms as ferat
use Rattle.rules.specs.Forms.{mapping_form, ◌>>=◌}
use Rattle.rules.specs.Needs.{fits, line_needs, together}
use Rattle.rules.specs.Limits.{limits, allows}
use Rattle.rules.specs.FormulaLines.{up_to_v}
use Rattle.rules.specs.Expansion.{mapping_rules}
use Rattle.rules.specs.Step as rules
use Rattle.rules.specs.Step.{◌unless◌, ◌then◌, refuse_in}
use Rattle.rules.specs.CertificateLines as ferat-lines
use Rattle.ferp_rules.specs.Forms.{FerpLine, mapping, same_mapping}
use Rattle.ferp_rules.specs.Lines.{Derived, ferp_needs, needing, in_sequence, in_range, kind_rules, accept, judge}
use Rattle.tables.specs.Tables.{Tables, lengths_of}
use Rattle.mapping.specs.declared.Mapped.{Mapped}
use Rattle.mapping.specs.MappingLine.{Lent, after, MappingLine}
use Rattle.expansion.proofs.ClauseLaws.{prefix_told}
use Rattle.clauses.specs.Standing.{places_of, proof_need, marks_need}
use Rattle.reading.specs.Lines.{Light, Leads}
use Rattle.reading.proofs.MappingLaws as reading
use Rattle.reading.proofs.MappingLaws.{lent_of, unwritten, room, mapping_needs, mapping_room, room_kept, MapsBy, maps_step}
use Rattle.derivations.specs.declared.Progress.{Progress}
use Rattle.derivations.specs.declared.Work.{Work}
use Rattle.derivations.specs.Shown.{needs_of, Shown, ferp_rules, ferp_code}
use Rattle.ferp.specs.Lines.{same_form, no_clause, judged, Line, mapped_in}

-- no clause came before
empty_count : {A : Type 0} (xs : List A) → eqb (length xs) 0 ≡ is_empty xs
empty_count [] = refl
empty_count (x ∷ xs) = ne_eqb (suc (length xs)) 0 (λ e. omega (arith, e))

-- the step that an answer is
abbrev step_of : Progress → Result Mapped Rule → Result Progress Rule
step_of p (Ok m) = Ok (mapped_in p m)
step_of p (Err k) = Err k

module _ (bs : List ℕ) (at : ℕ) (p : Progress) (t : Tables) (w : Work) (turn : Bool) (q : turn ≡ no_clause p) (r : Result Mapped Rule) (u : Lent)
    (x : MappingLine bs at turn p.formula.v p.mapped t.prefix (lent_of t w.noted) r u) where
  abbrev t₁ : Tables
  t₁ = reading.mapped_in t u

  abbrev noting : List ℕ → Work
  noting noted = record w { noted = noted }

  abbrev Steps : Result Mapped Rule → Type 0
  Steps y = (f : Formula) (s : Derived) → Shown p t w f s → Light ferp_rules ferp_code p (length bs)
      → Leads ferp_rules ferp_code f p (length bs) t (judged same_form bs at t f s) (step_of p y) t₁ (noting u.noted)

  -- a line of no form
  malformed : mapping_form (tokens_from bs at) ≡ none → Steps r
  unfolding judged
  malformed h f s sh l =
      let e = x.malformed h in
      subst (λ a. Leads ferp_rules ferp_code f p (length bs) t (judged same_form bs at t f s) (step_of p a) t₁ (noting u.noted)) (sym e.0)
      (subst (λ y. Leads ferp_rules ferp_code f p (length bs) t y (Err Malformed) t₁ (noting u.noted))
      (sym (ap (λ o. maybe (o >>= same_mapping) (rules.refuse 2 s) (judge (limits (lengths_of t)) f s)) h))
      (refl, unwritten t w.noted u s.state.needs e.1))

  module _ (ps es : List ℕ) (ls : Lits) (h : mapping_form (tokens_from bs at) ≡ some (ferat.mapping ps es ls)) {f : Formula} {s : Derived} (sh : Shown p t w f s)
      (light : Light ferp_rules ferp_code p (length bs)) where
    abbrev line : FerpLine
    line = mapping ps es ls

    abbrev m : Mapped
    m = after p.mapped ps es ls

    abbrev proof : ℕ
    proof = proof_need p.store + places_of p.store

    needed : (needing s line).state.needs ≡ needs_of (mapped_in p m)
    unfolding ferp_needs
    needed =
        ap (λ y. together y (line_needs (ferat.mapping ps es ls))) sh.needs
        ∙ mapping_needs t p.mapped p.formula.v p.formula.used proof (marks_need p.store) ps es ls

    room_same : fits (lengths_of t) (needing s line).state.needs ≡ room t p.mapped p.formula.v p.formula.used proof (marks_need p.store) ps es ls
    room_same =
        ap (fits (lengths_of t)) needed
        ∙ mapping_room t p.mapped p.formula.v p.formula.used proof (marks_need p.store) ps es ls sh.room

    sequence : in_sequence s line ≡ turn
    unfolding in_sequence no_clause
    sequence = sym (q ∙ ap (λ z. eqb z 0) sh.count ∙ empty_count s.indexes)

    -- the two stages, by what the code tests
    abbrev judging : Bool → Bool → rules.Step Derived
    judging a c =
        refuse_in s (2 unless a then 3 unless (all (allows (some 16384)) ps && up_to_v f es && up_to_v f (vars ls)))
        (refuse_in (needing s line) (15 unless c then mapping_rules f s.state.mapped ps es ls) (rules.next (accept (needing s line) line)))

    judged_is : judged same_form bs at t f s ≡ judging turn (room t p.mapped p.formula.v p.formula.used proof (marks_need p.store) ps es ls)
    unfolding judged judge in_range kind_rules ferat-lines.in_range
    judged_is =
        ap (λ o. maybe (o >>= same_mapping) (rules.refuse 2 s) (judge (limits (lengths_of t)) f s)) h
        ∙ ap₂ judging sequence room_same

    kind : MapsBy ferp_rules ferp_code (length bs) p t turn p.formula.v p.mapped w.noted (mapped_in p) noting f s ps es ls (judged same_form bs at t f s)
    unfolding accept ferat-lines.accept
    kind = record {
      mapped = s.state.mapped;
      needing = needing s line;
      accepted = accept (needing s line) line;
      a = p.formula.v;
      b = p.formula.used;
      d = proof;
      e = marks_need p.store;
      judge = judged_is;
      needs = needed;
      same = refl;
      before = record {
        told = prefix_told sh.formula;
        highest = sh.formula.highest;
        low = sh.formula.low;
        shown = sh.mapping;
        proper = sh.proper;
        light = omega (arith, light);
      };
      shown = λ u d long wide e. record {
        formula = sh.formula;
        indexed = sh.indexed;
        mapping = d.shown;
        proper = d.proper;
        copies = omega (arith, d.few, sh.copies);
        clauses = sh.clauses;
        filled = sh.filled;
        count = sh.count;
        paired = sh.paired;
        indexes = sh.indexes;
        clear = sh.clear;
        expansions = sh.expansions;
        additions = sh.additions;
        deletions = sh.deletions;
        needs = needed;
        room = room_kept t u (needs_of (mapped_in p m)) long wide ∙ ap (fits (lengths_of t)) (sym needed) ∙ room_same ∙ e;
      };
      weight = λ g. omega (arith, g);
    }

    stepped : (y : Result Mapped Rule) → r ≡ y
        → Leads ferp_rules ferp_code f p (length bs) t (judged same_form bs at t f s) (step_of p y) t₁ (noting u.noted)
    stepped (Ok z) e = maps_step ferp_rules ferp_code kind u refl at (subst (λ y. MappingLine bs at turn p.formula.v p.mapped t.prefix (lent_of t w.noted) y u) e x) h
    stepped (Err k) e = maps_step ferp_rules ferp_code kind u refl at (subst (λ y. MappingLine bs at turn p.formula.v p.mapped t.prefix (lent_of t w.noted) y u) e x) h

  mapping_line : Steps r
  mapping_line = go (mapping_at bs at) (maps bs at)
    where
      go : (y : prelude.Option MappingLists) → MapsAs bs at y → Steps r
      go (Some q) o = λ f s sh z. stepped (vars (lits_at bs at)) (vars (lits_at bs q.existentials_at)) (lits_at bs q.literals_at) o.form sh z r refl
      go None o = malformed o

  -- the tables are the tables before, with the map and the values written
  pub mapping_refused : {k : Rule} → r ≡ Err k → {z : Tables} → z ≡ t₁ → Line same_form bs at p t w (Err k) z (noting u.noted)
  mapping_refused {k} e g =
      subst (λ z. Line same_form bs at p t w (Err k) z (noting u.noted)) (sym g) (record { steps = subst Steps e mapping_line })

  pub mapping_next : {m : Mapped} → r ≡ Ok m → {z : Tables} → z ≡ t₁ → Line same_form bs at p t w (Ok (mapped_in p m)) z (noting u.noted)
  mapping_next {m} e g =
      subst (λ z. Line same_form bs at p t w (Ok (mapped_in p m)) z (noting u.noted)) (sym g) (record { steps = subst Steps e mapping_line })
