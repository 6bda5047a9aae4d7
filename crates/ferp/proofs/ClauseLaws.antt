-- Laws of the clause line. Assumes nothing.
use Rattle.std.specs.Prelude.{Result, Err, Some, None}
use Rattle.std.specs.Prelude.{Option as Answer}
use Rattle.rules.specs.Rule.{number}
use Rattle.rules.specs.declared.Rule.{Rule}
use Rattle.rules.specs.declared.Rule.TheVariants.{Malformed}
use Rattle.rules.proofs.RuleLaws.{number_not_zero}
use mathlib.Core.Path.{◌≡◌, refl, ap, ap₂, sym, ◌∙◌, subst}
use mathlib.Core.Bool.{Bool, true, false, cond, ◌&&◌}
use mathlib.Core.List.{List}
use mathlib.Core.Option.{Option, none, some}
use Prim.Native.Nat.{ℕ, ◌+◌, ◌<◌, ◌≤◌, min, max}
use native.Mathlib.Omega.{arith}
use lib.Dec.{leb}
use lib.ListN.{length}
use lib.IntN.{ℤ}
use borrow.Author.Tests.{leb-true, leb-false, le-leb, lt-leb, eqb-false}
use Rattle.std.specs.List.{list_all as all}
use Rattle.lines.specs.Scan.{cap, tokens_from}
use Rattle.lists.specs.Stores.{ending_at}
use Rattle.lists.specs.Lists.{lits_at}
use Rattle.lists.proofs.ListLaws.{listing_list, all_low, listed_low, listed_high}
use Rattle.lists.proofs.StoreLaws.{ending_good}
use Rattle.rules.specs.Basics.{greatest, maybe}
use Rattle.rules.specs.Literals.{Lits, vars}
use Rattle.rules.specs.Formula.{Formula}
use Rattle.rules.specs.Needs.{places, fits}
use Rattle.rules.specs.Limits.{limits, allows}
use Rattle.rules.specs.Step as rules
use Rattle.rules.specs.Step.{◌unless◌, ◌then◌, refuse_in}
use Rattle.rules.proofs.Kit.{and_l, and_r}
use Rattle.ferp_rules.specs.Forms.{FerpLine, derivation_form}
use Rattle.ferp_rules.specs.Lines.{Derived, needing, in_sequence, in_range, kind_rules, accept, judge}
use Rattle.ferp_rules.proofs.FormLaws.{LineRead, derivation_read}
use Rattle.tables.specs.Tables.{Tables, tables, lengths_of, KeptAll}
use Rattle.tables.proofs.Frames.{all_self}
use Rattle.tables.proofs.Rooms.{Room, fits_room, room_fits, no_room}
use Rattle.clauses.specs.Standing.{literals, places_of, proof_need, marks_need, stored, Pended}
use Rattle.clauses.proofs.StoreLaws.{pended, proof_grown}
use Rattle.cells.proofs.Laws.{kept_later}
use Rattle.buffers.specs.Buffers.{Buffered}
use Rattle.buffers.proofs.BufferLaws.{buffered}
use Rattle.reading.specs.Lines.{Leads}
use Rattle.reading.proofs.LineLaws.{state_of, leads_later, refused_now}
use Rattle.derivations.specs.declared.Progress.{Progress}
use Rattle.derivations.specs.declared.Reason.{Reason}
use Rattle.derivations.specs.declared.Reason.TheVariants.{Clause, Parents}
use Rattle.derivations.specs.declared.Derivation.{Derivation}
use Rattle.derivations.specs.declared.Work.{Work}
use Rattle.derivations.specs.Shown.{needs_of, Shown, ferp_rules, ferp_code}
use Rattle.derivations.specs.Limits.{reason_in_range, line_in_range, has_places, limit_broken}
use Rattle.derivations.specs.Judges.{line_of, kind_judge, Named, Pending, Judges}
use Rattle.derivations.proofs.StandLaws.{needs_with, clause_needs_lem, accepted_as}
use Rattle.ferp_forms.specs.Forms.{capped_reason, derivation_at, KeptIn, Derives}
use Rattle.ferp_forms.proofs.DerivationLaws.{Measured, MeasuredAs, measures}
use Rattle.ferp.specs.Lines.{judged, Line}

-- the rules' answer by the form
module _ (bs : List ℕ) (at : ℕ) (t : Tables) (f : Formula) (s : Derived) where
  judged_by : {o : Option FerpLine} → derivation_form (tokens_from bs at) ≡ o
      → judged derivation_form bs at t f s ≡ maybe o (rules.refuse 2 s) (judge (limits (lengths_of t)) f s)
  unfolding judged
  judged_by e = ap (λ o. maybe o (rules.refuse 2 s) (judge (limits (lengths_of t)) f s)) e

-- a number read below a limit
capped_test : (x l : ℕ) → l < cap → leb x l ≡ leb (min cap x) l
capped_test x l h = go (leb x l) refl
  where
    go : (b : Bool) → leb x l ≡ b → b ≡ leb (min cap x) l
    go true e = let k = leb-true x l e in sym (le-leb (min cap x) l (omega arith))
    go false e = let k = leb-false x l e in sym (lt-leb (min cap x) l (omega arith))

-- the zero of the literals is met in the second pass too
pub literals_ended : (bs : List ℕ) (at : ℕ) {from : ℕ} {d : Derivation} → derivation_at bs at ≡ Some (d, from)
    → {r : Result (Unit {0}) Rule} → r ≡ ending_at bs from → {k : Rule} → r ≡ Err k → ⊥
literals_ended bs at {from = from} h e z =
    let o = subst (MeasuredAs bs at) h (measures bs at) in
    ending_good bs from e z (listing_list bs from o.listing)

module _ (bs : List ℕ) (at : ℕ) (p : Progress) (t : Tables) (w : Work) where
  pub clause_bad : derivation_at bs at ≡ None → (v : Work) → Line derivation_form bs at p t w (Err Malformed) t v
  clause_bad h v = record {
    steps = λ f s sh l.
        refused_now ferp_rules ferp_code f p (length bs) t v Malformed s (judged_by bs at t f s (subst (MeasuredAs bs at) h (measures bs at)));
  }

  module _ {from : ℕ} {d : Derivation} (h : derivation_at bs at ≡ Some (d, from)) where
    o : Measured bs at d from
    o = subst (MeasuredAs bs at) h (measures bs at)

    abbrev c : Lits
    c = lits_at bs from

    abbrev line : FerpLine
    line = line_of o.index o.why c

    module _ {f : Formula} {s : Derived} (sh : Shown p t w f s) where
      -- RULE 3
      copies_test : all (allows (some 16384)) (vars c) ≡ leb d.largest 16384
      copies_test = all_low 16384 (vars c) ∙ go (leb d.largest 16384) refl
        where
          go : (b : Bool) → leb d.largest 16384 ≡ b → leb (greatest (vars c)) 16384 ≡ b
          go true e = le-leb (greatest (vars c)) 16384 (listed_low o.listing (leb-true d.largest 16384 e) (omega arith))
          go false e = lt-leb (greatest (vars c)) 16384 (listed_high o.listing (leb-false d.largest 16384 e))

      index_test : leb o.index 65536 ≡ leb d.index 65536
      index_test = capped_test o.index 65536 (omega arith) ∙ ap (λ z. leb z 65536) (sym o.number)

      range_is : in_range (limits (lengths_of t)) f line ≡ line_in_range p d
      unfolding in_range line_in_range
      range_is = go o.why o.numbers
        where
          go : (why : Reason) → d.reason ≡ capped_reason why
              → in_range (limits (lengths_of t)) f (line_of o.index why c) ≡ leb d.index 65536 && leb d.largest 16384 && reason_in_range p.formula.c d.reason
          go (Clause k) e =
              ap₂ (λ a b. a && b && leb k f.count) index_test copies_test
              ∙ ap (λ z. leb d.index 65536 && leb d.largest 16384 && z)
              (ap (leb k) (sym sh.formula.count) ∙ capped_test k p.formula.c (omega (arith, sh.formula.few))
              ∙ sym (ap (reason_in_range p.formula.c) e))
          go (Parents a b) e =
              ap₂ (λ x y. x && y && leb a 65536 && leb b 65536) index_test copies_test
              ∙ ap₂ (λ x y. leb d.index 65536 && leb d.largest 16384 && x && y) (capped_test a 65536 (omega arith)) (capped_test b 65536 (omega arith))
              ∙ both (leb d.index 65536 && leb d.largest 16384) (leb (min cap a) 65536) (leb (min cap b) 65536)
              ∙ sym (ap (λ r. leb d.index 65536 && leb d.largest 16384 && reason_in_range p.formula.c r) e)
            where
              both : (x y z : Bool) → x && y && z ≡ x && (y && z)
              both true y z = refl
              both false y z = refl

      most : d.largest ≤ 16384 → d.largest ≡ greatest (vars c)
      most l = let k = o.listing.most in omega (arith, k, l)

      needed : d.largest ≤ 16384 → (needing s line).state.needs ≡ needs_with p d
      needed l = clause_needs_lem sh (record d { index = o.index; reason = o.why }) c o.listing.count (most l)

      -- RULE 15
      room_is : fits (lengths_of t) (needs_with p d) ≡ has_places p d (length t.proof) (length t.marks) (length t.values)
      unfolding has_places
      room_is =
          go (leb (proof_need p.store + places_of p.store + d.size + 2) (length t.proof)) refl (leb (marks_need p.store + 1) (length t.marks)) refl
          (leb (max p.mapped.largest d.largest) (length t.values)) refl
        where
          old : Room (lengths_of t) (needs_of p)
          old = fits_room (lengths_of t) (needs_of p) sh.room

          go : (x : Bool) → leb (proof_need p.store + places_of p.store + d.size + 2) (length t.proof) ≡ x
              → (y : Bool) → leb (marks_need p.store + 1) (length t.marks) ≡ y → (z : Bool) → leb (max p.mapped.largest d.largest) (length t.values) ≡ z
              → fits (lengths_of t) (needs_with p d) ≡ x && y && z
          go true i true j true k = room_fits (lengths_of t) (needs_with p d) record {
            prefix = old.prefix;
            matrix = old.matrix;
            map = old.map;
            proof = leb-true (proof_need p.store + places_of p.store + d.size + 2) (length t.proof) i;
            marks = leb-true (marks_need p.store + 1) (length t.marks) j;
            values = leb-true (max p.mapped.largest d.largest) (length t.values) k;
          }
          go true i true j false k =
              no_room (lengths_of t) (needs_with p d) (λ r. omega (arith, r.values, leb-false (max p.mapped.largest d.largest) (length t.values) k))
          go true i false j z k =
              no_room (lengths_of t) (needs_with p d) (λ r. omega (arith, r.marks, leb-false (marks_need p.store + 1) (length t.marks) j))
          go false i y j z k =
              no_room (lengths_of t) (needs_with p d)
              (λ r. omega (arith, r.proof, leb-false (proof_need p.store + places_of p.store + d.size + 2) (length t.proof) i))

      -- the two stages, by what the code tests
      abbrev judging : Bool → Bool → rules.Step Derived
      judging a b =
          refuse_in s (2 unless true then 3 unless a)
          (refuse_in (needing s line) (15 unless b then kind_rules f (needing s line) line) (rules.next (accept (needing s line) line)))

      in_turn : in_sequence s line ≡ true
      unfolding in_sequence
      in_turn = go o.why
        where
          go : (why : Reason) → in_sequence s (line_of o.index why c) ≡ true
          go (Clause k) = refl
          go (Parents a b) = refl

      judged_is : judged derivation_form bs at t f s ≡ judging (line_in_range p d) (fits (lengths_of t) (needing s line).state.needs)
      unfolding judge
      judged_is =
          judged_by bs at t f s o.form
          ∙ ap₂ (λ a b. refuse_in s (2 unless a then 3 unless b) (refuse_in (needing s line) (15 unless fits (lengths_of t) (needing s line).state.needs then kind_rules f (needing s line) line) (rules.next (accept (needing s line) line))))
          in_turn range_is

      low : line_in_range p d ≡ true → d.largest ≤ 16384
      unfolding line_in_range
      low e =
          leb-true d.largest 16384
          (and_r (leb d.index 65536) (leb d.largest 16384) (and_l (leb d.index 65536 && leb d.largest 16384) (reason_in_range p.formula.c d.reason) e))

      -- 3 AND 15
      limit_refused : (k : Rule) → number k ≡ limit_broken p d (length t.proof) (length t.marks) (length t.values) → (v : Work)
          → Leads ferp_rules ferp_code f p (length bs) t (judged derivation_form bs at t f s) (Err k) t v
      unfolding limit_broken
      limit_refused k q v =
          go (line_in_range p d) refl (has_places p d (length t.proof) (length t.marks) (length t.values)) refl
        where
          answered : (a b : Bool) → line_in_range p d ≡ a → has_places p d (length t.proof) (length t.marks) (length t.values) ≡ b
              → number k ≡ cond a (cond b 0 15) 3
          answered a b e g = q ∙ ap₂ (λ x y. cond x (cond y 0 15) 3) e g

          go : (a : Bool) → line_in_range p d ≡ a → (b : Bool) → has_places p d (length t.proof) (length t.marks) (length t.values) ≡ b
              → Leads ferp_rules ferp_code f p (length bs) t (judged derivation_form bs at t f s) (Err k) t v
          go false e b g =
              refused_now ferp_rules ferp_code f p (length bs) t v k s
              (judged_is ∙ ap (λ a. judging a (fits (lengths_of t) (needing s line).state.needs)) e
              ∙ ap (λ n. rules.refuse n s) (sym (answered false b e g)))
          go true e false g =
              refused_now ferp_rules ferp_code f p (length bs) t v k (needing s line)
              (judged_is ∙ ap₂ judging e (ap (fits (lengths_of t)) (needed (low e)) ∙ room_is ∙ g)
              ∙ ap (λ n. rules.refuse n (needing s line)) (sym (answered true false e g)))
          go true e true g = absurd (number_not_zero k (answered true true e g))

    -- NONE IS BROKEN
    passed : 0 ≡ limit_broken p d (length t.proof) (length t.marks) (length t.values)
        → (line_in_range p d ≡ true) × (has_places p d (length t.proof) (length t.marks) (length t.values) ≡ true)
    unfolding limit_broken
    passed q = go (line_in_range p d) (has_places p d (length t.proof) (length t.marks) (length t.values)) (sym q)
      where
        go : (a b : Bool) → ◌≡◌ {A = ℕ} (cond a (cond b 0 15) 3) 0 → (a ≡ true) × (b ≡ true)
        go true true e = (refl, refl)
        go true false e = absurd (omega (arith, e))
        go false b e = absurd (omega (arith, e))

    pub clause_limited : {k : Rule} → number k ≡ limit_broken p d (length t.proof) (length t.marks) (length t.values) → (v : Work)
        → Line derivation_form bs at p t w (Err k) t v
    clause_limited {k} q v = record { steps = λ f s sh l. limit_refused sh k q v }

    -- IT IS STORED
    module _ (q : 0 ≡ limit_broken p d (length t.proof) (length t.marks) (length t.values)) where
      range : line_in_range p d ≡ true
      range = (passed q).0

      numbers : (leb d.index 65536 && leb d.largest 16384 ≡ true) × (reason_in_range p.formula.c d.reason ≡ true)
      unfolding line_in_range
      numbers = (
        and_l (leb d.index 65536 && leb d.largest 16384) (reason_in_range p.formula.c d.reason) range,
        and_r (leb d.index 65536 && leb d.largest 16384) (reason_in_range p.formula.c d.reason) range,
      )

      low_index : d.index ≤ 65536
      low_index = leb-true d.index 65536 (and_l (leb d.index 65536) (leb d.largest 16384) numbers.0)

      low_copies : d.largest ≤ 16384
      low_copies = leb-true d.largest 16384 (and_r (leb d.index 65536) (leb d.largest 16384) numbers.0)

      space : (proof_need p.store + places_of p.store + d.size + 2 ≤ length t.proof) × (marks_need p.store + 1 ≤ length t.marks) × (max p.mapped.largest d.largest ≤ length t.values)
      unfolding has_places
      space =
          let a = leb (proof_need p.store + places_of p.store + d.size + 2) (length t.proof) in
          let b = leb (marks_need p.store + 1) (length t.marks) in
          let e = leb (max p.mapped.largest d.largest) (length t.values) in
          let r = (passed q).1 in
          let x = and_l (a && b) e r in (
            leb-true (proof_need p.store + places_of p.store + d.size + 2) (length t.proof) (and_l a b x),
            leb-true (marks_need p.store + 1) (length t.marks) (and_r a b x),
            leb-true (max p.mapped.largest d.largest) (length t.values) (and_r (a && b) e r),
          )

      same_index : o.index ≡ d.index
      same_index = omega (arith, o.number, low_index)

      same_reason : {f : Formula} {s : Derived} → Shown p t w f s → o.why ≡ d.reason
      same_reason sh = go o.why o.numbers
        where
          within : (r : Reason) → d.reason ≡ r → reason_in_range p.formula.c r ≡ true
          within r e = ap (reason_in_range p.formula.c) (sym e) ∙ numbers.1

          go : (why : Reason) → d.reason ≡ capped_reason why → why ≡ d.reason
          go (Clause k) e =
              let l = leb-true (min cap k) p.formula.c (within (Clause (min cap k)) e) in
              let g : k ≡ min cap k = omega (arith, l, sh.formula.few) in
              ap Clause g ∙ sym e
          go (Parents a b) e =
              let r = within (Parents (min cap a) (min cap b)) e in
              let l = leb-true (min cap a) 65536 (and_l (leb (min cap a) 65536) (leb (min cap b) 65536) r) in
              let h = leb-true (min cap b) 65536 (and_r (leb (min cap a) 65536) (leb (min cap b) 65536) r) in
              let g : a ≡ min cap a = omega (arith, l) in
              let j : b ≡ min cap b = omega (arith, h) in
              ap₂ Parents g j ∙ sym e

      -- the line as it is judged
      same_line : {f : Formula} {s : Derived} → Shown p t w f s → line ≡ line_of d.index d.reason c
      same_line sh = ap₂ (λ a b. line_of a b c) same_index (same_reason sh)

      named : {f : Formula} {s : Derived} → Shown p t w f s → Named f d.index d.reason
      named {f} sh = go d.reason refl (subst LineRead (o.form ∙ ap some (same_line sh)) (derivation_read (tokens_from bs at)))
        where
          within : (r : Reason) → d.reason ≡ r → reason_in_range p.formula.c r ≡ true
          within r e = ap (reason_in_range p.formula.c) (sym e) ∙ numbers.1

          go : (r : Reason) → d.reason ≡ r → LineRead (some (line_of d.index r c)) → Named f d.index r
          go (Clause k) e g = (low_index, omega (arith, eqb-false k 0 g), omega (arith, sh.formula.count, leb-true k p.formula.c (within (Clause k) e)))
          go (Parents a b) e g =
              let r = within (Parents a b) e in
              (low_index, leb-true a 65536 (and_l (leb a 65536) (leb b 65536) r), leb-true b 65536 (and_r (leb a 65536) (leb b 65536) r))

      -- its codes are in the buffer
      pub in_buffer : (b : List ℕ) {r : Answer (Derivation × ℕ)} {u : List ℕ} → Derives bs at b r u → r ≡ Some (d, from) → Buffered bs from d.size u
      in_buffer b {r} {u} x g = buffered bs from b o.listing low_copies (subst (λ y. KeptIn bs y b u) g x.kept)

      module _ (u₁ : List ℤ) (e : u₁ ≡ stored bs from p.store t.proof) where
        abbrev t₁ : Tables
        t₁ = tables t.prefix t.matrix t.map u₁ t.marks t.values

        module _ {f : Formula} {s : Derived} (sh : Shown p t w f s) where
          there : Pended t.proof u₁ t.marks p.store d.size c
          there = pended o.listing t.proof u₁ t.marks p.store low_copies (omega (arith, space.0, proof_grown p.store d.size)) e sh.filled

          same : lengths_of t₁ ≡ lengths_of t
          same = ap (λ x. places (length t.prefix) (length t.matrix) (length t.map) x (length t.marks) (length t.values)) there.kept.long

          stored_shown : {b : List ℕ} → Shown p t₁ (record w { buffer = b }) f s
          stored_shown = record {
            formula = sh.formula;
            indexed = sh.indexed;
            mapping = sh.mapping;
            proper = sh.proper;
            copies = sh.copies;
            clauses = ap literals there.standing_then ∙ sh.clauses;
            filled = there.filled;
            count = sh.count;
            paired = sh.paired;
            indexes = sh.indexes;
            clear = sh.clear;
            expansions = sh.expansions;
            additions = sh.additions;
            deletions = sh.deletions;
            needs = sh.needs;
            room = ap (λ x. fits x (needs_of p)) same ∙ sh.room;
          }

          pending : Pending p t₁ d c
          pending = record {
            stored = there.clause;
            count = o.listing.count;
            most = most sh low_copies;
            range = low_copies;
            proof = omega (arith, space.0, there.kept.long);
            marks = space.1;
            values = space.2;
          }

          kept : KeptAll (needs_with p d) t t₁
          kept = let a = all_self (needs_with p d) t in record {
            prefix = a.prefix;
            matrix = a.matrix;
            map = a.map;
            proof = kept_later there.kept (omega (arith, proof_grown p.store d.size));
            marks = a.marks;
            values = a.values;
          }

          ends : (state_of ferp_rules ferp_code (kind_judge f s (line_of d.index d.reason c))).state.needs ≡ needs_with p d
          ends = go (kind_rules f (needing s (line_of d.index d.reason c)) (line_of d.index d.reason c))
            where
              go : (x : Option ℕ)
                  → (state_of ferp_rules ferp_code (refuse_in (needing s (line_of d.index d.reason c)) x (rules.next (accept (needing s (line_of d.index d.reason c)) (line_of d.index d.reason c))))).state.needs
                  ≡ needs_with p d
              go none = ap (λ (z : Derived). z.state.needs) (accepted_as sh d c o.listing.count (most sh low_copies))
              go (some j) = clause_needs_lem sh d c o.listing.count (most sh low_copies)

          rest : judged derivation_form bs at t f s ≡ kind_judge f s (line_of d.index d.reason c)
          rest =
              judged_is sh
              ∙ ap₂ (judging sh) range (ap (fits (lengths_of t)) (needed sh low_copies) ∙ room_is sh ∙ (passed q).1)
              ∙ ap (kind_judge f s) (same_line sh)

        pub clause_judged : {b : List ℕ} {r : Result Progress Rule} {u : Tables} {v : Work} → Judges d p t₁ (record w { buffer = b }) r u v → Line derivation_form bs at p t w r u v
        clause_judged {b} {r} {u} {v} j = record {
          steps = λ f s sh l.
              subst (λ x. Leads ferp_rules ferp_code f p (length bs) t x r u v) (sym (rest sh))
              (leads_later ferp_rules ferp_code f p (length bs) t t₁ (kind_judge f s (line_of d.index d.reason c)) r u v (needs_with p d) (ends sh) (kept sh)
              (j.steps c (length bs) f s (pending sh) (named sh) (stored_shown sh) l (omega (arith, o.listing.further, o.listing.within))));
        }
