-- A mapping line leads to what the rules say. Assumes nothing.
use mathlib.Core.Path.{◌≡◌, refl, ap, ap₂, sym, ◌∙◌, subst}
use mathlib.Core.Bool.{Bool, true, false, ◌&&◌, false≢true}
use mathlib.Core.List.{List, [], ◌++◌, map}
use mathlib.Core.Option.{Option, none, some}
use Rattle.std.proofs.Common.{Result, Ok, Err}
use Prim.Native.Nat.{ℕ, ◌+◌, ◌*◌, ◌%◌, ◌<◌, ◌≤◌, max}
use native.Mathlib.Omega.{arith}
use lib.ListN.{length, replicate}
use lib.IntN.{ℤ}
use lib.Dec.{leb}
use borrow.Author.Tests.{leb-true, le-leb, lt-leb}
use Rattle.std.proofs.lemmas.Bool.{and_left, and_right}
use Rattle.std.specs.List.{list_all as all}
use Rattle.lines.specs.Scan.{tokens_from}
use Rattle.cells.specs.Cells.{cell_at, list_at, Kept}
use Rattle.cells.proofs.Laws.{stored, kept_chain, kept_later}
use Rattle.prefix.specs.Prefix.{entry}
use Rattle.lists.specs.Lists.{lits_at, is_list}
use Rattle.lists.specs.Stores.{codes_at, puts}
use Rattle.lists.proofs.FormLaws.{Mapped as Lists}
use Rattle.lists.proofs.ListLaws.{listing_list}
use Rattle.lists.proofs.StoreLaws.{Stored, list_in_table}
use Rattle.rules.specs.Basics.{distinct}
use Rattle.rules.specs.Literals.{Lits, vars}
use Rattle.rules.specs.declared.Rule.{Rule}
use Rattle.rules.specs.declared.Rule.TheVariants.{Malformed, OutOfRange, TableFull}
use Rattle.rules.specs.Rule.{number}
use Rattle.rules.proofs.RuleLaws.{number_not_zero}
use Rattle.rules.specs.Formula.{Formula}
use Rattle.rules.specs.Forms.{CertificateLine, mapping, hints, expansion, addition, deletion, mapping_form}
use Rattle.rules.specs.Limits.{allows}
use Rattle.rules.specs.Step.{◌unless◌, ◌then◌}
use Rattle.rules.specs.FormulaLines.{up_to_v}
use Rattle.rules.specs.Codes.{code_of}
use Rattle.rules.specs.Expansion.{Copy, copies, copy_vars, is_mapped, stands_for, annotation, mapping_rules}
use Rattle.rules.proofs.Kit.{and_l, and_r, and_i}
use Rattle.rules.proofs.ProperLaw.{proper_mapping}
use Rattle.mapping.specs.declared.Mapped.{Mapped}
use Rattle.mapped.specs.Numbers.{numbers_at, end_of, ruled}
use Rattle.mapped.specs.Marks.{marking, noting, Notes}
use Rattle.annotation.specs.Annotation.{annotates}
use Rattle.mapping.specs.Stores.{Written, written, copying}
use Rattle.mapping.specs.Shown.{MappingShown}
use Rattle.mapping.specs.MappingLine.{ranged, Lent, after, refusal, Before, After, Unwritten, Leads, MappingLine}
use Rattle.mapped.proofs.NumberLaws.{list_ends, ruled_kept, ruled_broken}
use Rattle.mapped.proofs.MarkLaws.{noted_start}
use Rattle.mapping.proofs.CopyLaws.{copying_kept, Taken, taken_later, apart_distinct, taken_copies}
use Rattle.mapping.proofs.RuleLaws.{ps_long, es_long, ls_long, lists_long, range_rule, few, pass_l, ps_are, es_are, largest_is, ps_range, fresh_are, rules_are, noted_are}

-- WHAT THE TABLES SHOW: of no copy, at the start; and of a mapped one
pub shown_start : (table values : List ℤ) → MappingShown table values (replicate 16385 0) 0 []
shown_start table values = record { noted = noted_start; taken = λ p h. absurd (false≢true h) }

pub shown_copy : {table values : List ℤ} {marks : List ℕ} {used : ℕ} {m : List Copy} → MappingShown table values marks used m → (p : ℕ) → is_mapped m p ≡ true
    → (cell_at table (entry values p) ≡ stands_for m p) × (list_at table (cell_at table (entry values p + 1)) ≡ map code_of (annotation m p))
shown_copy o p h = let c = o.taken p h in (c.stands, c.note)

-- THE NUMBERS OF THE RULES, by their tests
abbrev pub judging : Bool → Bool → Bool → Option ℕ → Option ℕ
judging a b c k = 2 unless a then 3 unless b then 15 unless c then k

pub refusal_by : (turn : Bool) (s : Mapped) (t : Lent) (f : Formula) (m : List Copy) (ps es : List ℕ) (ls : Lits) {x y z : Bool} {k : Option ℕ}
    → turn ≡ x → (all (allows (some 16384)) ps && up_to_v f es && up_to_v f (vars ls)) ≡ y
    → (leb (after s ps es ls).used (length t.map) && leb (after s ps es ls).largest (length t.values)) ≡ z → mapping_rules f m ps es ls ≡ k
    → refusal turn s t f m ps es ls ≡ judging x y z k
unfolding refusal
refusal_by turn s t f m ps es ls {x} {y} {z} {k} a b c d =
    ap₂ (λ x y. judging x y (leb (after s ps es ls).used (length t.map) && leb (after s ps es ls).largest (length t.values)) (mapping_rules f m ps es ls)) a b
    ∙ ap₂ (judging x y) c d

-- the tests of the first pass
pub record Passed (turn range room : Bool) : Type 0 where
  pub sequence : turn ≡ true
  pub in_range : range ≡ true
  pub has_room : room ≡ true

-- the tables as they were, with any marks
abbrev marked_as : Lent → List ℕ → Lent
marked_as t ns = record { map = t.map; values = t.values; noted = ns }

unwritten : (t : Lent) (ns : List ℕ) → Unwritten t (marked_as t ns)
unwritten t ns = record { map = refl; values = refl }

module _ (bs : List ℕ) (at : ℕ) (turn : Bool) (v : ℕ) (s : Mapped) (prefix : List ℤ) (t : Lent) where
  -- NO MAPPING LINE
  pub line_malformed : mapping_form (tokens_from bs at) ≡ none → MappingLine bs at turn v s prefix t (Err Malformed) t
  line_malformed e = record {
    malformed = λ q. (refl, unwritten t t.noted);
    formed = λ ps es ls q. absurd (let x = sym e ∙ q in let z : ◌≡◌ {A = ℕ} 0 1 = cc in omega arith);
    long = refl;
    wide = refl;
  }

  -- what a line of this form leads to
  abbrev Formed : Result Mapped Rule → Lent → CertificateLine → Type 0
  Formed r u (mapping ps es ls) =
      (f : Formula) (m : List Copy) → Before (length bs) v s prefix t f m
      → Leads (length bs) s t f (m ++ copies ps es ls) (after s ps es ls) (refusal turn s t f m ps es ls) r u
  Formed r u (hints ns) = Unit {0}
  Formed r u (expansion c) = Unit {0}
  Formed r u (addition c) = Unit {0}
  Formed r u (deletion c) = Unit {0}

  -- it is enough to know it of the lists that were read
  line_formed : {line : CertificateLine} → mapping_form (tokens_from bs at) ≡ some line → (r : Result Mapped Rule) (u : Lent) → Formed r u line
      → length u.map ≡ length t.map → length u.values ≡ length t.values → MappingLine bs at turn v s prefix t r u
  line_formed {line} e r u h l w = record {
    malformed = λ q. absurd (let x = sym e ∙ q in let z : ◌≡◌ {A = ℕ} 0 1 = cc in omega arith);
    formed = λ ps es ls q. let x = sym e ∙ q in let z : line ≡ mapping ps es ls = cc in subst (Formed r u) z h;
    long = l;
    wide = w;
  }

-- A LINE OF THREE LISTS
module _ {bs : List ℕ} {at k m c e l i h : ℕ} (o : Lists bs at k m c e l i h) (turn : Bool) (v : ℕ) (s : Mapped) (prefix : List ℤ) (t : Lent) where
  abbrev ps : List ℕ
  ps = vars (lits_at bs at)

  abbrev es : List ℕ
  es = vars (lits_at bs i)

  abbrev ls : Lits
  ls = lits_at bs h

  abbrev need : ℕ
  need = s.used % 2147483648 + (2 * k + m + 3)

  abbrev high : ℕ
  high = max s.largest c

  abbrev room_there : Bool
  room_there = leb need (length t.map) && leb high (length t.values)

  abbrev q : Mapped
  q = after s ps es ls

  module _ (f : Formula) (n : List Copy) (b : Before (length bs) v s prefix t f n) where
    abbrev Led : Result Mapped Rule → Lent → Option ℕ → Type 0
    Led r u x = Leads (length bs) s t f (n ++ copies ps es ls) q x r u

    led_by : (r : Result Mapped Rule) (u : Lent) {x y z : Bool} {k : Option ℕ} → turn ≡ x → ranged v c e l ≡ y
        → (leb q.used (length t.map) && leb q.largest (length t.values)) ≡ z → mapping_rules f n ps es ls ≡ k
        → Led r u (judging x y z k) → Led r u (refusal turn s t f n ps es ls)
    led_by r u a d g j z = subst (Led r u) (sym (refusal_by turn s t f n ps es ls a (sym (range_rule o v b.low f b.highest) ∙ d) g j)) z

    used_after : need ≡ q.used
    used_after =
        let w : s.used % 2147483648 ≡ s.used = stored (let x = b.light in omega arith) in
        omega (arith, ps_long o, es_long o, ls_long o)

    largest_after : ranged v c e l ≡ true → high ≡ q.largest
    largest_after range = let x = largest_is o v b.low range in omega arith

    -- rule 15
    room_rule : ranged v c e l ≡ true → room_there ≡ (leb q.used (length t.map) && leb q.largest (length t.values))
    room_rule range = ap₂ (λ a b. leb a (length t.map) && leb b (length t.values)) used_after (largest_after range)

    -- REFUSED by what the first pass tells
    led_turn : turn ≡ false → Led (Err Malformed) t (refusal turn s t f n ps es ls)
    led_turn a = led_by (Err Malformed) t a refl refl refl (refl, unwritten t t.noted)

    led_range : turn ≡ true → ranged v c e l ≡ false → Led (Err OutOfRange) t (refusal turn s t f n ps es ls)
    led_range a b = led_by (Err OutOfRange) t a b refl refl (refl, unwritten t t.noted)

    led_room : turn ≡ true → ranged v c e l ≡ true → room_there ≡ false → Led (Err TableFull) t (refusal turn s t f n ps es ls)
    led_room a b w = led_by (Err TableFull) t a b (sym (room_rule b) ∙ w) refl (refl, unwritten t t.noted)

    -- AFTER the first pass
    module _ (passed : Passed turn (ranged v c e l) room_there) where
      led_late : (r : Result Mapped Rule) (u : Lent) {k : Option ℕ} → mapping_rules f n ps es ls ≡ k → Led r u k → Led r u (refusal turn s t f n ps es ls)
      led_late r u j z = led_by r u passed.sequence passed.in_range (sym (room_rule passed.in_range) ∙ passed.has_room) j z

      -- what is stored
      module _ (fresh : distinct (ps ++ copy_vars n) ≡ true) where
        long : q.used ≤ length t.map
        long = let x = leb-true need (length t.map) (and_l (leb need (length t.map)) (leb high (length t.values)) passed.has_room) in omega (arith, used_after)

        wide : q.largest ≤ length t.values
        wide =
            let x = leb-true high (length t.values) (and_r (leb need (length t.map)) (leb high (length t.values)) passed.has_room) in
            omega (arith, largest_after passed.in_range)

        abbrev table : List ℤ
        table = puts t.map s.used (codes_at bs h)

        abbrev whole : Written
        whole = copying s.used ps es (s.used + m + 1) table t.values

        annotated : Stored t.map table s.used ls
        annotated =
            list_in_table o.annotation.listing t.map table s.used (let x = pass_l o v b.low passed.in_range in let y = b.low in omega arith)
            (let x = long in omega (arith, ls_long o)) refl

        frames : Kept q.used t.map whole.map × Kept q.largest t.values whole.values
        frames =
            let k = copying_kept s.used ps es (s.used + m + 1) table t.values q.used q.largest (omega (arith, ps_long o, es_long o, ls_long o))
            (ps_range o v b.low passed.in_range q.largest (omega (arith, largest_after passed.in_range))) in
            (kept_chain (kept_later annotated.kept (omega arith)) k.0, k.1)

        taken_after : Taken whole.map whole.values q.used (n ++ copies ps es ls)
        taken_after =
            let x = long in
            let y = annotated.kept.long in
            let d = apart_distinct ps n fresh in
            taken_later
            (taken_copies ls s.used ps es (s.used + m + 1) table t.values n
            (taken_later b.shown.taken (omega arith) annotated.before) (sym (ps_long o) ∙ es_long o)
            (ps_range o v b.low passed.in_range (length t.values) (omega (arith, wide, largest_after passed.in_range)))
            (omega (arith, ps_long o, es_long o, ls_long o)) annotated.list (omega (arith, ls_long o)) d.0 d.1)
            (omega (arith, ps_long o, es_long o, ls_long o)) refl

  -- WHAT THE CODE ANSWERS
  pub line_late : turn ≡ false → MappingLine bs at turn v s prefix t (Err Malformed) t
  line_late a = line_formed bs at turn v s prefix t o.form (Err Malformed) t (λ f n b. led_turn f n b a) refl refl

  module _ (a : turn ≡ true) {y : Bool} (r : y ≡ ranged v c e l) where
    pub line_high : y ≡ false → MappingLine bs at turn v s prefix t (Err OutOfRange) t
    line_high b = line_formed bs at turn v s prefix t o.form (Err OutOfRange) t (λ f n g. led_range f n g a (sym r ∙ b)) refl refl

    module _ (b : y ≡ true) where
      no_room : room_there ≡ false → MappingLine bs at turn v s prefix t (Err TableFull) t
      no_room w = line_formed bs at turn v s prefix t o.form (Err TableFull) t (λ f n g. led_room f n g a (sym r ∙ b) w) refl refl

      pub line_long : length t.map < need → MappingLine bs at turn v s prefix t (Err TableFull) t
      line_long w = no_room (and_left (leb need (length t.map)) (leb high (length t.values)) (lt-leb need (length t.map) w))

      module _ {top : ℕ} (g : top ≡ high) where
        pub line_wide : length t.values < top → MappingLine bs at turn v s prefix t (Err TableFull) t
        line_wide w = no_room (and_right (leb need (length t.map)) (leb high (length t.values)) (lt-leb high (length t.values) (omega (arith, w, g))))

        pub line_passed : need ≤ length t.map → top ≤ length t.values → Passed turn (ranged v c e l) room_there
        line_passed w z = record {
          sequence = a;
          in_range = sym r ∙ b;
          has_room = and_i (leb need (length t.map)) (leb high (length t.values)) (le-leb need (length t.map) w) (le-leb high (length t.values) (omega (arith, z, g)));
        }

  module _ (passed : Passed turn (ranged v c e l) room_there) {r : Bool} {noted : List ℕ} (notes : marking r noted ≡ noting (numbers_at bs at) t.noted) where
    rules_as : (f : Formula) (n : List Copy) (b : Before (length bs) v s prefix t f n) {x a y : Bool} → r ≡ x
        → a ≡ annotates (entry prefix) (numbers_at bs i) (numbers_at bs h) → a ≡ y → mapping_rules f n ps es ls ≡ (7 unless x then 8 unless y)
    rules_as f n b d test g =
        rules_are o v b.low passed.in_range b.told b.shown.noted notes b.proper.once test ∙ ap₂ (λ x y. 7 unless x then 8 unless y) d g

    line_7 : (k : Rule) → number k ≡ 7 → r ≡ false → MappingLine bs at turn v s prefix t (Err k) (marked_as t noted)
    line_7 k y d =
        line_formed bs at turn v s prefix t o.form (Err k) (marked_as t noted)
        (λ f n b. led_late f n b passed (Err k) (marked_as t noted) (rules_as f n b d refl refl) (y, unwritten t noted)) refl refl

    module _ (fresh : r ≡ true) {a : Bool} (test : a ≡ annotates (entry prefix) (numbers_at bs i) (numbers_at bs h)) where
      line_8 : (k : Rule) → number k ≡ 8 → a ≡ false → MappingLine bs at turn v s prefix t (Err k) (marked_as t noted)
      line_8 k y d =
          line_formed bs at turn v s prefix t o.form (Err k) (marked_as t noted)
          (λ f n b. led_late f n b passed (Err k) (marked_as t noted) (rules_as f n b fresh test d) (y, unwritten t noted)) refl refl

      module _ (good : a ≡ true) {map' values' : List ℤ} (writes : s.used + m + 1 + 2 * length bs < 2147483648
          → written map' values' ≡ copying s.used (numbers_at bs at) (numbers_at bs i) (s.used + m + 1) (puts t.map s.used (codes_at bs h)) t.values) where
        abbrev u : Lent
        u = record { map = map'; values = values'; noted = noted }

        accepted : (f : Formula) (n : List Copy) (b : Before (length bs) v s prefix t f n) → After (length bs) s t q u f (n ++ copies ps es ls)
        accepted f n b =
            let rules = rules_as f n b fresh test good in
            let once = sym (fresh_are o v b.low passed.in_range b.told b.shown.noted notes b.proper.once) ∙ fresh in
            subst (λ (w : Written). After (length bs) s t q (record { map = w.map; values = w.values; noted = noted }) f (n ++ copies ps es ls)) (sym is_written) record {
              shown = record {
                noted = noted_are o v b.low passed.in_range b.told b.shown.noted notes fresh;
                taken = taken_after f n b passed once;
              };
              proper = proper_mapping f n ps es ls b.proper rules;
              map = (frames f n b passed once).0;
              values = (frames f n b passed once).1;
              grows = omega (arith, ps_long o, es_long o, ls_long o, lists_long o);
              few = omega (arith, few o v b.low passed.in_range, largest_is o v b.low passed.in_range);
            }
          where
            is_written : written map' values' ≡ copying s.used ps es (s.used + m + 1) (puts t.map s.used (codes_at bs h)) t.values
            is_written =
                writes (let x = b.light in let y = lists_long o in omega arith)
                ∙ ap₂ (λ ps es. copying s.used ps es (s.used + m + 1) (puts t.map s.used (codes_at bs h)) t.values)
                (ps_are o v b.low passed.in_range) (es_are o v b.low passed.in_range)

        line_next : {top : ℕ} → top ≡ high → length map' ≡ length t.map → length values' ≡ length t.values
            → MappingLine bs at turn v s prefix t (Ok (record { used = need; largest = top })) u
        line_next {top} g =
            line_formed bs at turn v s prefix t o.form (Ok (record { used = need; largest = top })) u
            (λ f n b. led_late f n b passed (Ok (record { used = need; largest = top })) u (rules_as f n b fresh test good)
            (ap₂ (λ x y. record { used = x; largest = y }) (used_after f n b) (g ∙ largest_after f n b passed.in_range), accepted f n b))

  -- the three lists end with their zeros
  copies_list : is_list bs at ≡ true
  copies_list = listing_list bs at o.copies

  existentials_list : is_list bs i ≡ true
  existentials_list = listing_list bs i o.existentials

  annotation_list : is_list bs h ≡ true
  annotation_list = listing_list bs h o.annotation.listing

  -- THE SAME by the refusals that the rules' functions answer
  module _ (passed : Passed turn (ranged v c e l) room_there) where
    abbrev free : Bool
    free = (noting (numbers_at bs at) t.noted).fresh

    marked : {p : ℕ} {noted : List ℕ} → Notes (numbers_at bs at) t.noted 7 (end_of bs at) p noted → marking free noted ≡ noting (numbers_at bs at) t.noted
    marked notes = ap (marking free) notes.marks

    pub line_taken : (p : Rule) {noted : List ℕ} → Notes (numbers_at bs at) t.noted 7 (end_of bs at) (number p) noted
        → MappingLine bs at turn v s prefix t (Err p) (marked_as t noted)
    line_taken p notes =
        let b = ruled_broken notes.answer (list_ends bs at copies_list) (number_not_zero p) in line_7 passed (marked notes) p b.1 b.0

    module _ {noted : List ℕ} (notes : Notes (numbers_at bs at) t.noted 7 (end_of bs at) 0 noted) where
      abbrev Unfit : ℕ → Type 0
      Unfit a = is_list bs i ≡ true → is_list bs h ≡ true → a ≡ ruled 8 (annotates (entry prefix) (numbers_at bs i) (numbers_at bs h)) 0

      is_free_lem : free ≡ true
      is_free_lem = ruled_kept notes.answer (list_ends bs at copies_list) (λ x. omega arith) refl

      pub line_unfit : (a : Rule) → Unfit (number a) → MappingLine bs at turn v s prefix t (Err a) (marked_as t noted)
      line_unfit a test =
          let b = ruled_broken (test existentials_list annotation_list) refl (number_not_zero a) in
          line_8 passed (marked notes) is_free_lem refl a b.1 b.0

      module _ (test : Unfit 0) {r : ℕ} {map' values' : List ℤ} (writes : is_list bs h ≡ true
          → (is_list bs at ≡ true → is_list bs i ≡ true → r ≡ 0) × (s.used + m + 1 + 2 * length bs < 2147483648
          → written map' values' ≡ copying s.used (numbers_at bs at) (numbers_at bs i) (s.used + m + 1) (puts t.map s.used (codes_at bs h)) t.values)) where
        pub line_stored : r ≡ 0
        line_stored = (writes annotation_list).0 copies_list existentials_list

        pub line_good : {top : ℕ} → top ≡ high → length map' ≡ length t.map → length values' ≡ length t.values
            → MappingLine bs at turn v s prefix t (Ok (record { used = need; largest = top })) (record { map = map'; values = values'; noted = noted })
        line_good =
            line_next passed (marked notes) is_free_lem refl (ruled_kept (test existentials_list annotation_list) refl (λ x. omega arith) refl)
            (writes annotation_list).1
