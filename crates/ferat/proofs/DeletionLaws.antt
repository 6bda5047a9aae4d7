-- Laws of the deletion line. Assumes nothing.
use mathlib.Core.Path.{◌≡◌, refl, ap, ap₂, sym, ◌∙◌, subst}
use mathlib.Core.Bool.{Bool, true, false, ◌&&◌, ◌||◌, cond, false≢true}
use mathlib.Core.List.{List, [], ◌∷◌, map}
use Prim.Native.Nat.{ℕ, ◌%◌, ◌<◌, ◌≤◌}
use native.Mathlib.Omega.{arith}
use lib.Dec.{eqb, leb}
use lib.ListN.{length, take}
use borrow.Author.Tests.{eq-eqb, ne_eqb, le-leb, lt-leb, leb-true}
use Rattle.std.specs.Prelude.{Result, Ok, Err, Some, None}
use Rattle.rules.specs.declared.Rule.{Rule}
use Rattle.rules.specs.declared.Rule.TheVariants.{Malformed, OutOfRange}
use Rattle.lines.specs.Scan.{literal_at}
use Rattle.cells.specs.Cells.{up_to}
use Rattle.lists.specs.declared.Measure.{Measure}
use Rattle.lists.specs.Lists.{lits_at, clause_at, is_list}
use Rattle.lists.specs.Stores.{codes_at, written, in_range, ending_at}
use Rattle.lists.proofs.ListLaws.{all_low, listed_low, listed_high, listed_range}
use Rattle.lists.proofs.FormLaws.{Seen, clause_told, as_clause, bad_clause}
use Rattle.lists.proofs.StoreLaws.{codes_end, codes_more, codes_listed}
use Rattle.rules.specs.Basics.{greatest, is_in}
use Rattle.rules.specs.Literals.{Lit, Lits, var, vars}
use Rattle.rules.specs.Formula.{Formula}
use Rattle.rules.specs.Forms.{deletion, clause_form}
use Rattle.rules.specs.Needs.{fits}
use Rattle.rules.specs.Limits.{limits}
use Rattle.rules.specs.Step as rules
use Rattle.rules.specs.Codes.{sign, code_of}
use Rattle.rules.specs.CertificateLines.{State, in_sequence, judge}
use Rattle.rules.specs.CertificateLines as lines
use Rattle.rules.proofs.Kit.{and_l, and_r}
use Rattle.tables.specs.Tables.{Tables, lengths_of}
use Rattle.tables.proofs.Frames.{all_self}
use Rattle.trail.specs.declared.Trail.{Trail}
use Rattle.trail.specs.Trail.{TrailedIn, UndoneIn}
use Rattle.deletion.specs.Deletions.{Listed, MoreBy}
use Rattle.deletion.proofs.DeletionLaws.{listed_start}
use Rattle.progress.specs.declared.Progress.{Progress}
use Rattle.progress.specs.declared.Work.{Work}
use Rattle.progress.specs.Shown.{Shown, Stepped}
use Rattle.steps.specs.Judges.{kind_judge, Listing, Deletes}
use Rattle.steps.proofs.JudgeLaws.{judge_range, judge_rest, refused_in}
use Rattle.steps.proofs.DeleteLaws.{deletion_needs}
use Rattle.ferat.specs.Lines.{judged, Line, line_codes, LineListed}
use Rattle.ferat.proofs.ClauseLaws.{judged_none, judged_some, count_low}

-- THE CODES OF THE LINE, one after the other
module _ (bs : List ℕ) (i : ℕ) where
  module _ {x e : ℕ} (h : literal_at bs i ≡ Some (x, e)) where
    pub line_end : x ≡ 0 → line_codes bs i ≡ []
    unfolding line_codes up_to
    line_end z =
        ap (λ l. map (λ k. k % 65536) (up_to l)) (codes_end bs i h z)
        ∙ ap (λ b. map (λ k. k % 65536) (cond b [] (x ∷ []))) (eq-eqb x 0 z)

    pub line_more : (x ≡ 0 → ⊥) → line_codes bs i ≡ (x % 65536) ∷ line_codes bs e
    unfolding line_codes up_to
    line_more z =
        ap (λ l. map (λ k. k % 65536) (up_to l)) (codes_more bs i h z)
        ∙ ap (λ b. map (λ k. k % 65536) (cond b [] (x ∷ up_to (codes_at bs e)))) (ne_eqb x 0 z)

-- the trail so far and what is left of the line are the line
pub record Partly (bs : List ℕ) (at i : ℕ) (t : Trail) : Type 0 where
  pub listed : Listed t.falses t.literals t.length
  pub left : (x : ℕ) → (is_in (take t.length t.literals) x || is_in (line_codes bs i) x) ≡ is_in (line_codes bs at) x

or_none : (b : Bool) → b || false ≡ b
or_none true = refl
or_none false = refl

or_move : (a b c : Bool) → (a || b) || c ≡ a || (b || c)
or_move true b c = refl
or_move false b c = refl

-- how the walk over the line ends
abbrev went : Result (Unit {0}) Rule → Bool
went (Ok x) = true
went (Err k) = false

pub not_ended : {k : Rule} → ◌≡◌ {A = Result (Unit {0}) Rule} (Err k) (Ok tt) → ⊥
not_ended e = false≢true (ap went e)

pub ending_by : (bs : List ℕ) (at : ℕ) {b : Bool} → is_list bs at ≡ b → cond b (Ok tt) (Err Malformed) ≡ ending_at bs at
unfolding ending_at
ending_by bs at h = ap (λ b. cond b (Ok tt) (Err Malformed)) (sym h)

module _ (bs : List ℕ) (at : ℕ) where
  pub listing_start : (t : Trail) → Listed t.falses t.literals t.length → t.length ≡ 0 → Partly bs at at t
  listing_start t h e = record { listed = h; left = λ x. ap (λ n. is_in (take n t.literals) x || is_in (line_codes bs at) x) e }

  pub listing_done : {i : ℕ} {t : Trail} → Partly bs at i t → line_codes bs i ≡ [] → LineListed bs at t
  listing_done {i} {t} g e = record {
    listed = g.listed;
    same = λ x. sym (or_none (is_in (take t.length t.literals) x)) ∙ ap (λ l. is_in (take t.length t.literals) x || is_in l x) (sym e) ∙ g.left x;
  }

  pub listing_next : {i e l : ℕ} {t u : Trail} → Partly bs at i t → line_codes bs i ≡ l ∷ line_codes bs e
      → Listed u.falses u.literals u.length → MoreBy l (take t.length t.literals) (take u.length u.literals) → Partly bs at e u
  unfolding MoreBy
  listing_next {i} {e} {l} {t} {u} g q h m = record {
    listed = h;
    left = λ x.
        ap (λ b. b || is_in (line_codes bs e) x) (m x) ∙ or_move (is_in (take t.length t.literals) x) (eqb x l) (is_in (line_codes bs e) x)
        ∙ ap (λ c. is_in (take t.length t.literals) x || is_in c x) (sym q) ∙ g.left x;
  }

-- a list of codes and its end mark
code_large : (n : ℕ) (l : Lit) → (leb 1 (var l) && leb (var l) n) ≡ true → code_of l ≡ 0 → ⊥
code_large n l h e =
    let k : 1 ≤ var l = leb-true 1 (var l) (and_l (leb 1 (var l)) (leb (var l) n) h) in omega arith

sign_low : (l : Lit) → sign l ≤ 1
sign_low (Rattle.rules.specs.Literals.pos n) = omega arith
sign_low (Rattle.rules.specs.Literals.neg n) = omega arith

code_small : (l : Lit) → (leb 1 (var l) && leb (var l) 16384) ≡ true → code_of l % 65536 ≡ code_of l
code_small l h =
    let k : var l ≤ 16384 = leb-true (var l) 16384 (and_r (leb 1 (var l)) (leb (var l) 16384) h) in
    let s = sign_low l in
    omega arith

codes_written : (c : Lits) → in_range 16384 (vars c) ≡ true → map (λ k. k % 65536) (up_to (written c)) ≡ map code_of c
unfolding up_to
codes_written [] h = refl
codes_written (l ∷ c) h =
    let a = and_l (leb 1 (var l) && leb (var l) 16384) (in_range 16384 (vars c)) h in
    ap (λ b. map (λ k. k % 65536) (cond b [] (code_of l ∷ up_to (written c)))) (ne_eqb (code_of l) 0 (code_large 16384 l a))
    ∙ ap₂ (λ x y. x ∷ y) (code_small l a) (codes_written c (and_r (leb 1 (var l) && leb (var l) 16384) (in_range 16384 (vars c)) h))

-- THE LINE
module _ (bs : List ℕ) (at : ℕ) (p : Progress) (t : Tables) (w : Work) where
  pub deletion_bad : clause_at bs at ≡ None → (v : Work) → Line (clause_form deletion) bs at p t w (Err Malformed) t v
  deletion_bad h v = record {
    steps = λ f s sh l.
        refused_in f p (length bs) t t v Malformed (judged_none (clause_form deletion) bs at t f s (bad_clause bs at h deletion)) (all_self s.needs t);
  }

  module _ {q : Measure} (h : clause_at bs at ≡ Some q) where
    abbrev m : ℕ
    m = q.largest

    seen : Seen bs at q.negative q.count m
    seen = clause_told bs at h

    abbrev c : Lits
    c = lits_at bs at

    judged_line : (f : Formula) (s : State) {x : rules.Step State} → judge (limits (lengths_of t)) f s (deletion c) ≡ x → judged (clause_form deletion) bs at t f s ≡ x
    judged_line f s e = judged_some (clause_form deletion) bs at t f s (as_clause bs at seen deletion) ∙ e

    order : (s : State) → in_sequence s (deletion c) ≡ true
    unfolding in_sequence
    order s = refl

    low : (f : Formula) → m ≤ 16384 → lines.in_range (limits (lengths_of t)) f (deletion c) ≡ true
    unfolding lines.in_range
    low f l = all_low 16384 (vars c) ∙ le-leb (greatest (vars c)) 16384 (listed_low seen.listing l (omega arith))

    high : (f : Formula) → 16384 < m → lines.in_range (limits (lengths_of t)) f (deletion c) ≡ false
    unfolding lines.in_range
    high f l = all_low 16384 (vars c) ∙ lt-leb (greatest (vars c)) 16384 (listed_high seen.listing l)

    pub deletion_high : 16384 < m → (v : Work) → Line (clause_form deletion) bs at p t w (Err OutOfRange) t v
    deletion_high l v = record {
      steps = λ f s sh i.
          refused_in f p (length bs) t t v OutOfRange (judged_line f s (judge_range (limits (lengths_of t)) f s (deletion c) (order s) (high f l))) (all_self s.needs t);
    }

    -- the trail was emptied, and the line's literals were listed on it
    module _ (l : m ≤ 16384) {t₀ t₁ : Trail} (undone : TrailedIn w.propagation.trail → 0 ≤ w.propagation.trail.length → UndoneIn w.propagation.trail 0 t₀)
        (o : Listed t₀.falses t₀.literals t₀.length → t₀.length ≡ 0 → LineListed bs at t₁) {r : Result Progress Rule} {u : Tables} {v : Work}
        (d : Deletes p t (record w { propagation = record w.propagation { trail = t₁ } }) r u v) where
      codes_are : line_codes bs at ≡ map code_of c
      unfolding line_codes
      codes_are =
          ap (λ l. map (λ k. k % 65536) (up_to l)) (codes_listed bs at seen.listing (omega arith))
          ∙ codes_written c (listed_range seen.listing l (omega arith))

      module _ {f : Formula} {s : State} (sh : Shown p t w f s) where
        emptied : UndoneIn w.propagation.trail 0 t₀
        emptied = undone sh.held.ready.trailed (omega arith)

        none : Listed t₀.falses t₀.literals t₀.length
        none =
            rw (emptied.1, emptied.2) (listed_start t₀.falses w.propagation.trail.literals emptied.0.trailed)

        listed : LineListed bs at t₁
        listed = o none emptied.2

        there : Listing c t₁
        there = record { listed = listed.listed; same = λ x. listed.same x ∙ ap (λ l. is_in l x) codes_are }

        rest : judge (limits (lengths_of t)) f s (deletion c) ≡ kind_judge f s (deletion c)
        rest = judge_rest (limits (lengths_of t)) f s (deletion c) (order s) (low f l) (ap (fits (lengths_of t)) (deletion_needs sh c) ∙ sh.room)

      pub deletion_judged : Line (clause_form deletion) bs at p t w r u v
      deletion_judged = record {
        steps = λ f s sh i.
            subst (λ x. Stepped f p (length bs) t x r u v) (sym (judged_line f s (rest sh)))
            (d.steps c (length bs) f s w.propagation.trail (there sh) sh i (omega (arith, count_low seen)));
      }
