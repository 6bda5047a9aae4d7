-- Laws of the store: a line's literals are stored behind the clauses, and then stand. Assumes nothing.
use mathlib.Core.Path.{◌≡◌, refl, sym, ◌∙◌, ap, ap₂, subst}
use mathlib.Core.Bool.{Bool, true, false, not, cond, ◌&&◌}
use mathlib.Core.List.{List, [], ◌∷◌, ◌++◌}
use Prim.Native.Nat.{ℕ, zero, suc, ◌+◌, ◌*◌, ◌-◌, ◌/◌, ◌%◌, ◌<◌, ◌≤◌}
use native.Mathlib.Omega.{arith}
use native.Mathlib.Numerals.{add-one}
use lib.Dec.{eqb, leb, ltb}
use lib.ListN.{length, take, get_or, set, length-map}
use lib.Seq.{get_or-take}
use lib.IntN.{ℤ, pos}
use borrow.Author.Count.{below_more}
use borrow.Author.Tests.{eqb-true, eqb-false, ne_eqb, le-leb, lt-leb, ltb-true, ltb-false}
use Rattle.cells.specs.Cells.{num, cell_at, code_at, list_at, Kept}
use Rattle.cells.proofs.Laws.{at_same, at_other, list_end, list_more, kept_self, kept_set, stored as small}
use Rattle.rules.specs.Literals.{Lits}
use Rattle.rules.specs.Codes.{code_of}
use Rattle.lists.specs.Lists.{lits_at}
use Rattle.lists.proofs.ListLaws.{Listing}
use Rattle.lists.proofs.StoreLaws.{Stored, list_in_table}
use Rattle.clauses.specs.declared.Store.{Store}
use Rattle.clauses.specs.Standing.{stands, clause_at, standing, places_of, proof_need, marks_need, empty_above, grown, pending, stored, room_for, Filled, Pended, Stood}
use Rattle.clauses.proofs.LiteralLaws.{pending_at}
use Rattle.clauses.proofs.StandingLaws.{standing_none, standing_marks}

-- NEEDS
module _ (s : Store) (n : ℕ) where
  pub proof_grown : proof_need (grown s n) ≡ proof_need s + n + 1
  unfolding proof_need grown
  proof_grown = refl

  pub marks_grown : marks_need (grown s n) ≡ marks_need s + 1
  unfolding marks_need grown
  marks_grown = refl

  -- the new clause's place
  pub places_grown : places_of (grown s n) ≡ places_of s + 1
  unfolding places_of grown
  places_grown = refl

  pub place_new : places_of s < places_of (grown s n)
  unfolding places_of grown
  place_new = omega arith

  module _ (proof marks : ℕ) where
    -- the tests of the code
    pub fits_short : proof ≤ s.used + n → false ≡ room_for s n proof marks
    unfolding proof_need grown
    fits_short h = let z : proof < s.used + n + 1 = omega arith in
        sym (ap (λ b. b && leb (marks_need (grown s n)) marks) (lt-leb (s.used + n + 1) proof z))

    pub fits_marks : s.used + n < proof → ltb s.count marks ≡ room_for s n proof marks
    unfolding proof_need marks_need grown
    fits_marks h = let z : s.used + n + 1 ≤ proof = omega arith in
        sym (ap (λ b. b && leb (s.count + 1) marks) (le-leb (s.used + n + 1) proof z) ∙ go (ltb s.count marks) refl)
      where
        go : (b : Bool) → ltb s.count marks ≡ b → leb (s.count + 1) marks ≡ b
        go true q = let y = ltb-true s.count marks q in le-leb (s.count + 1) marks (omega arith)
        go false q = let y = ltb-false s.count marks q in lt-leb (s.count + 1) marks (omega arith)

-- AN EMPTY STORE
pub places_marks : (s : Store) → places_of s ≡ marks_need s
unfolding places_of marks_need
places_marks s = refl

pub places_above : (n : ℕ) → places_of (empty_above n) ≡ 0
unfolding places_of empty_above
places_above n = refl

pub standing_above : (t ms : List ℤ) (n : ℕ) → standing t ms (places_of (empty_above n)) ≡ []
standing_above t ms n = ap (standing t ms) (places_above n) ∙ standing_none t ms

pub need_above : (n : ℕ) → (proof_need (empty_above n) ≡ n) × (marks_need (empty_above n) ≡ 0)
unfolding proof_need marks_need empty_above
need_above n = (refl, refl)

pub filled_above : (t ms : List ℤ) (n : ℕ) → (0 < n → code_at t (n - 1) ≡ 0) → Filled t ms (empty_above n)
unfolding empty_above
filled_above t ms n e = record { ended = e; low = λ k h. absurd (omega arith) }

-- A LIST IN THE TABLE IS ENDED by a 0, or by the table's end
pub list_ended : (t : List ℤ) (n i : ℕ) → length (list_at t i) ≡ n → code_at t (i + n) ≡ 0
list_ended t zero i h = go (eqb (code_at t i) 0) refl
  where
    go : (b : Bool) → eqb (code_at t i) 0 ≡ b → code_at t (i + 0) ≡ 0
    go true q = let e : i + 0 ≡ i = omega arith in ap (code_at t) e ∙ eqb-true (code_at t i) 0 q
    go false q = absurd (let l = ap length (list_more t i (eqb-false (code_at t i) 0 q)) in omega arith)
list_ended t (suc n) i h = go (eqb (code_at t i) 0) refl (list_ended t n (i + 1))
  where
    go : (b : Bool) → eqb (code_at t i) 0 ≡ b → (length (list_at t (i + 1)) ≡ n → code_at t (i + 1 + n) ≡ 0) → code_at t (i + suc n) ≡ 0
    go true q more = absurd (let l = ap length (list_end t i (eqb-true (code_at t i) 0 q)) in omega arith)
    go false q more =
        let l = ap length (list_more t i (eqb-false (code_at t i) 0 q)) in
        let e : i + suc n ≡ i + 1 + n = omega arith in
        ap (code_at t) e ∙ more (omega arith)

-- above a list that stands at the start of the proof table, as the hints do
pub filled_hints : (t u ms : List ℤ) (c : Lits) → Stored t u 0 c → length c < length t → {n : ℕ} → n ≡ length c + 1 → Filled u ms (empty_above n)
unfolding empty_above
filled_hints t u ms c o h {n} e =
    let i : n - 1 ≡ 0 + length c = omega arith in
    filled_above u ms n (λ k. ap (code_at u) i ∙ list_ended u (length c) 0 (ap length o.list ∙ length-map c code_of))

-- the used part as codes
same_codes : (t u : List ℤ) (used : ℕ) → take used u ≡ take used t → (j : ℕ) → j < used → code_at u j ≡ code_at t j
unfolding code_at cell_at
same_codes t u used e j h =
    ap (λ z. num z % 65536)
    (sym (get_or-take used u j (pos 0) h) ∙ ap (λ l. get_or l j (pos 0)) e ∙ get_or-take used t j (pos 0) h)

-- a clause that starts in the used part is read from it alone
list_step : (t t' : List ℤ) (s : ℕ) → code_at t' s ≡ code_at t s → list_at t' (s + 1) ≡ list_at t (s + 1) → list_at t' s ≡ list_at t s
list_step t t' s here rest = go (eqb (code_at t s) 0) refl
  where
    go : (b : Bool) → eqb (code_at t s) 0 ≡ b → list_at t' s ≡ list_at t s
    go true q = let z = eqb-true (code_at t s) 0 q in list_end t' s (here ∙ z) ∙ sym (list_end t s z)
    go false q =
        let n = eqb-false (code_at t s) 0 q in
        list_more t' s (λ z. n (sym here ∙ z)) ∙ ap₂ (λ (x : ℕ) (l : List ℕ). x ∷ l) here rest ∙ sym (list_more t s n)

module _ (t t' ms : List ℤ) (used : ℕ) (same : (j : ℕ) → j < used → code_at t' j ≡ code_at t j) where
  list_from : code_at t (used - 1) ≡ 0 → (n s : ℕ) → s + suc n ≡ used → list_at t' s ≡ list_at t s
  list_from z zero s e =
      let q : s ≡ used - 1 = omega arith in
      let y : code_at t s ≡ 0 = ap (code_at t) q ∙ z in
      list_end t' s (same s (omega arith) ∙ y) ∙ sym (list_end t s y)
  list_from z (suc n) s e = list_step t t' s (same s (omega arith)) (list_from z n (s + 1) (omega arith))

  list_kept : (0 < used → code_at t (used - 1) ≡ 0) → (s : ℕ) → s < used → list_at t' s ≡ list_at t s
  list_kept z s h = list_from (z (omega arith)) (used - suc s) s (omega arith)

  -- what is written beyond the used part changes no clause
  standing_kept : (0 < used → code_at t (used - 1) ≡ 0) → (n : ℕ) → ((k : ℕ) → k < n → cell_at ms k / 2 < used) → standing t' ms n ≡ standing t ms n
  unfolding standing stands clause_at
  standing_kept z zero f = refl
  standing_kept z (suc n) f =
      ap₂ (λ (a b : List (List ℕ)). a ++ b) (standing_kept z n (λ k h. f k (omega arith)))
      (ap (λ (c : List ℕ). cond (not (eqb (cell_at ms n % 2) 0)) (c ∷ []) []) (list_kept z (cell_at ms n / 2) (f n (omega arith))))

-- A LINE'S LITERALS ARE STORED
pub pended : {bs : List ℕ} {at : ℕ} {g : Bool} {n m e : ℕ} → Listing bs at g n m e → (t u ms : List ℤ) (s : Store) → m ≤ 16384 → proof_need (grown s n) ≤ length t
    → u ≡ stored bs at s t → Filled t ms s → Pended t u ms s n (lits_at bs at)
unfolding proof_need grown stored places_of
pended {bs} {at} {g} {n} {m} {e} o t u ms s h room q f =
    let w : Stored t u s.used (lits_at bs at) = list_in_table o t u s.used h (omega arith) q in
    let same = same_codes t u s.used w.before in
    let c = o.count in
    let j : s.used + (length (lits_at bs at) + 1) ≡ s.used + n + 1 = omega arith in
    record {
      clause = pending_at u s ∙ w.list;
      size = c ∙ sym (ap length (pending_at u s ∙ w.list) ∙ length-map (lits_at bs at) code_of);
      standing_then = standing_kept t u ms s.used same f.ended s.count f.low;
      filled = record { ended = λ l. same (s.used - 1) (omega arith) ∙ f.ended l; low = f.low };
      before = w.before;
      kept = subst (λ i. Kept i t u) j w.kept;
    }

-- THE PENDING CLAUSE STANDS
module _ (ms : List ℤ) (s : Store) (n : ℕ) (r : Store) (low : proof_need (grown s n) < 1073741824) (room : marks_need (grown s n) ≤ length ms) where
  abbrev ms' : List ℤ
  ms' = set ms s.count (pos (2 * s.used + 1))

  inside : s.count < length ms
  unfolding marks_need grown
  inside = omega arith

  below : (k : ℕ) → k < s.count → cell_at ms' k ≡ cell_at ms k
  below k h = at_other ms s.count k (2 * s.used + 1) (λ e. omega arith)

  here : cell_at ms' s.count ≡ 2 * s.used + 1
  here = at_same ms s.count (2 * s.used + 1) inside

  stood : (t : List ℤ) → Filled t ms s → n ≡ length (pending t s) → Stood t ms ms' s n
  unfolding places_of marks_need grown
  stood t f e = record {
    standing_then = then;
    filled = record {
      ended = λ h. last;
      low = below_more (λ k. cell_at ms' k / 2 < s.used + n + 1) s.count (λ k h. rw (below k h) (omega (arith, f.low k h))) (rw here (omega arith));
    };
    kept = kept_set s.count (pos (2 * s.used + 1)) (kept_self (s.count + 1) ms) (omega arith);
  }
    where
      half : (2 * s.used + 1) / 2 ≡ s.used
      half = omega arith

      then : standing t ms' (s.count + 1) ≡ standing t ms s.count ++ (pending t s ∷ [])
      then =
          ap (standing t ms') (add-one s.count)
          ∙ unfold standing stands clause_at in ap₂ (λ (a b : List (List ℕ)). a ++ b)
          (standing_marks t ms ms' s.count below)
          (ap (λ (m : ℕ). cond (not (eqb (m % 2) 0)) (list_at t (m / 2) ∷ []) []) here
          ∙ ap₂ (λ (b : Bool) (i : ℕ). cond (not b) (list_at t i ∷ []) []) (ne_eqb ((2 * s.used + 1) % 2) 0 (λ e. omega arith)) half
          ∙ ap (λ l. l ∷ []) (sym (pending_at t s)))

      last : code_at t (s.used + n + 1 - 1) ≡ 0
      last =
          let z : s.used + n + 1 - 1 ≡ s.used + n = omega arith in
          ap (code_at t) z ∙ list_ended t n s.used (sym (e ∙ ap length (pending_at t s)))

  -- what the code did
  pub stands_now : {out : List ℤ} → out ≡ set ms s.count (pos ((2 * (s.used % 1073741824) + 1) % 2147483648))
      → r ≡ record { used = s.used % 1073741824 + n % 1073741824 + 1; count = s.count + 1 }
      → (r ≡ grown s n) × ((t : List ℤ) → Filled t ms s → n ≡ length (pending t s) → Stood t ms out s n)
  unfolding proof_need grown
  stands_now {out} e q =
      let a : s.used % 1073741824 ≡ s.used = omega arith in
      let b : n % 1073741824 ≡ n = omega arith in
      let w : 2 * s.used + 1 < 2147483648 = omega arith in
      let v : (2 * (s.used % 1073741824) + 1) % 2147483648 ≡ 2 * s.used + 1 = ap (λ i. (2 * i + 1) % 2147483648) a ∙ small w in
      let u : s.used % 1073741824 + n % 1073741824 + 1 ≡ s.used + n + 1 = omega arith in (
        q ∙ ap (λ i. record { used = i; count = s.count + 1 }) u,
        λ t f h. subst (λ o. Stood t ms o s n) (sym (e ∙ ap (λ i. set ms s.count (pos i)) v)) (stood t f h),
      )
