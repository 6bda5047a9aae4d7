-- Laws of the second pass, and of lists in a table. Assumes nothing.
use mathlib.Core.Path.{◌≡◌, refl, ap, ap₂, sym, ◌∙◌, subst}
use mathlib.Core.Bool.{Bool, true, false, true≢false, ◌&&◌, cond}
use mathlib.Core.List.{List, [], ◌∷◌, ◌++◌, map, append_assoc, append-nil}
use mathlib.Core.Logic.{⊎_elim}
use mathlib.Core.Option.{some}
use Prim.Native.Nat.{ℕ, zero, suc, ◌+◌, ◌*◌, ◌-◌, ◌%◌, ◌<◌, ◌≤◌, min, max}
use native.Mathlib.Omega.{arith}
use native.Mathlib.Numerals.{add-one}
use lib.ListN.{length, take, drop, get_or, set, length-set, length-append, length-map, take-append-drop}
use lib.Seq.{sets, sets-eq, set_out, take-set-le, take_at, drop_at, length-take-le, take-nil, drop-append-add}
use lib.IntN.{ℤ}
use lib.IntN.{pos as int}
use lib.Dec.{eqb, leb}
use borrow.Author.Tests.{eq-eqb, ne_eqb, eqb-true, leb-true, leb-false}
use Rattle.std.specs.List.{list_all as all}
use Rattle.lines.specs.Lines.{Token, number, minus, word}
use Rattle.std.specs.Prelude.{None, Some, Result, Ok, Err}
use Rattle.lines.specs.Scan.{cap, tokens_from, literal_at}
use Rattle.lines.proofs.Words.{Told, Coded, literal_told, literal_lost}
use Rattle.cells.specs.Cells.{num, cells_of, codes_of, up_to, list_at, Kept}
use Rattle.cells.proofs.Laws.{stored, cells_length, cells_set, kept_self, kept_set, kept_chain, kept_later}
use Rattle.rules.specs.Basics.{greatest, sum}
use Rattle.rules.specs.Literals.{pos, neg, Lits, vars, var}
use Rattle.rules.specs.Codes.{code_of}
use Rattle.rules.specs.Forms.{up_to_zero, literal}
use Rattle.rules.proofs.Kit.{and_l, and_r}
use Rattle.rules.specs.declared.Rule.{Rule}
use Rattle.rules.specs.declared.Rule.TheVariants.{Malformed}
use Rattle.lists.specs.Lists.{has_minus, lits_at, is_list}
use Rattle.lists.specs.Stores.{codes_in, codes_at, ending_at, puts, written, flat, place_of, in_range}
use Rattle.lists.proofs.ListLaws.{upto_zero, upto_more, pair_parts, ahead_some, sign_low, Listing, listed_range, is_lost, is_end, is_more}

-- STORES FROM A PLACE ON
pub puts_more : (t : List ℤ) (k x : ℕ) (xs : List ℕ) → puts t k (x ∷ xs) ≡ puts (set t k (int x)) (k + 1) xs
unfolding puts
puts_more t k x xs = ap (λ n. sets (set t k (int x)) n (map int xs)) (sym (add-one k))

puts_past : (t : List ℤ) (k : ℕ) (xs : List ℕ) → length t ≤ k → puts t k xs ≡ t
unfolding puts
puts_past t k [] h = refl
puts_past t k (x ∷ xs) h = ap (λ u. sets u (suc k) (map int xs)) (set_out t k (int x) h) ∙ puts_past t (suc k) xs (omega arith)

-- what stands before them
pub take_puts : (t : List ℤ) (k : ℕ) (xs : List ℕ) → take k (puts t k xs) ≡ take k t
unfolding puts
take_puts t k xs = go k xs t k (omega arith)
  where
    go : (n : ℕ) (xs : List ℕ) (t : List ℤ) (k : ℕ) → n ≤ k → take n (puts t k xs) ≡ take n t
    go n [] t k h = refl
    go n (x ∷ xs) t k h = go n xs (set t k (int x)) (suc k) (omega arith) ∙ take-set-le n t k (int x) h

-- the frame: what stands after them
pub kept_puts : (t : List ℤ) (k : ℕ) (xs : List ℕ) → Kept (k + length xs) t (puts t k xs)
unfolding puts
kept_puts t k [] = kept_self (k + 0) t
kept_puts t k (x ∷ xs) =
    kept_chain (kept_set {n = k + suc (length xs)} k (int x) (kept_self (k + suc (length xs)) t) (omega arith))
    (kept_later (kept_puts (set t k (int x)) (suc k) xs) (omega arith))

pub cells_puts : (t : List ℤ) (k : ℕ) (xs : List ℕ) → cells_of (puts t k xs) ≡ sets (cells_of t) k xs
unfolding puts
cells_puts t k [] = refl
cells_puts t k (x ∷ xs) = cells_puts (set t k (int x)) (suc k) xs ∙ ap (λ l. sets l (suc k) xs) (cells_set t k (int x))

-- THE CODES OF A LINE
module _ (bs : List ℕ) (i : ℕ) where
  pub codes_lost : literal_at bs i ≡ None → codes_at bs i ≡ []
  unfolding codes_at codes_in
  codes_lost p = ⊎_elim (λ e. ap codes_in e) (λ w. ap codes_in w.2) (literal_lost bs i p)

  module _ {x e : ℕ} (p : literal_at bs i ≡ Some (x, e)) where
    told : Told bs i x e
    told = literal_told bs i p

    pub codes_end : x ≡ 0 → codes_at bs i ≡ x ∷ []
    unfolding codes_at codes_in
    codes_end z = go told.token told.code told.first
      where
        go : (t : Token) → Coded t x → tokens_from bs i ≡ t ∷ tokens_from bs e → codes_in (tokens_from bs i) ≡ x ∷ []
        go (number n) c f =
            ap codes_in f ∙ ap₂ (λ a b. a ∷ cond b [] (codes_in (tokens_from bs e))) (sym c) (eq-eqb n 0 (omega arith))
        go (minus n) c f = absurd (omega (arith, c.0))
        go (word w) c f = absurd c

    pub codes_more : (x ≡ 0 → ⊥) → codes_at bs i ≡ x ∷ codes_at bs e
    unfolding codes_at codes_in
    codes_more z = go told.token told.code told.first
      where
        go : (t : Token) → Coded t x → tokens_from bs i ≡ t ∷ tokens_from bs e → codes_in (tokens_from bs i) ≡ x ∷ codes_in (tokens_from bs e)
        go (number n) c f =
            let h : n ≡ 0 → ⊥ = λ k. z (omega arith) in
            ap codes_in f ∙ ap₂ (λ a b. a ∷ cond b [] (codes_in (tokens_from bs e))) (sym c) (ne_eqb n 0 h)
        go (minus n) c f = ap codes_in f ∙ ap (λ a. a ∷ codes_in (tokens_from bs e)) (sym c.0)
        go (word w) c f = absurd c

    code_small : x % 2147483648 ≡ x
    code_small = stored (go told.token told.code)
      where
        go : (t : Token) → Coded t x → x < 2147483648
        go (number n) c = omega arith
        go (minus n) c = omega (arith, c.0)
        go (word w) c = absurd c

-- THE SECOND PASS: what is left to store, stored in the table as it is, gives the table as it will be
pub record Storing (bs : List ℕ) (at : ℕ) (m₀ : List ℤ) (from i k : ℕ) (m : List ℤ) : Type 0 where
  pub long : length m ≡ length m₀
  pub text : puts m k (codes_at bs i) ≡ puts m₀ from (codes_at bs at)
  pub list : is_list bs i ≡ is_list bs at

pub storing_start : {bs : List ℕ} {at i : ℕ} {m₀ : List ℤ} {from : ℕ} → i ≡ at → Storing bs at m₀ from i from m₀
storing_start {bs} {at} {i} {m₀} {from} e = record { long = refl; text = ap (λ i. puts m₀ from (codes_at bs i)) e; list = ap (is_list bs) e }

-- from the next place; one that cannot be counted is beyond the end, where nothing is stored
puts_after : (t : List ℤ) (k k' most : ℕ) (xs : List ℕ) → length t ≤ most → k' ≡ min (k + 1) most → puts t k' xs ≡ puts t (k + 1) xs
puts_after t k k' most xs w e = go (leb (k + 1) most) refl
  where
    go : (b : Bool) → leb (k + 1) most ≡ b → puts t k' xs ≡ puts t (k + 1) xs
    go true q = let h = leb-true (k + 1) most q in let z : k' ≡ k + 1 = omega arith in ap (λ n. puts t n xs) z
    go false q = let h = leb-false (k + 1) most q in puts_past t k' xs (omega arith) ∙ sym (puts_past t (k + 1) xs (omega arith))

module _ {bs : List ℕ} {at : ℕ} {m₀ : List ℤ} {from i k : ℕ} {m : List ℤ} (s : Storing bs at m₀ from i k m) where
  pub storing_lost : literal_at bs i ≡ None → (m ≡ puts m₀ from (codes_at bs at)) × (Err Malformed ≡ ending_at bs at)
  unfolding puts ending_at
  storing_lost p =
      (ap (puts m k) (sym (codes_lost bs i p)) ∙ s.text, sym (ap (λ b. cond b (Ok tt) (Err Malformed)) (sym s.list ∙ is_lost bs i p)))

  module _ {x e : ℕ} (p : literal_at bs i ≡ Some (x, e)) {u : List ℤ} (f : u ≡ set m k (int (x % 2147483648))) where
    is_set : u ≡ set m k (int x)
    is_set = f ∙ ap (λ y. set m k (int y)) (code_small bs i p)

    pub storing_end : x ≡ 0 → (u ≡ puts m₀ from (codes_at bs at)) × (Ok tt ≡ ending_at bs at)
    unfolding puts ending_at
    storing_end z = (
      is_set ∙ ap (puts m k) (sym (codes_end bs i p z)) ∙ s.text,
      sym (ap (λ b. cond b (Ok tt) (Err Malformed)) (sym s.list ∙ is_end bs i p z)),
    )

    pub storing_more : (x ≡ 0 → ⊥) → {j k' most : ℕ} → j ≡ e → length m₀ ≤ most → k' ≡ min (k + 1) most → Storing bs at m₀ from j k' u
    storing_more z {j} {k'} q w h = let n = ap length f ∙ length-set m k (int (x % 2147483648)) ∙ s.long in record {
      long = n;
      text = ap (λ i. puts u k' (codes_at bs i)) q ∙ puts_after u k _ _ (codes_at bs e) (omega arith) h ∙ ap (λ v. puts v (k + 1) (codes_at bs e)) is_set ∙ sym (puts_more m k x (codes_at bs e))
          ∙ ap (puts m k) (sym (codes_more bs i p z)) ∙ s.text;
      list = ap (is_list bs) q ∙ sym (is_more bs i p z) ∙ s.list;
    }

-- where a list stands, the second pass meets its zero
pub ending_good : (bs : List ℕ) (at : ℕ) {r : Result (Unit {0}) Rule} → r ≡ ending_at bs at → {k : Rule} → r ≡ Err k → is_list bs at ≡ true → ⊥
unfolding ending_at
ending_good bs at q b l =
    let e = sym (ap (λ t. cond t (Ok tt) (Err Malformed)) l) ∙ sym q ∙ b in let z : ◌≡◌ {A = ℕ} 0 1 = cc in omega arith

-- A LIST AS IT IS STORED
codes_written : (ts : List Token) (c : Lits) (rest : List Token) → up_to_zero literal ts ≡ some (c, rest) → greatest (vars c) ≤ cap → codes_in ts ≡ written c
unfolding codes_in
codes_written [] c rest e h = absurd (let z : ◌≡◌ {A = ℕ} 0 1 = cc in omega arith)
codes_written (number n ∷ ts) c rest e h = go (eqb n 0) refl (codes_written ts)
  where
    go : (b : Bool) → eqb n 0 ≡ b → ((c : Lits) (rest : List Token) → up_to_zero literal ts ≡ some (c, rest) → greatest (vars c) ≤ cap → codes_in ts ≡ written c)
        → (2 * min cap n) ∷ cond b [] (codes_in ts) ≡ written c
    go true z i =
        let y : n ≡ 0 = eqb-true n 0 z in
        let x : 2 * min cap n ≡ 0 = omega arith in
        ap (λ a. a ∷ []) x ∙ ap written (pair_parts [] c ts rest (sym (upto_zero literal (number n) ts z) ∙ e)).0
    go false z i =
        let k = ahead_some (pos n) (up_to_zero literal ts) c rest (sym (upto_more literal (number n) ts z) ∙ e) in
        let g : greatest (vars c) ≡ max n (greatest (vars k.0)) = ap (λ c. greatest (vars c)) k.1 in
        let x : 2 * min cap n ≡ 2 * n + 0 = omega arith in
        ap₂ (λ a l. a ∷ l) x (i k.0 rest k.2 (omega arith)) ∙ ap written (sym k.1)
codes_written (minus n ∷ ts) c rest e h =
    let k = ahead_some (neg n) (up_to_zero literal ts) c rest e in
    let g : greatest (vars c) ≡ max n (greatest (vars k.0)) = ap (λ c. greatest (vars c)) k.1 in
    let x : 2 * min cap n + 1 ≡ 2 * n + 1 = omega arith in
    ap₂ (λ a l. a ∷ l) x (codes_written ts k.0 rest k.2 (omega arith)) ∙ ap written (sym k.1)
codes_written (word w ∷ ts) c rest e h = absurd (let z : ◌≡◌ {A = ℕ} 0 1 = cc in omega arith)

pub codes_listed : (bs : List ℕ) (at : ℕ) {s : Bool} {n m e : ℕ} → Listing bs at s n m e → m < cap → codes_at bs at ≡ written (lits_at bs at)
unfolding codes_at
codes_listed bs at {s} {n} {m} {e} o h = let k = o.most in codes_written (tokens_from bs at) (lits_at bs at) (tokens_from bs e) o.list (omega arith)

pub length_written : (c : Lits) → length (written c) ≡ length c + 1
length_written c = length-append (map code_of c) (0 ∷ []) ∙ omega (arith, length-map c code_of)

-- A LIST IN THE TABLE
drop_map : {A B : Type 0} (f : A → B) (i : ℕ) (l : List A) → drop i (map f l) ≡ map f (drop i l)
drop_map f zero l = refl
drop_map f (suc i) [] = refl
drop_map f (suc i) (x ∷ l) = drop_map f i l

codes_cells : (t : List ℤ) → codes_of t ≡ map (λ n. n % 65536) (cells_of t)
unfolding codes_of cells_of
codes_cells [] = refl
codes_cells (z ∷ t) = ap (λ l. (num z % 65536) ∷ l) (codes_cells t)

upto_codes : (c : Lits) (rest : List ℕ) → in_range 16384 (vars c) ≡ true → up_to (map (λ n. n % 65536) (written c ++ rest)) ≡ map code_of c
unfolding up_to
upto_codes [] rest h = refl
upto_codes (l ∷ c) rest h =
    let a = and_l (leb 1 (var l) && leb (var l) 16384) (in_range 16384 (vars c)) h in
    let low : 1 ≤ var l = leb-true 1 (var l) (and_l (leb 1 (var l)) (leb (var l) 16384) a) in
    let high : var l ≤ 16384 = leb-true (var l) 16384 (and_r (leb 1 (var l)) (leb (var l) 16384) a) in
    let s = sign_low l in
    let e : code_of l % 65536 ≡ code_of l = omega arith in
    let z : code_of l ≡ 0 → ⊥ = λ k. omega arith in
    ap (λ x. cond (eqb x 0) [] (x ∷ up_to (map (λ n. n % 65536) (written c ++ rest)))) e
    ∙ ap₂ (λ b r. cond b [] (code_of l ∷ r)) (ne_eqb (code_of l) 0 z) (upto_codes c rest (and_r (leb 1 (var l) && leb (var l) 16384) (in_range 16384 (vars c)) h))

pub list_here : (t : List ℤ) (i : ℕ) (c : Lits) (rest : List ℕ) → drop i (cells_of t) ≡ written c ++ rest → in_range 16384 (vars c) ≡ true → list_at t i ≡ map code_of c
unfolding list_at
list_here t i c rest e h =
    ap up_to (ap (drop i) (codes_cells t) ∙ drop_map (λ n. n % 65536) i (cells_of t) ∙ ap (map (λ n. n % 65536)) e) ∙ upto_codes c rest h

-- THE LIST THAT WAS STORED
module _ (t : List ℤ) (k : ℕ) (c : Lits) (h : k + length c < length t) where
  cells_stored : cells_of (puts t k (written c)) ≡ (take k (cells_of t) ++ written c) ++ drop (k + length (written c)) (cells_of t)
  cells_stored = cells_puts t k (written c) ∙ sets-eq (written c) (cells_of t) k (omega (arith, length_written c, cells_length t))

  before : length (take k (cells_of t)) ≡ k
  before = length-take-le k (cells_of t) (omega (arith, cells_length t))

  pub list_stored : in_range 16384 (vars c) ≡ true → list_at (puts t k (written c)) k ≡ map code_of c
  list_stored r =
      list_here (puts t k (written c)) k c (drop (k + length (written c)) (cells_of t))
      (ap (drop k) (cells_stored ∙ append_assoc (take k (cells_of t)) (written c) (drop (k + length (written c)) (cells_of t)))
      ∙ drop_at (take k (cells_of t)) (written c ++ drop (k + length (written c)) (cells_of t)) k before) r

  -- after what stood before it
  pub take_stored : take (k + (length c + 1)) (cells_of (puts t k (written c))) ≡ take k (cells_of t) ++ written c
  take_stored =
      ap (take (k + (length c + 1))) cells_stored
      ∙ take_at (take k (cells_of t) ++ written c) (drop (k + length (written c)) (cells_of t)) (k + (length c + 1))
      (length-append (take k (cells_of t)) (written c) ∙ omega (arith, before, length_written c))

-- A LINE'S LIST STORED FROM A PLACE ON: t becomes u
pub record Stored (t u : List ℤ) (from : ℕ) (c : Lits) : Type 0 where
  pub list : list_at u from ≡ map code_of c
  pub cells : take (from + (length c + 1)) (cells_of u) ≡ take from (cells_of t) ++ written c
  pub before : take from u ≡ take from t
  pub kept : Kept (from + (length c + 1)) t u

pub list_in_table : {bs : List ℕ} {at : ℕ} {s : Bool} {n m e : ℕ} (o : Listing bs at s n m e) (t u : List ℤ) (from : ℕ) → m ≤ 16384 → from + n < length t
    → u ≡ puts t from (codes_at bs at) → Stored t u from (lits_at bs at)
list_in_table {bs} {at} {s} {n} {m} {e} o t u from h l q =
    let i = o.count in
    let room : from + length (lits_at bs at) < length t = omega arith in
    let p : u ≡ puts t from (written (lits_at bs at)) = q ∙ ap (puts t from) (codes_listed bs at o (omega arith)) in
    let j : from + length (written (lits_at bs at)) ≡ from + (length (lits_at bs at) + 1) = omega (arith, length_written (lits_at bs at)) in
    record {
      list = ap (λ u. list_at u from) p ∙ list_stored t from (lits_at bs at) room (listed_range o h (omega arith));
      cells = ap (λ u. take (from + (length (lits_at bs at) + 1)) (cells_of u)) p ∙ take_stored t from (lits_at bs at) room;
      before = ap (take from) p ∙ take_puts t from (written (lits_at bs at));
      kept = subst (Kept (from + (length (lits_at bs at) + 1)) t) (sym p) (subst (λ k. Kept k t (puts t from (written (lits_at bs at)))) j (kept_puts t from (written (lits_at bs at))));
    }

-- the codes of a list without has_minus
pub plain_codes : (c : Lits) → has_minus c ≡ false → map code_of c ≡ map (λ v. 2 * v) (vars c)
plain_codes [] h = refl
plain_codes (pos n ∷ c) h = let e : 2 * n + 0 ≡ 2 * n = omega arith in ap₂ (λ a l. a ∷ l) e (plain_codes c h)
plain_codes (neg n ∷ c) h = absurd (true≢false h)

-- A LIST BEFORE THE PLACE IS KEPT, with its end mark
upto_take : (n : ℕ) (l m : List ℕ) → take n m ≡ take n l → length (up_to l) < n → up_to m ≡ up_to l
unfolding up_to
upto_take zero l m e h = absurd (let k = h in omega arith)
upto_take (suc n) [] [] e h = refl
upto_take (suc n) [] (y ∷ m) e h = absurd (let z : ◌≡◌ {A = ℕ} 0 1 = cc in omega arith)
upto_take (suc n) (x ∷ l) [] e h = absurd (let z : ◌≡◌ {A = ℕ} 0 1 = cc in omega arith)
upto_take (suc n) (x ∷ l) (y ∷ m) e h =
    let a : y ≡ x = cc in
    let b : take n m ≡ take n l = cc in
    ap (λ y. cond (eqb y 0) [] (y ∷ up_to m)) a ∙ go (eqb x 0) h (upto_take n l m b)
  where
    go : (t : Bool) → length (cond t [] (x ∷ up_to l)) < suc n → (length (up_to l) < n → up_to m ≡ up_to l) → cond t [] (x ∷ up_to m) ≡ cond t [] (x ∷ up_to l)
    go true h i = refl
    go false h i = ap (λ r. x ∷ r) (i (omega arith))

drop_take : {A : Type 0} (i k : ℕ) (l : List A) → drop i (take k l) ≡ take (k - i) (drop i l)
drop_take zero k l = let e : k - 0 ≡ k = omega arith in ap (λ n. take n l) (sym e)
drop_take (suc i) zero l = let e : zero - suc i ≡ 0 = omega arith in ap (λ n. take n (drop (suc i) l)) (sym e)
drop_take (suc i) (suc k) [] = sym (take-nil (suc k - suc i))
drop_take (suc i) (suc k) (x ∷ l) = let e : suc k - suc i ≡ k - i = omega arith in drop_take i k l ∙ ap (λ n. take n (drop i l)) (sym e)

take_map : {A B : Type 0} (f : A → B) (i : ℕ) (l : List A) → take i (map f l) ≡ map f (take i l)
take_map f zero l = refl
take_map f (suc i) [] = refl
take_map f (suc i) (x ∷ l) = ap (λ r. f x ∷ r) (take_map f i l)

pub list_kept : (t u : List ℤ) (k i : ℕ) → take k u ≡ take k t → i + length (list_at t i) < k → list_at u i ≡ list_at t i
unfolding list_at codes_of
list_kept t u k i e h =
    let same : take k (codes_of u) ≡ take k (codes_of t) = take_map (λ z. num z % 65536) k u ∙ ap (map (λ z. num z % 65536)) e ∙ sym (take_map (λ z. num z % 65536) k t) in
    upto_take (k - i) (drop i (codes_of t)) (drop i (codes_of u)) (sym (drop_take i k (codes_of u)) ∙ ap (drop i) same ∙ drop_take i k (codes_of t)) (omega arith)

-- CLAUSES ONE AFTER THE OTHER
pub flat_snoc : (cs : List Lits) (c : Lits) → flat (cs ++ (c ∷ [])) ≡ flat cs ++ written c
unfolding flat
flat_snoc [] c = append-nil (written c)
flat_snoc (d ∷ cs) c = ap (λ r. written d ++ r) (flat_snoc cs c) ∙ sym (append_assoc (written d) (flat cs) (written c))

pub length_flat : (cs : List Lits) → length (flat cs) ≡ sum (map (λ (c : Lits). length c + 1) cs)
unfolding flat
length_flat [] = refl
length_flat (c ∷ cs) = length-append (written c) (flat cs) ∙ omega (arith, length_written c, length_flat cs)

from_place : (cs : List Lits) (i : ℕ) (rest : List ℕ) → i < length cs → (r : List ℕ) × (drop (place_of i cs) (flat cs ++ rest) ≡ written (get_or cs i []) ++ r)
unfolding place_of flat
from_place [] i rest h = absurd (let k = h in omega arith)
from_place (c ∷ cs) zero rest h = (flat cs ++ rest, append_assoc (written c) (flat cs) rest)
from_place (c ∷ cs) (suc i) rest h =
    let k = from_place cs i rest (omega arith) in
    let e : length c + 1 + place_of i cs ≡ length (written c) + place_of i cs = omega (arith, length_written c) in
    (k.0, ap₂ drop e (append_assoc (written c) (flat cs) rest) ∙ drop-append-add (written c) (flat cs ++ rest) (place_of i cs) ∙ k.1)

pub all_at : {A : Type 0} (p : A → Bool) (d : A) (xs : List A) (i : ℕ) → all p xs ≡ true → i < length xs → p (get_or xs i d) ≡ true
all_at p d [] i e h = absurd (let k = h in omega arith)
all_at p d (x ∷ xs) zero e h = and_l (p x) (all p xs) e
all_at p d (x ∷ xs) (suc i) e h = all_at p d xs i (and_r (p x) (all p xs) e) (omega arith)

-- THE TABLE SHOWS EACH CLAUSE at its place
pub clause_there : (t : List ℤ) (used : ℕ) (cs : List Lits) → take used (cells_of t) ≡ flat cs → all (λ c. in_range 16384 (vars c)) cs ≡ true
    → (i : ℕ) → i < length cs → list_at t (place_of i cs) ≡ map code_of (get_or cs i [])
clause_there t used cs e r i h =
    let k = from_place cs i (drop used (cells_of t)) h in
    list_here t (place_of i cs) (get_or cs i []) k.0
    (ap (drop (place_of i cs)) (sym (take-append-drop used (cells_of t)) ∙ ap (λ l. l ++ drop used (cells_of t)) e) ∙ k.1)
    (all_at (λ c. in_range 16384 (vars c)) [] cs i r h)
