-- Laws of the codes of a list in a buffer. Assumes nothing.
use mathlib.Core.Path.{◌≡◌, refl, ap, ap₂, sym, ◌∙◌}
use mathlib.Core.Bool.{Bool, true, false, cond}
use mathlib.Core.List.{List, [], ◌∷◌, map}
use Prim.Native.Nat.{ℕ, suc, ◌+◌, ◌%◌, ◌<◌, ◌≤◌}
use native.Mathlib.Omega.{arith}
use native.Mathlib.Numerals.{add-one}
use lib.Dec.{eqb}
use lib.IntN.{ℤ}
use lib.IntN.{pos as int}
use lib.ListN.{length, take, drop, get_or, set, length-set, drop_of_length-le}
use lib.Seq.{sets, sets-eq, take_at, drop-cons}
use Rattle.std.proofs.Common.{Some, None, Ok, Err}
use Rattle.rules.specs.declared.Rule.TheVariants.{Malformed}
use Rattle.lines.specs.Lines.{Token, number, minus, word}
use Rattle.lines.specs.Scan.{tokens_from, literal_at}
use Rattle.cells.proofs.Laws.{stored as stored-small}
use Rattle.lists.specs.Lists.{lits_at}
use Rattle.lists.specs.Stores.{codes_in, codes_at, ending_at, puts}
use Rattle.lists.proofs.ListLaws.{Listing, listing_list}
use Rattle.lists.proofs.StoreLaws.{puts_more, codes_lost, codes_end, codes_more, codes_listed, length_written}
use Rattle.clauses.specs.declared.Store.{Store}
use Rattle.clauses.specs.Standing.{written_at, stored}
use Rattle.buffers.specs.Buffers.{as_stored, first_codes, Buffered, StoresLine}

-- THE PASS: what is left to keep, kept in the buffer as it is, gives the buffer as it will be
pub record Keeping (bs : List ℕ) (at : ℕ) (b₀ : List ℕ) (i k : ℕ) (b : List ℕ) : Type 0 where
  pub codes : sets b k (codes_at bs i) ≡ sets b₀ 0 (codes_at bs at)

module _ {bs : List ℕ} {at : ℕ} {b₀ : List ℕ} {i k : ℕ} {b : List ℕ} (s : Keeping bs at b₀ i k b) where
  pub keeping_lost : literal_at bs i ≡ None → b ≡ sets b₀ 0 (codes_at bs at)
  keeping_lost p = ap (sets b k) (sym (codes_lost bs i p)) ∙ s.codes

  module _ {x e : ℕ} (p : literal_at bs i ≡ Some (x, e)) {u : List ℕ} (f : u ≡ set b k x) where
    pub keeping_end : x ≡ 0 → u ≡ sets b₀ 0 (codes_at bs at)
    keeping_end z = f ∙ ap (sets b k) (sym (codes_end bs i p z)) ∙ s.codes

    pub keeping_more : (x ≡ 0 → ⊥) → Keeping bs at b₀ e (k + 1) u
    keeping_more z = record {
      codes =
          ap (λ v. sets v (k + 1) (codes_at bs e)) f ∙ ap (λ n. sets (set b k x) n (codes_at bs e)) (add-one k)
          ∙ ap (sets b k) (sym (codes_more bs i p z)) ∙ s.codes;
    }

-- CODES fit a table
small_codes : (ts : List Token) → map (λ x. x % 2147483648) (codes_in ts) ≡ codes_in ts
unfolding codes_in
small_codes [] = refl
small_codes (number n ∷ ts) = ap₂ (λ x l. x ∷ l) (stored-small (omega arith)) (go (eqb n 0) (small_codes ts))
  where
    go : (b : Bool) → map (λ x. x % 2147483648) (codes_in ts) ≡ codes_in ts → map (λ x. x % 2147483648) (cond b [] (codes_in ts)) ≡ cond b [] (codes_in ts)
    go true h = refl
    go false h = h
small_codes (minus n ∷ ts) = ap₂ (λ x l. x ∷ l) (stored-small (omega arith)) (small_codes ts)
small_codes (word w ∷ ts) = refl

-- THE COPY: what is left to store, stored in the table as it is, gives the table as it will be
pub record Copying (xs : List ℕ) (t₀ : List ℤ) (from k : ℕ) (t : List ℤ) : Type 0 where
  pub long : length t ≡ length t₀
  pub text : puts t (from + k) (map as_stored (drop k xs)) ≡ puts t₀ from (map as_stored xs)

pub copying_start : (xs : List ℕ) (t : List ℤ) (from : ℕ) → Copying xs t from 0 t
copying_start xs t from = let e : from + 0 ≡ from = omega arith in record { long = refl; text = ap (λ k. puts t k (map as_stored xs)) e }

module _ {xs : List ℕ} {t₀ : List ℤ} {from k : ℕ} {t : List ℤ} (c : Copying xs t₀ from k t) where
  pub copying_more : k < length xs → {u : List ℤ} → u ≡ set t (from + k) (int (as_stored (get_or xs k 0))) → Copying xs t₀ from (k + 1) u
  copying_more l {u} e =
      let x = get_or xs k 0 in
      let i : from + (k + 1) ≡ from + k + 1 = omega arith in record {
        long = ap length e ∙ length-set t (from + k) (int (as_stored x)) ∙ c.long;
        text =
            ap₂ (λ j v. puts v j (map as_stored (drop (k + 1) xs))) i e
            ∙ sym (puts_more t (from + k) (as_stored x) (map as_stored (drop (k + 1) xs)))
            ∙ ap (λ j. puts t (from + k) (as_stored x ∷ map as_stored (drop j xs))) (add-one k)
            ∙ ap (λ l. puts t (from + k) (map as_stored l)) (sym (drop-cons xs k 0 l)) ∙ c.text;
      }

  pub copying_end : length xs ≤ k → t ≡ puts t₀ from (map as_stored xs)
  unfolding puts
  copying_end l = ap (λ l. puts t (from + k) (map as_stored l)) (sym (drop_of_length-le xs {i = k} l)) ∙ c.text

-- THE LINE STORED from the buffer
pub stored_from : (bs : List ℕ) (at n : ℕ) (b : List ℕ) (t : List ℤ) (s : Store) {u : List ℤ} {from : ℕ} → n < length b → from ≡ written_at s
    → u ≡ puts t from (first_codes (n + 1) b) → StoresLine bs at n b t s (Ok tt) u
unfolding stored written_at ending_at
stored_from bs at n b t s l i e o = (
  e ∙ ap₂ (puts t) i (o.codes l),
  sym (ap (λ z. cond z (Ok tt) (Err Malformed)) o.list),
)

length_sets : (xs b : List ℕ) (k : ℕ) → length (sets b k xs) ≡ length b
length_sets [] b k = refl
length_sets (x ∷ xs) b k = length_sets xs (set b k x) (suc k) ∙ length-set b k x

-- WHAT THE PASS LEFT in the buffer
pub buffered : (bs : List ℕ) (at : ℕ) (b : List ℕ) {g : Bool} {n m e : ℕ} {u : List ℕ} → Listing bs at g n m e → m ≤ 16384 → u ≡ sets b 0 (codes_at bs at)
    → Buffered bs at n u
unfolding first_codes codes_at
buffered bs at b {n = n} {u = u} o l e =
    let c = codes_at bs at in
    let size : length c ≡ n + 1
    = ap length (codes_listed bs at o (omega (arith, l))) ∙ length_written (lits_at bs at) ∙ omega (arith, o.count) in
    record {
      list = listing_list bs at o;
      codes = λ h.
          ap (λ v. map (λ x. x % 2147483648) (take (n + 1) v)) (e ∙ sets-eq c b 0 (omega (arith, size, h, ap length e, length_sets c b 0)))
          ∙ ap (map (λ x. x % 2147483648)) (take_at c (drop (0 + length c) b) (n + 1) size)
          ∙ small_codes (tokens_from bs at);
    }
