-- Laws of the variables of a list: one by one, and of a list that the first pass has read. Assumes nothing.
use mathlib.Core.Path.{◌≡◌, refl, ap, ap₂, sym, ◌∙◌}
use mathlib.Core.Bool.{Bool, true, false, ◌&&◌, cond}
use mathlib.Core.List.{List, [], ◌∷◌}
use mathlib.Core.Logic.{⊎_elim}
use mathlib.Core.Option.{some}
use Prim.Native.Nat.{ℕ, zero, suc, ◌+◌, ◌/◌, ◌<◌, ◌≤◌, min, max}
use native.Mathlib.Omega.{arith}
use lib.Dec.{eqb}
use borrow.Author.Tests.{eq-eqb, ne_eqb, eqb-true, eqb-false}
use Rattle.std.proofs.Common.{Option, Some, None, length}
use Rattle.std.specs.List.{list_all as all}
use Rattle.lines.specs.Lines.{Token, number, minus, word}
use Rattle.lines.specs.Scan.{cap, tokens_from, literal_at}
use Rattle.lines.proofs.Words.{Told, Coded, literal_told, literal_lost}
use Rattle.rules.specs.Basics.{greatest}
use Rattle.rules.specs.Literals.{pos, neg, Lits, vars}
use Rattle.rules.specs.Forms.{up_to_zero, literal}
use Rattle.lists.specs.Lists.{lits_at, is_list}
use Rattle.lists.proofs.ListLaws.{upto_zero, upto_more, pair_parts, ahead_some, Listing, is_lost, is_end, is_more}
use Rattle.mapped.specs.Numbers.{numbers_in, numbers_at, end_of, ruled, items_from, Further}

-- THE END OF A LIST
end_bad : (bs : List ℕ) (i : ℕ) → is_list bs i ≡ false → 2 ≡ end_of bs i
unfolding end_of
end_bad bs i e = sym (ap (λ b. cond b 0 2) e)

end_zero : (bs : List ℕ) (i : ℕ) → is_list bs i ≡ true → 0 ≡ end_of bs i
unfolding end_of
end_zero bs i e = sym (ap (λ b. cond b 0 2) e)

end_same : (bs : List ℕ) (i j : ℕ) → is_list bs i ≡ is_list bs j → end_of bs i ≡ end_of bs j
unfolding end_of
end_same bs i j e = ap (λ b. cond b 0 2) e

pub list_ends : (bs : List ℕ) (at : ℕ) → is_list bs at ≡ true → end_of bs at ≡ 0
list_ends bs at e = sym (end_zero bs at e)

-- THE NEXT NUMBER
module _ (bs : List ℕ) (i : ℕ) where
  pub number_lost : literal_at bs i ≡ None → (numbers_at bs i ≡ []) × (2 ≡ end_of bs i)
  unfolding numbers_at numbers_in
  number_lost p = (⊎_elim (λ e. ap numbers_in e) (λ w. ap numbers_in w.2) (literal_lost bs i p), end_bad bs i (is_lost bs i p))

  module _ {x e : ℕ} (p : literal_at bs i ≡ Some (x, e)) where
    told : Told bs i x e
    told = literal_told bs i p

    pub number_end : x ≡ 0 → (numbers_at bs i ≡ []) × (end_of bs i ≡ 0)
    unfolding numbers_at numbers_in
    number_end z = (go told.token told.code told.first, list_ends bs i (is_end bs i p z))
      where
        go : (t : Token) → Coded t x → tokens_from bs i ≡ t ∷ tokens_from bs e → numbers_in (tokens_from bs i) ≡ []
        go (number n) c f = ap numbers_in f ∙ ap (λ b. cond b [] (min cap n ∷ numbers_in (tokens_from bs e))) (eq-eqb n 0 (omega arith))
        go (minus n) c f = absurd (omega (arith, c.0))
        go (word w) c f = absurd c

    pub number_more : (x ≡ 0 → ⊥) → (numbers_at bs i ≡ x / 2 ∷ numbers_at bs e) × (end_of bs i ≡ end_of bs e) × (0 < x / 2) × (x / 2 ≤ cap)
    unfolding numbers_at numbers_in
    number_more z = go told.token told.code told.first
      where
        go : (t : Token) → Coded t x → tokens_from bs i ≡ t ∷ tokens_from bs e
            → (numbers_in (tokens_from bs i) ≡ x / 2 ∷ numbers_in (tokens_from bs e)) × (end_of bs i ≡ end_of bs e) × (0 < x / 2) × (x / 2 ≤ cap)
        go (number n) c f =
            let h : n ≡ 0 → ⊥ = λ k. z (omega arith) in
            let v : min cap n ≡ x / 2 = omega arith in
            (ap numbers_in f ∙ ap₂ (λ b v. cond b [] (v ∷ numbers_in (tokens_from bs e))) (ne_eqb n 0 h) v, end_same bs i e (is_more bs i p z), omega arith, omega arith)
        go (minus n) c f =
            let h : n ≡ 0 → ⊥ = c.1 in
            let d = c.0 in
            let v : min cap n ≡ x / 2 = omega arith in
            (ap numbers_in f ∙ ap (λ v. v ∷ numbers_in (tokens_from bs e)) v, end_same bs i e (is_more bs i p z), omega arith, omega arith)
        go (word w) c f = absurd c

    -- and the next place is further on
    pub place_further : Further bs (Some i) (Some e)
    place_further = (told.further, told.within)

    pub number_further : items_from bs (Some e) < items_from bs (Some i)
    number_further = let f = told.further in let w = told.within in omega arith

-- A VARIABLE takes a byte at least
module _ (bs : List ℕ) (i n : ℕ) (h : length bs ≤ i + n) (later : (e : ℕ) → i < e → e ≤ length bs → length (numbers_at bs e) < n) where
  few_read : (x e : ℕ) → literal_at bs i ≡ Some (x, e) → (b : Bool) → eqb x 0 ≡ b → length (numbers_at bs i) ≤ n
  few_read x e p true z = omega (arith, ap length (number_end bs i p (eqb-true x 0 z)).0)
  few_read x e p false z =
      let f = (told bs i p).further in
      let w = (told bs i p).within in
      let l = later e f w in omega (arith, ap length (number_more bs i p (eqb-false x 0 z)).0)

  few_here : (o : Option (ℕ × ℕ)) → literal_at bs i ≡ o → length (numbers_at bs i) ≤ n
  few_here None p = omega (arith, ap length (number_lost bs i p).0)
  few_here (Some r) p = few_read r.0 r.1 p (eqb r.0 0) refl

pub numbers_few : (bs : List ℕ) (n i : ℕ) → length bs ≤ i + n → length (numbers_at bs i) ≤ n
numbers_few bs zero i h = few_here bs i 0 h (λ e f w. absurd (omega arith)) (literal_at bs i) refl
numbers_few bs (suc n) i h = few_here bs i (suc n) h (λ e f w. let l = numbers_few bs n e (omega arith) in omega arith) (literal_at bs i) refl

-- A RULE'S REFUSAL, where the list ends with its zero
module _ {n k e : ℕ} {b : Bool} (q : n ≡ ruled k b e) where
  pub ruled_kept : e ≡ 0 → (k ≡ 0 → ⊥) → n ≡ 0 → b ≡ true
  unfolding ruled
  ruled_kept z h w = go b q
    where
      go : (b : Bool) → n ≡ cond b e k → b ≡ true
      go true q = refl
      go false q = absurd (h (sym q ∙ w))

  pub ruled_broken : e ≡ 0 → (n ≡ 0 → ⊥) → (b ≡ false) × (n ≡ k)
  unfolding ruled
  ruled_broken z w = go b q
    where
      go : (b : Bool) → n ≡ cond b e k → (b ≡ false) × (n ≡ k)
      go true q = absurd (w (q ∙ z))
      go false q = (refl, q)

pub ruled_no : (k e : ℕ) {b : Bool} → b ≡ false → k ≡ ruled k b e
unfolding ruled
ruled_no k e q = sym (ap (λ b. cond b e k) q)

-- A test of every number of a list, one by one: ns and e are what is left of the list ns₀ with the end e₀
pub record Testing (P : ℕ → Bool) (ns₀ : List ℕ) (e₀ : ℕ) (ns : List ℕ) (e : ℕ) : Type 0 where
  pub tests : all P ns ≡ all P ns₀
  pub ends : e ≡ e₀

module _ (k : ℕ) {P : ℕ → Bool} {ns₀ : List ℕ} {e₀ : ℕ} {ns : List ℕ} {e : ℕ} (h : Testing P ns₀ e₀ ns e) where
  pub all_end : ns ≡ [] → {n : ℕ} → n ≡ e → n ≡ ruled k (all P ns₀) e₀
  unfolding ruled
  all_end z i = i ∙ h.ends ∙ ap (λ b. cond b e₀ k) (ap (all P) (sym z) ∙ h.tests)

  module _ {v : ℕ} {rest : List ℕ} (o : ns ≡ v ∷ rest) where
    head : {b : Bool} → P v ≡ b → b && all P rest ≡ all P ns₀
    head t = ap (λ b. b && all P rest) (sym t) ∙ ap (all P) (sym o) ∙ h.tests

    pub all_more : P v ≡ true → {d : ℕ} → e ≡ d → Testing P ns₀ e₀ rest d
    all_more t i = record { tests = head t; ends = sym i ∙ h.ends }

    pub all_fails : P v ≡ false → k ≡ ruled k (all P ns₀) e₀
    unfolding ruled
    all_fails t = ap (λ b. cond b e₀ k) (head t)

-- A LIST THAT THE FIRST PASS HAS READ
numbers_read : (ts : List Token) (c : Lits) (rest : List Token) → up_to_zero literal ts ≡ some (c, rest) → greatest (vars c) ≤ cap → numbers_in ts ≡ vars c
unfolding numbers_in
numbers_read [] c rest e h = absurd (let z : ◌≡◌ {A = ℕ} 0 1 = cc in omega arith)
numbers_read (number n ∷ ts) c rest e h = go (eqb n 0) refl (numbers_read ts)
  where
    go : (b : Bool) → eqb n 0 ≡ b → ((c : Lits) (rest : List Token) → up_to_zero literal ts ≡ some (c, rest) → greatest (vars c) ≤ cap → numbers_in ts ≡ vars c)
        → cond b [] (min cap n ∷ numbers_in ts) ≡ vars c
    go true z i = ap vars (pair_parts [] c ts rest (sym (upto_zero literal (number n) ts z) ∙ e)).0
    go false z i =
        let k = ahead_some (pos n) (up_to_zero literal ts) c rest (sym (upto_more literal (number n) ts z) ∙ e) in
        let g : greatest (vars c) ≡ max n (greatest (vars k.0)) = ap (λ c. greatest (vars c)) k.1 in
        let x : min cap n ≡ n = omega arith in
        ap₂ (λ a l. a ∷ l) x (i k.0 rest k.2 (omega arith)) ∙ ap vars (sym k.1)
numbers_read (minus n ∷ ts) c rest e h =
    let k = ahead_some (neg n) (up_to_zero literal ts) c rest e in
    let g : greatest (vars c) ≡ max n (greatest (vars k.0)) = ap (λ c. greatest (vars c)) k.1 in
    let x : min cap n ≡ n = omega arith in
    ap₂ (λ a l. a ∷ l) x (numbers_read ts k.0 rest k.2 (omega arith)) ∙ ap vars (sym k.1)
numbers_read (word w ∷ ts) c rest e h = absurd (let z : ◌≡◌ {A = ℕ} 0 1 = cc in omega arith)

pub numbers_listed : {bs : List ℕ} {at : ℕ} {s : Bool} {n m e : ℕ} → Listing bs at s n m e → m < cap → numbers_at bs at ≡ vars (lits_at bs at)
unfolding numbers_at
numbers_listed {bs} {at} {s} {n} {m} {e} o h =
    let k = o.most in numbers_read (tokens_from bs at) (lits_at bs at) (tokens_from bs e) o.list (omega arith)
