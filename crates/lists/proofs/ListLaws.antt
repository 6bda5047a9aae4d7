-- Laws of a list up to a zero. Assumes nothing.
use mathlib.Core.Path.{◌≡◌, refl, ap, ap₂, sym, ◌∙◌}
use mathlib.Core.Bool.{Bool, true, false, ◌&&◌, ◌||◌}
use mathlib.Core.List.{List, [], ◌∷◌}
use mathlib.Core.Logic.{⊎_elim}
use mathlib.Core.Option.{Option, none, some}
use Prim.Native.Nat.{ℕ, suc, ◌+◌, ◌*◌, ◌/◌, ◌%◌, ◌<◌, ◌≤◌, min, max}
use native.Mathlib.Omega.{arith}
use lib.ListN.{length}
use lib.Dec.{eqb, leb}
use borrow.Author.Tests.{eq-eqb, ne_eqb, eqb-true, eqb-false, le-leb, lt-leb, leb-true, leb-false}
use Rattle.std.specs.List.{list_all as all}
use Rattle.lines.specs.Lines.{Token, number, minus, word, token_of}
use Rattle.std.specs.Prelude.{Option as Answer, None, Some}
use Rattle.lines.specs.Scan.{cap, tokens_from, end_at, word_at, literal_of, literal_at}
use Rattle.lines.proofs.Here.{pair_of}
use Rattle.lines.proofs.Words.{Told, Coded, literal_told, literal_lost}
use Rattle.rules.specs.Basics.{greatest, maybe}
use Rattle.rules.specs.Literals.{Lit, pos, neg, Lits, vars, var}
use Rattle.rules.specs.Codes.{sign}
use Rattle.rules.specs.Forms.{up_to_zero, literal, is_zero, ahead}
use Rattle.rules.proofs.Kit.{and_l, and_r, and_i}
use Rattle.lists.specs.declared.Measure.{Measure}
use Rattle.lists.specs.Lists.{place_after, has_minus, measure, capped, listed, listed_at, lits_at, is_list}
use Rattle.lists.specs.Stores.{in_range}

-- ONE TOKEN OF A LIST
module _ {A : Type 0} (item : Token → Option A) (t : Token) (ts : List Token) where
  abbrev begun : Bool → Option (List A × List Token)
  begun b = elim b [ true ↦ some ([], ts) | false ↦ ahead (item t) (up_to_zero item ts) ]

  pub upto_zero : is_zero t ≡ true → up_to_zero item (t ∷ ts) ≡ some ([], ts)
  upto_zero e = ap begun e

  pub upto_more : is_zero t ≡ false → up_to_zero item (t ∷ ts) ≡ ahead (item t) (up_to_zero item ts)
  upto_more e = ap begun e

-- the reader of a literal and the tokens: what it read is the zero, or a literal with a variable other than 0
pub record More (bs : List ℕ) (i x e : ℕ) : Type 0 where
  pub lit : Lit
  pub code : x ≡ 2 * min cap (var lit) + sign lit
  pub positive : 0 < var lit
  pub list : up_to_zero literal (tokens_from bs i) ≡ ahead (some lit) (up_to_zero literal (tokens_from bs e))

module _ (bs : List ℕ) (i : ℕ) where
  pub none_read : literal_at bs i ≡ None → up_to_zero literal (tokens_from bs i) ≡ none
  none_read p = ⊎_elim (λ e. ap (up_to_zero literal) e) (λ w. ap (up_to_zero literal) w.2) (literal_lost bs i p)

  module _ {x e : ℕ} (p : literal_at bs i ≡ Some (x, e)) where
    told : Told bs i x e
    told = literal_told bs i p

    pub on_the_way : (i < e) × (e ≤ length bs)
    on_the_way = (told.further, told.within)

    zero_token : (t : Token) → Coded t x → x ≡ 0 → is_zero t ≡ true
    zero_token (number n) c z = eq-eqb n 0 (omega arith)
    zero_token (minus n) c z = absurd (omega (arith, c.0))
    zero_token (word w) c z = absurd c

    pub zero_read : x ≡ 0 → up_to_zero literal (tokens_from bs i) ≡ some ([], tokens_from bs e)
    zero_read z = ap (up_to_zero literal) told.first ∙ upto_zero literal told.token (tokens_from bs e) (zero_token told.token told.code z)

    pub more_read : (x ≡ 0 → ⊥) → More bs i x e
    more_read z = go told.token told.code told.first
      where
        go : (t : Token) → Coded t x → tokens_from bs i ≡ t ∷ tokens_from bs e → More bs i x e
        go (number n) c f =
            let h : n ≡ 0 → ⊥ = λ k. z (omega arith) in record {
              lit = pos n;
              code = c ∙ omega arith;
              positive = omega arith;
              list = ap (up_to_zero literal) f ∙ upto_more literal (number n) (tokens_from bs e) (ne_eqb n 0 h);
            }
        go (minus n) c f =
            let h : n ≡ 0 → ⊥ = c.1 in record {
              lit = neg n;
              code = c.0;
              positive = omega arith;
              list = ap (up_to_zero literal) f ∙ upto_more literal (minus n) (tokens_from bs e) refl;
            }
        go (word w) c f = absurd c

literal_end : (t : Token) (e x y : ℕ) → literal_of t e ≡ Some (x, y) → e ≡ y
literal_end (number n) e x y p = (pair_of p).1
literal_end (minus n) e x y p = (pair_of p).1
literal_end (word w) e x y p = absurd (let z : ◌≡◌ {A = ℕ} 0 1 = cc in omega arith)

pub place_read : (bs : List ℕ) (i : ℕ) {x e : ℕ} → literal_at bs i ≡ Some (x, e) → end_at bs i ≡ e
unfolding literal_at
place_read bs i {x} {e} p = literal_end (token_of (word_at bs i)) (end_at bs i) x e p

-- THE FIRST PASS: what is left of a list, merged with what was read of it, is the whole list
abbrev pub plus : Bool → ℕ → Answer (Measure × ℕ) → Answer (Measure × ℕ)
plus s v None = None
plus s v (Some r) = Some (record { negative = s || r.0.negative; count = r.0.count + 1; largest = max v r.0.largest }, r.1)

listed_cons : (bs : List ℕ) (i : ℕ) (l : Lit) (r : Option (Lits × List Token))
    → listed bs i (ahead (some l) r) ≡ plus (eqb (sign l) 1) (min cap (var l)) (listed bs (end_at bs i) r)
unfolding place_after
listed_cons bs i l none = refl
listed_cons bs i l (some r) =
    let a : suc (length r.0) ≡ length r.0 + 1 = omega arith in
    let b : min cap (max (var l) (greatest (vars r.0))) ≡ max (min cap (var l)) (min cap (greatest (vars r.0))) = omega arith in
    ap₂ (λ x y. Some (record { negative = eqb (sign l) 1 || has_minus r.0; count = x; largest = y }, place_after (suc (length r.0)) bs (end_at bs i))) a b

-- WHETHER A LIST STANDS THERE, one token further
module _ (bs : List ℕ) (i : ℕ) where
  pub is_lost : literal_at bs i ≡ None → is_list bs i ≡ false
  unfolding is_list
  is_lost p = ap {A = Option (Lits × List Token)} (λ r. maybe r false (λ r. true)) (none_read bs i p)

  module _ {x e : ℕ} (p : literal_at bs i ≡ Some (x, e)) where
    pub is_end : x ≡ 0 → is_list bs i ≡ true
    unfolding is_list
    is_end z = ap {A = Option (Lits × List Token)} (λ r. maybe r false (λ r. true)) (zero_read bs i p z)

    pub is_more : (x ≡ 0 → ⊥) → is_list bs i ≡ is_list bs e
    unfolding is_list
    is_more z =
        ap {A = Option (Lits × List Token)} (λ r. maybe r false (λ r. true)) (more_read bs i p z).list
        ∙ go (up_to_zero literal (tokens_from bs e))
      where
        go : (r : Option (Lits × List Token)) → maybe (ahead (some (more_read bs i p z).lit) r) false (λ r. true) ≡ maybe r false (λ r. true)
        go none = refl
        go (some r) = refl

pub sign_low : (l : Lit) → sign l ≤ 1
sign_low (pos n) = omega arith
sign_low (neg n) = omega arith

module _ (bs : List ℕ) (i : ℕ) where
  list_lost : literal_at bs i ≡ None → listed_at bs i ≡ None
  unfolding listed_at
  list_lost p = ap (listed bs i) (none_read bs i p)

  module _ {x e : ℕ} (p : literal_at bs i ≡ Some (x, e)) where
    list_end : x ≡ 0 → listed_at bs i ≡ Some (measure [], e)
    unfolding listed_at place_after
    list_end z = ap (listed bs i) (zero_read bs i p z) ∙ ap (λ n. Some (measure [], n)) (place_read bs i p)

    list_next : (x ≡ 0 → ⊥) → listed_at bs i ≡ plus (eqb (x % 2) 1) (x / 2) (listed_at bs e)
    unfolding listed_at
    list_next z =
        let t = more_read bs i p z in
        let h = t.code in
        let k = sign_low t.lit in
        let a : sign t.lit ≡ x % 2 = omega arith in
        let b : min cap (var t.lit) ≡ x / 2 = omega arith in
        ap (listed bs i) t.list ∙ listed_cons bs i t.lit (up_to_zero literal (tokens_from bs e))
        ∙ ap (λ j. plus (eqb (sign t.lit) 1) (min cap (var t.lit)) (listed bs j (up_to_zero literal (tokens_from bs e)))) (place_read bs i p)
        ∙ ap₂ (λ u v. plus (eqb u 1) v (listed bs e (up_to_zero literal (tokens_from bs e)))) a b

abbrev pub merged : Bool → ℕ → ℕ → Answer (Measure × ℕ) → Answer (Measure × ℕ)
merged s n m None = None
merged s n m (Some r) = Some (record { negative = s || r.0.negative; count = n + r.0.count; largest = max m r.0.largest }, r.1)

either_none : (s : Bool) → s || false ≡ s
either_none true = refl
either_none false = refl

either_three : (s u t : Bool) → s || (u || t) ≡ (s || u) || t
either_three true u t = refl
either_three false u t = refl

pub merged_none : (r : Answer (Measure × ℕ)) → merged false 0 0 r ≡ r
merged_none None = refl
merged_none (Some r) =
    let b : 0 + r.0.count ≡ r.0.count = omega arith in
    let c : max 0 r.0.largest ≡ r.0.largest = omega arith in
    ap₂ (λ x y. Some (record { negative = r.0.negative; count = x; largest = y }, r.1)) b c

merged_more : (s : Bool) (n m : ℕ) (u : Bool) (v : ℕ) (r : Answer (Measure × ℕ)) → merged s n m (plus u v r) ≡ merged (s || u) (n + 1) (max m v) r
merged_more s n m u v None = refl
merged_more s n m u v (Some r) =
    let b : n + (r.0.count + 1) ≡ n + 1 + r.0.count = omega arith in
    let c : max m (max v r.0.largest) ≡ max (max m v) r.0.largest = omega arith in
    ap (λ t. Some (record { negative = t; count = n + (r.0.count + 1); largest = max m (max v r.0.largest) }, r.1)) (either_three s u r.0.negative)
    ∙ ap₂ (λ x y. Some (record { negative = (s || u) || r.0.negative; count = x; largest = y }, r.1)) b c

merged_end : (s : Bool) (n m e : ℕ) → merged s n m (Some (measure [], e)) ≡ Some (record { negative = s; count = n; largest = m }, e)
merged_end s n m e =
    let b : n + 0 ≡ n = omega arith in
    let c : max m 0 ≡ m = omega arith in
    ap (λ t. Some (record { negative = t; count = n + 0; largest = max m 0 }, e)) (either_none s)
    ∙ ap₂ (λ x y. Some (record { negative = s; count = x; largest = y }, e)) b c

module _ (bs : List ℕ) (at i : ℕ) (s : Bool) (n m : ℕ) (h : merged s n m (listed_at bs i) ≡ listed_at bs at) where
  pub turn_lost : literal_at bs i ≡ None → None ≡ listed_at bs at
  turn_lost p = ap (merged s n m) (sym (list_lost bs i p)) ∙ h

  module _ {x e : ℕ} (p : literal_at bs i ≡ Some (x, e)) where
    pub turn_end : x ≡ 0 → Some (record { negative = s; count = n; largest = m }, e) ≡ listed_at bs at
    turn_end z = sym (merged_end s n m e) ∙ ap (merged s n m) (sym (list_end bs i p z)) ∙ h

    pub turn_more : {u : Bool} {v : ℕ} → (x ≡ 0 → ⊥) → u ≡ s || eqb (x % 2) 1 → v ≡ max m (x / 2) → merged u (n + 1) v (listed_at bs e) ≡ listed_at bs at
    turn_more {u} {v} z f g =
        ap₂ (λ a b. merged a (n + 1) b (listed_at bs e)) f g
        ∙ sym (merged_more s n m (eqb (x % 2) 1) (x / 2) (listed_at bs e)) ∙ ap (merged s n m) (sym (list_next bs i p z)) ∙ h

    -- the same from the place where an iterator goes on
    pub turn_on : {u : Bool} {v j : ℕ} → j ≡ e → (x ≡ 0 → ⊥) → u ≡ s || eqb (x % 2) 1 → v ≡ max m (x / 2) → merged u (n + 1) v (listed_at bs j) ≡ listed_at bs at
    turn_on {u} {v} k z f g = ap (λ i. merged u (n + 1) v (listed_at bs i)) k ∙ turn_more z f g

-- WHAT A LIST TELLS: its literals, how many there are, that none has variable 0, and the tokens after its zero
pub record Listing (bs : List ℕ) (at : ℕ) (s : Bool) (n m e : ℕ) : Type 0 where
  pub list : up_to_zero literal (tokens_from bs at) ≡ some (lits_at bs at, tokens_from bs e)
  pub sign : s ≡ has_minus (lits_at bs at)
  pub count : n ≡ length (lits_at bs at)
  pub most : m ≡ capped (vars (lits_at bs at))
  pub positive : all (λ v. leb 1 v) (vars (lits_at bs at)) ≡ true
  pub after : e ≡ place_after (suc (length (lits_at bs at))) bs at
  pub further : at + n < e
  pub within : e ≤ length bs

pub listing_list : (bs : List ℕ) (at : ℕ) {s : Bool} {n m e : ℕ} → Listing bs at s n m e → is_list bs at ≡ true
unfolding is_list
listing_list bs at o = ap {A = Option (Lits × List Token)} (λ r. maybe r false (λ r. true)) o.list

pub pair_parts : {A : Type 0} (c d : A) (ts us : List Token) → ◌≡◌ {A = Option (A × List Token)} (some (c, ts)) (some (d, us)) → (c ≡ d) × (ts ≡ us)
pair_parts {A} c d ts us e = (ap (λ x. (out x).0) e, ap (λ x. (out x).1) e)
  where
    out : Option (A × List Token) → A × List Token
    out none = (c, ts)
    out (some p) = p

pub ahead_some : {A : Type 0} (a : A) (r : Option (List A × List Token)) (c : List A) (ts : List Token) → ahead (some a) r ≡ some (c, ts)
    → (d : List A) × (c ≡ a ∷ d) × (r ≡ some (d, ts))
ahead_some a none c ts e = absurd (let z : ◌≡◌ {A = ℕ} 0 1 = cc in omega arith)
ahead_some a (some r) c ts e =
    let k = pair_parts (a ∷ r.0) c r.1 ts e in
    (r.0, sym k.0, ap (λ x. some (r.0, x)) k.1)

-- the literals of a list one by one
abbrev Passed : List ℕ → ℕ → Lits → List Token → Type 0
Passed bs at c ts =
    (ts ≡ tokens_from bs (place_after (suc (length c)) bs at)) × (all (λ v. leb 1 v) (vars c) ≡ true)
    × (at + length c < place_after (suc (length c)) bs at) × (place_after (suc (length c)) bs at ≤ length bs)

passed : (bs : List ℕ) (c : Lits) (at : ℕ) (ts : List Token) → up_to_zero literal (tokens_from bs at) ≡ some (c, ts) → Passed bs at c ts
unfolding place_after
passed bs [] at ts h = go (literal_at bs at) refl
  where
    go : (r : Answer (ℕ × ℕ)) → literal_at bs at ≡ r → Passed bs at [] ts
    go None p = absurd (let k = sym (none_read bs at p) ∙ h in let z : ◌≡◌ {A = ℕ} 0 1 = cc in omega arith)
    go (Some r) p = test (eqb r.0 0) refl
      where
        test : (t : Bool) → eqb r.0 0 ≡ t → Passed bs at [] ts
        test true z =
            let k = pair_parts [] [] (tokens_from bs r.1) ts (sym (zero_read bs at p (eqb-true r.0 0 z)) ∙ h) in
            let w = on_the_way bs at p in
            let d = place_read bs at p in
            (sym k.1 ∙ ap (tokens_from bs) (sym (place_read bs at p)), refl, omega arith, omega arith)
        test false z =
            let t = more_read bs at p (eqb-false r.0 0 z) in
            let k = ahead_some t.lit (up_to_zero literal (tokens_from bs r.1)) [] ts (sym t.list ∙ h) in
            absurd (let y = k.1 in let z : ◌≡◌ {A = ℕ} 0 1 = cc in omega arith)
passed bs (l ∷ c) at ts h = go (literal_at bs at) refl (passed bs c (end_at bs at) ts)
  where
    go : (r : Answer (ℕ × ℕ)) → literal_at bs at ≡ r → (up_to_zero literal (tokens_from bs (end_at bs at)) ≡ some (c, ts) → Passed bs (end_at bs at) c ts) → Passed bs at (l ∷ c) ts
    go None p i = absurd (let k = sym (none_read bs at p) ∙ h in let z : ◌≡◌ {A = ℕ} 0 1 = cc in omega arith)
    go (Some r) p i = test (eqb r.0 0) refl
      where
        test : (t : Bool) → eqb r.0 0 ≡ t → Passed bs at (l ∷ c) ts
        test true z =
            let k = pair_parts [] (l ∷ c) (tokens_from bs r.1) ts (sym (zero_read bs at p (eqb-true r.0 0 z)) ∙ h) in
            absurd (let y = k.0 in let z : ◌≡◌ {A = ℕ} 0 1 = cc in omega arith)
        test false z =
            let t = more_read bs at p (eqb-false r.0 0 z) in
            let k = ahead_some t.lit (up_to_zero literal (tokens_from bs r.1)) (l ∷ c) ts (sym t.list ∙ h) in
            let y = k.1 in
            let a : l ≡ t.lit = cc in
            let b : c ≡ k.0 = cc in
            let j = i (ap (λ n. up_to_zero literal (tokens_from bs n)) (place_read bs at p) ∙ k.2 ∙ ap (λ d. some (d, ts)) (sym b)) in
            (j.0, ap₂ (λ u v. u && v) (ap (λ l. leb 1 (var l)) a ∙ le-leb 1 (var t.lit) t.positive) j.1, omega (arith, on_the_way bs at p, place_read bs at p, j.2), j.3)

module _ (bs : List ℕ) (at : ℕ) where
  pub listed_lost : listed_at bs at ≡ None → up_to_zero literal (tokens_from bs at) ≡ none
  unfolding listed_at
  listed_lost h = go (up_to_zero literal (tokens_from bs at)) h
    where
      go : (r : Option (Lits × List Token)) → listed bs at r ≡ None → r ≡ none
      go none e = refl
      go (some r) e = absurd (let z : ◌≡◌ {A = ℕ} 0 1 = cc in omega arith)

  pub listed_told : {q : Measure} {e : ℕ} → listed_at bs at ≡ Some (q, e) → Listing bs at q.negative q.count q.largest e
  unfolding listed_at lits_at
  listed_told {q} {e} h = go (up_to_zero literal (tokens_from bs at)) refl h
    where
      go : (r : Option (Lits × List Token)) → up_to_zero literal (tokens_from bs at) ≡ r → listed bs at r ≡ Some (q, e) → Listing bs at q.negative q.count q.largest e
      go none p f = absurd (let z : ◌≡◌ {A = ℕ} 0 1 = cc in omega arith)
      go (some r) p f =
          let l : lits_at bs at ≡ r.0 = ap (λ r. maybe r [] (λ r. r.0)) p in
          let g = pair_of f in
          let a : q.negative ≡ has_minus r.0 = sym (ap (λ q. q.negative) g.0) in
          let b : q.count ≡ length r.0 = sym (ap (λ q. q.count) g.0) in
          let d : q.largest ≡ capped (vars r.0) = sym (ap (λ q. q.largest) g.0) in
          let y : e ≡ place_after (suc (length r.0)) bs at = sym g.1 in
          let k = passed bs r.0 at r.1 p in
          record {
            list = p ∙ ap₂ (λ c ts. some (c, ts)) (sym l) (k.0 ∙ ap (tokens_from bs) (sym y));
            sign = a ∙ ap has_minus (sym l);
            count = b ∙ ap length (sym l);
            most = d ∙ ap (λ c. capped (vars c)) (sym l);
            positive = ap (λ c. all (λ v. leb 1 v) (vars c)) l ∙ k.1;
            after = y ∙ ap (λ c. place_after (suc (length c)) bs at) (sym l);
            further = omega (arith, k.2);
            within = omega (arith, k.3);
          }

-- RANGE: "the greatest is at most"
pub all_low : (n : ℕ) (vs : List ℕ) → all (λ v. leb v n) vs ≡ leb (greatest vs) n
all_low n [] = sym (le-leb 0 n (omega arith))
all_low n (v ∷ vs) = ap (λ t. leb v n && t) (all_low n vs) ∙ go (leb v n) refl (leb (greatest vs) n) refl
  where
    go : (a : Bool) → leb v n ≡ a → (b : Bool) → leb (greatest vs) n ≡ b → a && b ≡ leb (max v (greatest vs)) n
    go true e true f = sym (le-leb (max v (greatest vs)) n (omega (arith, leb-true v n e, leb-true (greatest vs) n f)))
    go true e false f = sym (lt-leb (max v (greatest vs)) n (omega (arith, leb-false (greatest vs) n f)))
    go false e b f = sym (lt-leb (max v (greatest vs)) n (omega (arith, leb-false v n e)))

pub between : (n : ℕ) (vs : List ℕ) → all (λ v. leb 1 v) vs ≡ true → greatest vs ≤ n → in_range n vs ≡ true
between n [] e h = refl
between n (v ∷ vs) e h =
    and_i (leb 1 v && leb v n) (in_range n vs) (and_i (leb 1 v) (leb v n) (and_l (leb 1 v) (all (λ v. leb 1 v) vs) e) (le-leb v n (omega arith)))
    (between n vs (and_r (leb 1 v) (all (λ v. leb 1 v) vs) e) (omega arith))

module _ {bs : List ℕ} {at : ℕ} {s : Bool} {n m e : ℕ} (o : Listing bs at s n m e) where
  -- a limit below the cap, against the largest variable as it was read
  pub listed_low : {k : ℕ} → m ≤ k → k < cap → greatest (vars (lits_at bs at)) ≤ k
  listed_low h l = let x = o.most in omega arith

  pub listed_high : {k : ℕ} → k < m → k < greatest (vars (lits_at bs at))
  listed_high h = let x = o.most in omega arith

  pub listed_range : {k : ℕ} → m ≤ k → k < cap → in_range k (vars (lits_at bs at)) ≡ true
  listed_range {k} h l = between k (vars (lits_at bs at)) o.positive (listed_low h l)
