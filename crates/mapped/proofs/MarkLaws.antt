-- Rule 7: copies noted one after the other, and what the marks show of the mapping. Assumes nothing.
use mathlib.Core.Path.{◌≡◌, refl, ap, ap₂, sym, ◌∙◌}
use mathlib.Core.Bool.{Bool, true, false, not, ◌&&◌, ◌||◌, cond, and-false, false≢true}
use mathlib.Core.List.Memᴰ
use mathlib.Core.List.{List, [], ◌∷◌, ◌++◌}
use Prim.Native.Nat.{ℕ, ◌/◌, ◌<◌, ◌≤◌}
use native.Mathlib.Omega.{arith}
use lib.ListN.{length, get_or, set, length-set, replicate, get_or-replicate, length-replicate}
use lib.Seq.{get_or-set_same, get_or-set_other}
use lib.Dec.{eqb, leb}
use borrow.Author.Tests.{eq-eqb, ne_eqb, eqb-true, eqb-false, le-leb, lt-leb, leb-true}
use Rattle.std.specs.List.{list_all as all}
use Rattle.rules.specs.Basics.{is_in, distinct}
use Rattle.rules.specs.Literals.{Lit, Lits, var}
use Rattle.rules.specs.Codes.{code_of}
use Rattle.rules.specs.Expansion.{Copy, copies, copy_vars, is_mapped}
use Rattle.rules.proofs.Kit.{clear, and_l, and_r, by_yes, same_test, either, In, all_in}
use Rattle.rules.proofs.Distinct.{in_is_in, is_in_in, distinct_tail, distinct_cons, distinct_new, distinct_swap}
use Rattle.lists.specs.Stores.{in_range}
use Rattle.lists.proofs.ListLaws.{sign_low}
use Rattle.mapped.specs.Numbers.{ruled}
use Rattle.mapped.specs.Marks.{is_noted, is_free, Marking, marking, noting, Notes, NotedShown}

-- A TURN: ps and e are what is left to note of the list ps₀ with the end e₀; noted in the marks as they are, it is the whole
pub record Noting (ps₀ ns₀ : List ℕ) (e₀ : ℕ) (ps ns : List ℕ) (e : ℕ) : Type 0 where
  pub marks : noting ps ns ≡ noting ps₀ ns₀
  pub ends : e ≡ e₀

module _ {ps₀ ns₀ : List ℕ} {e₀ : ℕ} {ps ns : List ℕ} {e : ℕ} (h : Noting ps₀ ns₀ e₀ ps ns e) (k : ℕ) where
  noted : (b : Bool) {r : ℕ} → marking b ns ≡ noting ps ns → r ≡ ruled k b e₀ → Notes ps₀ ns₀ k e₀ r ns
  noted b i q = record {
    answer = q ∙ ap (λ (m : Marking). ruled k m.fresh e₀) (i ∙ h.marks);
    marks = ap (λ (m : Marking). m.marks) (i ∙ h.marks);
  }

  pub noting_end : ps ≡ [] → {n : ℕ} → n ≡ e → Notes ps₀ ns₀ k e₀ n ns
  unfolding noting ruled
  noting_end z i = noted true (ap (λ ps. noting ps ns) (sym z)) (i ∙ h.ends)

  module _ {p : ℕ} {rest : List ℕ} (o : ps ≡ p ∷ rest) where
    abbrev step : Bool → Marking
    step b = cond b (noting rest (set ns p 1)) (marking false ns)

    one_copy : step (is_free ns p) ≡ noting ps ns
    unfolding noting
    one_copy = ap (λ ps. noting ps ns) (sym o)

    pub noting_high : 16384 < p → Notes ps₀ ns₀ k e₀ k ns
    unfolding is_free ruled
    noting_high l = noted false (ap (λ b. step (b && eqb (get_or ns p 0) 0)) (sym (lt-leb p 16384 l)) ∙ one_copy) refl

    pub noting_old : (get_or ns p 0 ≡ 0 → ⊥) → Notes ps₀ ns₀ k e₀ k ns
    unfolding is_free ruled
    noting_old n =
        noted false (ap step (sym (ap (λ b. leb p 16384 && b) (ne_eqb (get_or ns p 0) 0 n) ∙ and-false (leb p 16384))) ∙ one_copy) refl

    pub noting_more : p ≤ 16384 → get_or ns p 0 ≡ 0 → {d : ℕ} → e ≡ d → Noting ps₀ ns₀ e₀ rest (set ns p 1) d
    unfolding is_free
    noting_more l z i = record {
      marks = ap₂ (λ b d. step (b && d)) (sym (le-leb p 16384 l)) (sym (eq-eqb (get_or ns p 0) 0 z)) ∙ one_copy ∙ h.marks;
      ends = sym i ∙ h.ends;
    }

-- THE MARKS OF A TEST: 1 where it passes, 0 elsewhere
abbrev pub Marked : List ℕ → (ℕ → Bool) → Type 0
Marked ns P = (q : ℕ) → q ≤ 16384 → get_or ns q 0 ≡ cond (P q) 1 0

marked_more : (ns : List ℕ) (P : ℕ → Bool) (p : ℕ) → p < length ns → Marked ns P → Marked (set ns p 1) (λ q. eqb q p || P q)
marked_more ns P p l h q b = go (eqb q p) refl
  where
    go : (x : Bool) → eqb q p ≡ x → get_or (set ns p 1) q 0 ≡ cond (x || P q) 1 0
    go true e = ap (λ n. get_or (set ns p 1) n 0) (eqb-true q p e) ∙ get_or-set_same ns p 1 0 l
    go false e = get_or-set_other ns p q 1 0 (eqb-false q p e) ∙ h q b

unmarked : (ns : List ℕ) (P : ℕ → Bool) (q : ℕ) → Marked ns P → q ≤ 16384 → eqb (get_or ns q 0) 0 ≡ not (P q)
unmarked ns P q h b = ap (λ n. eqb n 0) (h q b) ∙ go (P q)
  where
    go : (x : Bool) → eqb (cond x 1 0) 0 ≡ not x
    go true = refl
    go false = refl

-- the order in which numbers are put before others does not matter
distinct_move : (p : ℕ) (ps ms : List ℕ) → distinct (ps ++ (p ∷ ms)) ≡ distinct (p ∷ (ps ++ ms))
distinct_move p ps ms =
    same_test (distinct (ps ++ (p ∷ ms))) (distinct (p ∷ (ps ++ ms)))
    (λ d.
    let s = distinct_swap ps (p ∷ ms) d in
    distinct_cons p (ps ++ ms)
    (λ i. distinct_new p (ms ++ ps) s (either (Memᴰ.append_right ms) (Memᴰ.append_left ps) (Memᴰ.append_cases ps i)))
    (distinct_swap ms ps (distinct_tail p (ms ++ ps) s)))
    (λ d.
    distinct_swap (p ∷ ms) ps
    (distinct_cons p (ms ++ ps)
    (λ i. distinct_new p (ps ++ ms) d (either (Memᴰ.append_right ps) (Memᴰ.append_left ms) (Memᴰ.append_cases ms i)))
    (distinct_swap ps ms (distinct_tail p (ps ++ ms) d))))

-- WHETHER ALL WERE FRESH, the marks being those of ms
pub noting_fresh : (ps ns ms : List ℕ) → length ns ≡ 16385 → distinct ms ≡ true → Marked ns (is_in ms)
    → (noting ps ns).fresh ≡ all (λ p. leb p 16384) ps && distinct (ps ++ ms)
unfolding noting is_free
noting_fresh [] ns ms l d h = sym d
noting_fresh (p ∷ ps) ns ms l d h = go (leb p 16384) refl (noting_fresh ps (set ns p 1) (p ∷ ms))
  where
    rest : Marking
    rest = noting ps (set ns p 1)

    low : Bool
    low = all (λ p. leb p 16384) ps

    Later : Type 0
    Later = length (set ns p 1) ≡ 16385 → distinct (p ∷ ms) ≡ true → Marked (set ns p 1) (is_in (p ∷ ms)) → rest.fresh ≡ low && distinct (ps ++ (p ∷ ms))

    test : p ≤ 16384 → (x : Bool) → is_in ms p ≡ x → Later → (cond (not x) rest (marking false ns)).fresh ≡ low && distinct (p ∷ (ps ++ ms))
    test b true e i =
        sym (ap (λ x. low && x) (by_yes (distinct (p ∷ (ps ++ ms))) (λ d. distinct_new p (ps ++ ms) d (Memᴰ.append_right ps (is_in_in ms p e)))) ∙ and-false low)
    test b false e i =
        i (length-set ns p 1 ∙ l) (distinct_cons p ms (λ j. clear (in_is_in ms p j) e) d) (marked_more ns (is_in ms) p (omega arith) h)
        ∙ ap (λ x. low && x) (distinct_move p ps ms)

    go : (x : Bool) → leb p 16384 ≡ x → Later
        → (cond (x && eqb (get_or ns p 0) 0) rest (marking false ns)).fresh ≡ (x && low) && distinct (p ∷ (ps ++ ms))
    go true e i =
        let b = leb-true p 16384 e in
        ap (λ x. (cond x rest (marking false ns)).fresh) (unmarked ns (is_in ms) p h b) ∙ test b (is_in ms p) refl i
    go false e i = refl

-- THE MARKS THEN
noting_marks : (ps ns : List ℕ) (P : ℕ → Bool) → length ns ≡ 16385 → Marked ns P → (noting ps ns).fresh ≡ true
    → Marked (noting ps ns).marks (λ q. is_in ps q || P q)
unfolding noting is_free
noting_marks [] ns P l h f = h
noting_marks (p ∷ ps) ns P l h f = go (leb p 16384) refl (eqb (get_or ns p 0) 0) f (noting_marks ps (set ns p 1) (λ q. eqb q p || P q))
  where
    rest : Marking
    rest = noting ps (set ns p 1)

    swap : (a b c : Bool) → a || (b || c) ≡ (b || a) || c
    swap true true c = refl
    swap true false c = refl
    swap false true c = refl
    swap false false c = refl

    go : (x : Bool) → leb p 16384 ≡ x → (y : Bool) → (cond (x && y) rest (marking false ns)).fresh ≡ true
        → (length (set ns p 1) ≡ 16385 → Marked (set ns p 1) (λ q. eqb q p || P q) → rest.fresh ≡ true → Marked rest.marks (λ q. is_in ps q || (eqb q p || P q)))
        → Marked (cond (x && y) rest (marking false ns)).marks (λ q. (eqb q p || is_in ps q) || P q)
    go true e true f i = λ q b.
        let k = leb-true p 16384 e in
        i (length-set ns p 1 ∙ l) (marked_more ns P p (omega arith) h) f q b ∙ ap (λ x. cond x 1 0) (swap (is_in ps q) (eqb q p) (P q))
    go true e false f i = absurd (false≢true f)
    go false e y f i = absurd (false≢true f)

noting_long : (ps ns : List ℕ) → length (noting ps ns).marks ≡ length ns
unfolding noting
noting_long [] ns = refl
noting_long (p ∷ ps) ns = go (is_free ns p) (noting_long ps (set ns p 1))
  where
    go : (x : Bool) → length (noting ps (set ns p 1)).marks ≡ length (set ns p 1) → length (cond x (noting ps (set ns p 1)) (marking false ns)).marks ≡ length ns
    go true i = i ∙ length-set ns p 1
    go false i = refl

-- no marks
pub none_marked : Marked (replicate 16385 0) (is_in [])
none_marked q b = get_or-replicate 16385 q 0 0 (omega arith)

-- THE MARKS AND THE MAPPING
pub mapped_in_lem : (m : List Copy) (p : ℕ) → is_in (copy_vars m) p ≡ is_mapped m p
mapped_in_lem [] p = refl
mapped_in_lem (c ∷ m) p = ap (λ b. eqb p c.copy || b) (mapped_in_lem m p)

pub mapped_append : (m n : List Copy) (q : ℕ) → is_mapped (m ++ n) q ≡ is_mapped m q || is_mapped n q
mapped_append [] n q = refl
mapped_append (c ∷ m) n q = ap (λ b. eqb q c.copy || b) (mapped_append m n q) ∙ sym (assoc (eqb q c.copy) (is_mapped m q) (is_mapped n q))
  where
    assoc : (a b c : Bool) → (a || b) || c ≡ a || (b || c)
    assoc true b c = refl
    assoc false b c = refl

copies_mapped : (ps es : List ℕ) (ls : Lits) (q : ℕ) → length ps ≡ length es → is_mapped (copies ps es ls) q ≡ is_in ps q
copies_mapped [] es ls q l = refl
copies_mapped (p ∷ ps) [] ls q l = absurd (let m = l in omega arith)
copies_mapped (p ∷ ps) (e ∷ es) ls q l = ap (λ b. eqb q p || b) (copies_mapped ps es ls q (omega arith))

-- no copy is mapped
pub noted_start : NotedShown (replicate 16385 0) []
noted_start = record { long = length-replicate {A = ℕ} 16385 0; low = λ p h. absurd (false≢true h); each = none_marked }

module _ {ns : List ℕ} {m : List Copy} (o : NotedShown ns m) where
  -- RULE 7: "P mapped before, also in its own line"
  pub fresh_rule : (ps : List ℕ) → distinct (copy_vars m) ≡ true → all (λ p. leb p 16384) ps ≡ true
      → (noting ps ns).fresh ≡ distinct (ps ++ copy_vars m)
  fresh_rule ps d r =
      noting_fresh ps ns (copy_vars m) o.long d (λ q b. o.each q b ∙ ap (λ x. cond x 1 0) (sym (mapped_in_lem m q))) ∙ ap (λ x. x && distinct (ps ++ copy_vars m)) r

  pub noted_after : (ps es : List ℕ) (ls : Lits) → length ps ≡ length es → in_range 16384 ps ≡ true → (noting ps ns).fresh ≡ true
      → NotedShown (noting ps ns).marks (m ++ copies ps es ls)
  noted_after ps es ls k r f = record {
    long = noting_long ps ns ∙ o.long;
    low = λ p h. bounds p (is_mapped m p) refl (sym (joined p) ∙ h);
    each = λ p b. noting_marks ps ns (is_mapped m) o.long o.each f p b ∙ ap (λ x. cond x 1 0) (swap (is_in ps p) (is_mapped m p) ∙ sym (joined p));
  }
    where
      joined : (p : ℕ) → is_mapped (m ++ copies ps es ls) p ≡ is_mapped m p || is_in ps p
      joined p = mapped_append m (copies ps es ls) p ∙ ap (λ b. is_mapped m p || b) (copies_mapped ps es ls p k)

      swap : (a b : Bool) → a || b ≡ b || a
      swap true true = refl
      swap true false = refl
      swap false true = refl
      swap false false = refl

      bounds : (p : ℕ) (b : Bool) → is_mapped m p ≡ b → b || is_in ps p ≡ true → (0 < p) × (p ≤ 16384)
      bounds p true e h = o.low p e
      bounds p false e h = ranged_in p (is_in_in ps p h)
        where
          ranged_in : (p : ℕ) → In p ps → (0 < p) × (p ≤ 16384)
          ranged_in p i =
              let b : leb 1 p && leb p 16384 ≡ true = all_in (λ v. leb 1 v && leb v 16384) r i in
              (leb-true 1 p (and_l (leb 1 p) (leb p 16384) b), leb-true p 16384 (and_r (leb 1 p) (leb p 16384) b))

  -- WHETHER A COPY IS MAPPED, by a literal's code
  noted_is : (p : ℕ) → is_noted ns p ≡ is_mapped m p
  unfolding is_noted
  noted_is p = go (leb p 16384) refl (is_mapped m p) refl
    where
      go : (x : Bool) → leb p 16384 ≡ x → (y : Bool) → is_mapped m p ≡ y → x && not (eqb (get_or ns p 0) 0) ≡ y
      go true e y f = ap (λ n. not (eqb n 0)) (o.each p (leb-true p 16384 e) ∙ ap (λ x. cond x 1 0) f) ∙ back y
        where
          back : (y : Bool) → not (eqb (cond y 1 0) 0) ≡ y
          back true = refl
          back false = refl
      go false e true f = absurd (clear (le-leb p 16384 (o.low p f).1) e)
      go false e false f = refl

  pub mapped_rule : (l : Lit) {x : ℕ} → x ≡ code_of l → is_noted ns (x / 2) ≡ is_mapped m (var l)
  mapped_rule l {x} e =
      let s = sign_low l in
      let d : x / 2 ≡ var l = omega arith in
      ap (is_noted ns) d ∙ noted_is (var l)
