-- Laws of the index of the matrix clauses. Assumes nothing.
use mathlib.Core.Path.{◌≡◌, refl, ap, ap₂, sym, ◌∙◌}
use mathlib.Core.Bool.{Bool, true, false, ◌&&◌, cond}
use mathlib.Core.List.{List, [], ◌∷◌, ◌++◌, append_assoc}
use Prim.Native.Nat.{ℕ, zero, suc, ◌+◌, ◌-◌, ◌<◌, ◌≤◌}
use native.Mathlib.Omega.{arith}
use lib.Dec.{eqb, leb, ltb}
use lib.ListN.{length, drop, get_or, set, length-set, length-append, length-take, take-append-drop}
use lib.Seq.{get_or-set_same, get_or-set_other, set_out, drop-drop, drop_at, get_or-drop}
use lib.IntN.{ℤ}
use borrow.Author.Tests.{eq-eqb, ne_eqb, leb-true, leb-false, lt-ltb, le-ltb}
use Rattle.std.specs.List.{list_all as all}
use Rattle.cells.specs.Cells.{cell_at, cells_of}
use Rattle.cells.proofs.Laws.{cells_at}
use Rattle.rules.specs.Literals.{Lits, var, vars}
use Rattle.rules.specs.Codes.{code_of}
use Rattle.rules.specs.Formula.{Formula}
use Rattle.rules.proofs.Kit.{and_l, and_r}
use Rattle.lists.specs.Stores.{written, flat, place_of, in_range}
use Rattle.lists.proofs.StoreLaws.{length_written}
use Rattle.formula.specs.Shown.{FormulaShown}
use Rattle.matrix.specs.Index.{place_at, noted, index_from, index_of, any_from, Indexed}

-- THE LIST OF STARTS
module _ (starts : List ℕ) (i k : ℕ) where
  pub place_inside : i < 8193 → get_or starts i 0 ≡ place_at starts i
  unfolding place_at
  place_inside h = sym (ap (λ b. cond b (get_or starts i 0) 0) (lt-ltb i 8193 h))

  pub noted_inside : i < 8193 → set starts i k ≡ noted starts i k
  unfolding noted
  noted_inside h = sym (ap (λ b. cond b (set starts i k) starts) (lt-ltb i 8193 h))

  pub noted_outside : 8193 ≤ i → starts ≡ noted starts i k
  unfolding noted
  noted_outside h = sym (ap (λ b. cond b (set starts i k) starts) (le-ltb i 8193 h))

  -- a list with a place for each clause keeps what is set
  pub noted_set : length starts ≡ 8193 → set starts i k ≡ noted starts i k
  noted_set w = go (leb 8193 i) refl
    where
      go : (b : Bool) → leb 8193 i ≡ b → set starts i k ≡ noted starts i k
      go true e = set_out starts i k (omega (arith, leb-true 8193 i e, w)) ∙ noted_outside (leb-true 8193 i e)
      go false e = noted_inside (omega (arith, leb-false 8193 i e))

  noted_long : length (noted starts i k) ≡ length starts
  unfolding noted
  noted_long = go (ltb i 8193)
    where
      go : (b : Bool) → length (cond b (set starts i k) starts) ≡ length starts
      go true = length-set starts i k
      go false = refl

  noted_same : length starts ≡ 8193 → i < 8193 → get_or (noted starts i k) i 0 ≡ k
  noted_same w h = ap (λ l. get_or l i 0) (sym (noted_inside h)) ∙ get_or-set_same starts i k 0 (omega arith)

  noted_other : (j : ℕ) → (j ≡ i → ⊥) → get_or (noted starts i k) j 0 ≡ get_or starts j 0
  unfolding noted
  noted_other j h = go (ltb i 8193)
    where
      go : (b : Bool) → get_or (cond b (set starts i k) starts) j 0 ≡ get_or starts j 0
      go true = get_or-set_other starts i j k 0 h
      go false = refl

-- ONE PLACE
module _ (t : List ℤ) (n i k : ℕ) (starts : List ℕ) where
  pub index_end : cell_at t k ≡ 0 → index_from t (suc n) i k starts ≡ index_from t n (i + 1) (k + 1) (noted starts (i + 1) (k + 1))
  unfolding index_from
  index_end e =
      ap (λ b. index_from t n (cond b (i + 1) i) (k + 1) (cond b (noted starts (i + 1) (k + 1)) starts)) (eq-eqb (cell_at t k) 0 e)

  pub index_on : (cell_at t k ≡ 0 → ⊥) → index_from t (suc n) i k starts ≡ index_from t n i (k + 1) starts
  unfolding index_from
  index_on e =
      ap (λ b. index_from t n (cond b (i + 1) i) (k + 1) (cond b (noted starts (i + 1) (k + 1)) starts)) (ne_eqb (cell_at t k) 0 e)

-- THE WALK: what is left to read gives the whole
module _ (t : List ℤ) (used i k : ℕ) (starts whole : List ℕ) (h : k < used) (e : index_from t (used - k) i k starts ≡ whole) {x : ℕ} (r : x ≡ cell_at t k) where
  left : used - k ≡ suc (used - (k + 1))
  left = omega arith

  pub turn_end : x ≡ 0 → {s : List ℕ} → s ≡ noted starts (i + 1) (k + 1) → index_from t (used - (k + 1)) (i + 1) (k + 1) s ≡ whole
  turn_end z q =
      ap (index_from t (used - (k + 1)) (i + 1) (k + 1)) q ∙ sym (index_end t (used - (k + 1)) i k starts (sym r ∙ z))
      ∙ ap (λ n. index_from t n i k starts) (sym left) ∙ e

  pub turn_on : (x ≡ 0 → ⊥) → index_from t (used - (k + 1)) i (k + 1) starts ≡ whole
  turn_on z =
      sym (index_on t (used - (k + 1)) i k starts (λ y. z (r ∙ y))) ∙ ap (λ n. index_from t n i k starts) (sym left) ∙ e

pub walk_start : (t : List ℤ) (used : ℕ) (starts : List ℕ) → index_from t (used - 0) 0 0 starts ≡ index_from t used 0 0 starts
walk_start t used starts = let z : used - 0 ≡ used = omega arith in ap (λ n. index_from t n 0 0 starts) z

pub walk_done : (t : List ℤ) (used i k : ℕ) (starts whole : List ℕ) → used ≤ k → index_from t (used - k) i k starts ≡ whole → starts ≡ whole
unfolding index_from
walk_done t used i k starts whole h e = let z : used - k ≡ 0 = omega arith in ap (λ n. index_from t n i k starts) (sym z) ∙ e

-- starts up to i stay as they are
index_before : (t : List ℤ) (n i k : ℕ) (starts : List ℕ) (j : ℕ) → j ≤ i → get_or (index_from t n i k starts) j 0 ≡ get_or starts j 0
unfolding index_from
index_before t zero i k starts j h = refl
index_before t (suc n) i k starts j h = go (eqb (cell_at t k) 0) (λ i s. index_before t n i (k + 1) s j)
  where
    go : (b : Bool) → ((i : ℕ) (s : List ℕ) → j ≤ i → get_or (index_from t n i (k + 1) s) j 0 ≡ get_or s j 0)
        → get_or (index_from t n (cond b (i + 1) i) (k + 1) (cond b (noted starts (i + 1) (k + 1)) starts)) j 0 ≡ get_or starts j 0
    go true r = r (i + 1) (noted starts (i + 1) (k + 1)) (omega arith) ∙ noted_other starts (i + 1) (k + 1) j (λ e. omega arith)
    go false r = r i starts h

-- what stands at a place, and after it
module _ (xs : List ℕ) (k x : ℕ) (rest : List ℕ) (e : drop k xs ≡ x ∷ rest) where
  head_here : get_or xs k 0 ≡ x
  head_here = let z : k ≡ k + 0 = omega arith in ap (λ n. get_or xs n 0) z ∙ sym (get_or-drop k xs 0 0) ∙ ap (λ l. get_or l 0 0) e

  rest_here : drop (k + 1) xs ≡ rest
  rest_here = sym (drop-drop 1 k xs) ∙ ap (drop 1) e

-- ONE CLAUSE
one_clause : (t : List ℤ) (v n i : ℕ) (starts : List ℕ) (c : Lits) (k : ℕ) (rest : List ℕ) → drop k (cells_of t) ≡ written c ++ rest → in_range v (vars c) ≡ true
    → index_from t (length c + 1 + n) i k starts ≡ index_from t n (i + 1) (k + (length c + 1)) (noted starts (i + 1) (k + (length c + 1)))
one_clause t v n i starts [] k rest e r =
    let z : 0 + 1 + n ≡ suc n = omega arith in
    ap (λ m. index_from t m i k starts) z ∙ index_end t n i k starts (sym (cells_at t k) ∙ head_here (cells_of t) k 0 rest e)
one_clause t v n i starts (l ∷ c) k rest e r =
    let x = and_l (leb 1 (var l) && leb (var l) v) (in_range v (vars c)) r in
    let low : 1 ≤ var l = leb-true 1 (var l) (and_l (leb 1 (var l)) (leb (var l) v) x) in
    let here : cell_at t k ≡ code_of l = sym (cells_at t k) ∙ head_here (cells_of t) k (code_of l) (written c ++ rest) e in
    let there = rest_here (cells_of t) k (code_of l) (written c ++ rest) e in
    let z : suc (length c) + 1 + n ≡ suc (length c + 1 + n) = omega arith in
    let y : k + 1 + (length c + 1) ≡ k + (suc (length c) + 1) = omega arith in
    ap (λ m. index_from t m i k starts) z ∙ index_on t (length c + 1 + n) i k starts (λ o. omega arith)
    ∙ one_clause t v n i starts c (k + 1) rest there (and_r (leb 1 (var l) && leb (var l) v) (in_range v (vars c)) r)
    ∙ ap (λ m. index_from t n (i + 1) m (noted starts (i + 1) m)) y

-- ALL CLAUSES
module _ (t : List ℤ) (v n : ℕ) (c : Lits) (cs : List Lits) (i k : ℕ) (starts : List ℕ) (rest : List ℕ)
    (e : drop k (cells_of t) ≡ flat (c ∷ cs) ++ rest) where
  apart : drop k (cells_of t) ≡ written c ++ (flat cs ++ rest)
  unfolding flat
  apart = e ∙ append_assoc (written c) (flat cs) rest

  beyond : drop (k + (length c + 1)) (cells_of t) ≡ flat cs ++ rest
  beyond =
      sym (drop-drop (length c + 1) k (cells_of t)) ∙ ap (drop (length c + 1)) apart
      ∙ drop_at (written c) (flat cs ++ rest) (length c + 1) (length_written c)

  walked : in_range v (vars c) ≡ true
      → index_from t (length (flat (c ∷ cs)) + n) i k starts
      ≡ index_from t (length (flat cs) + n) (i + 1) (k + (length c + 1)) (noted starts (i + 1) (k + (length c + 1)))
  unfolding flat
  walked r =
      let z : length (written c ++ flat cs) + n ≡ length c + 1 + (length (flat cs) + n) = omega (arith, length-append (written c) (flat cs), length_written c) in
      ap (λ m. index_from t m i k starts) z ∙ one_clause t v (length (flat cs) + n) i starts c k (flat cs ++ rest) apart r

all_clauses : (t : List ℤ) (v n : ℕ) (cs : List Lits) (i k : ℕ) (starts : List ℕ) (rest : List ℕ) → drop k (cells_of t) ≡ flat cs ++ rest
    → all (λ c. in_range v (vars c)) cs ≡ true → length starts ≡ 8193 → i + length cs < 8193 → get_or starts i 0 ≡ k
    → (j : ℕ) → j < length cs → get_or (index_from t (length (flat cs) + n) i k starts) (i + j) 0 ≡ k + place_of j cs
unfolding place_of
all_clauses t v n [] i k starts rest e r w s g j h = absurd (let l = h in omega arith)
all_clauses t v n (c ∷ cs) i k starts rest e r w s g j h =
    go j h
    (all_clauses t v n cs (i + 1) after (noted starts (i + 1) after) rest (beyond t v n c cs i k starts rest e)
    (and_r (in_range v (vars c)) (all (λ c. in_range v (vars c)) cs) r) (noted_long starts (i + 1) after ∙ w) (omega arith)
    (noted_same starts (i + 1) after w (omega arith)))
  where
    after : ℕ
    after = k + (length c + 1)

    step : index_from t (length (flat (c ∷ cs)) + n) i k starts ≡ index_from t (length (flat cs) + n) (i + 1) after (noted starts (i + 1) after)
    step = walked t v n c cs i k starts rest e (and_l (in_range v (vars c)) (all (λ c. in_range v (vars c)) cs) r)

    go : (j : ℕ) → j < suc (length cs)
        → ((j : ℕ) → j < length cs → get_or (index_from t (length (flat cs) + n) (i + 1) after (noted starts (i + 1) after)) (i + 1 + j) 0 ≡ after + place_of j cs)
        → get_or (index_from t (length (flat (c ∷ cs)) + n) i k starts) (i + j) 0 ≡ k + place_of j (c ∷ cs)
    go zero h f =
        let z : i + 0 ≡ i = omega arith in
        let y : k ≡ k + 0 = omega arith in
        ap₂ (λ l m. get_or l m 0) step z ∙ index_before t (length (flat cs) + n) (i + 1) after (noted starts (i + 1) after) i (omega arith)
        ∙ noted_other starts (i + 1) after i (λ e. omega arith) ∙ g ∙ y
    go (suc j) h f =
        let z : i + suc j ≡ i + 1 + j = omega arith in
        let y : after + place_of j cs ≡ k + (length c + 1 + place_of j cs) = omega arith in
        ap₂ (λ l m. get_or l m 0) step z ∙ f j (omega arith) ∙ y

-- THE INDEX of a formula that the table shows
pub clauses_indexed : {v c used : ℕ} {prefix matrix : List ℤ} {f : Formula} → FormulaShown v c used prefix matrix f
    → (starts : List ℕ) → length starts ≡ 8193 → Indexed (index_of matrix used starts) f
unfolding index_of
clauses_indexed {v} {c} {used} {prefix} {matrix} {f} sh starts long =
    let cs = f.matrix in
    let q : length (flat cs) ≤ used = omega (arith, ap length sh.clauses, length-take used (cells_of matrix)) in
    let z : length (flat cs) + (used - length (flat cs)) ≡ used = omega arith in
    let few : length cs ≤ 8192 = let a = sh.whole in let b = sh.count in let d = sh.few in omega arith in
    record {
      at = λ i h.
          let a : i ≡ 0 + i = omega arith in
          let b : 0 + place_of i cs ≡ place_of i cs = omega arith in
          ap₂ (λ m j. get_or (index_from matrix m 0 0 (noted starts 0 0)) j 0) (sym z) a
          ∙ all_clauses matrix v (used - length (flat cs)) cs 0 0 (noted starts 0 0) (drop used (cells_of matrix))
          (sym (take-append-drop used (cells_of matrix)) ∙ ap (λ l. l ++ drop used (cells_of matrix)) sh.clauses) sh.variables
          (noted_long starts 0 0 ∙ long) (omega arith) (noted_same starts 0 0 long (omega arith)) i h
          ∙ b;
    }

-- THE WALK OVER THE CLAUSES: what is left gives the whole
module _ (test : ℕ → Bool) (starts : List ℕ) where
  pub any_start : (n : ℕ) → any_from test starts 0 (n - 0) ≡ any_from test starts 0 n
  any_start n = let z : n - 0 ≡ n = omega arith in ap (any_from test starts 0) z

  module _ (n i : ℕ) (whole : Bool) (e : any_from test starts i (n - i) ≡ whole) where
    pub any_done : n ≤ i → false ≡ whole
    unfolding any_from
    any_done h = let z : n - i ≡ 0 = omega arith in ap (any_from test starts i) (sym z) ∙ e

    module _ (h : i < n) {r : Bool} {k : ℕ} (f : r ≡ test k) (g : k ≡ place_at starts i) where
      remaining : n - i ≡ suc (n - (i + 1))
      remaining = omega arith

      turn : {b : Bool} → r ≡ b → cond b true (any_from test starts (i + 1) (n - (i + 1))) ≡ whole
      unfolding any_from
      turn t =
          sym (ap (λ b. cond b true (any_from test starts (i + 1) (n - (i + 1)))) (sym (f ∙ ap test g) ∙ t)) ∙ ap (any_from test starts i) (sym remaining) ∙ e

      pub any_found : r ≡ true → true ≡ whole
      any_found t = turn t

      pub any_next : r ≡ false → any_from test starts (i + 1) (n - (i + 1)) ≡ whole
      any_next t = turn t

pub ruleset any_steps = (any_start, any_done, any_found, any_next)
