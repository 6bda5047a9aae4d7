-- What a mapping line writes: the tables' frames, and the copies that they show then. Assumes nothing.
use mathlib.Core.Path.{◌≡◌, refl, ap, ap₂, sym, ◌∙◌, subst}
use mathlib.Core.Bool.{Bool, true, false, ◌&&◌, ◌||◌, cond, true≢false, false≢true}
use mathlib.Core.List.Memᴰ
use mathlib.Core.List.{List, [], ◌∷◌, ◌++◌, map, append_assoc, append-nil}
use Prim.Native.Nat.{ℕ, suc, ◌+◌, ◌*◌, ◌-◌, ◌%◌, ◌<◌, ◌≤◌}
use native.Mathlib.Omega.{arith}
use lib.ListN.{length, take, get_or, set, length-set, length-map}
use lib.Seq.{take-set-le, get_or-take}
use lib.IntN.{ℤ, pos}
use lib.Dec.{eqb, leb}
use borrow.Author.Tests.{ne_eqb, eqb-true, eqb-false, leb-true, le-leb, lt-leb}
use Rattle.std.proofs.Common.{Result, Ok, Err}
use Rattle.cells.specs.Cells.{num, cell_at, list_at, Kept}
use Rattle.cells.proofs.Laws.{at_same, at_other, kept_self, kept_chain, kept_set, stored}
use Rattle.prefix.specs.Prefix.{entry}
use Rattle.lines.specs.Scan.{cap}
use Rattle.lists.specs.Lists.{is_list}
use Rattle.lists.specs.Stores.{codes_at, ending_at, puts, in_range}
use Rattle.lists.proofs.StoreLaws.{list_kept}
use Rattle.rules.specs.Basics.{is_in, distinct}
use Rattle.rules.specs.Literals.{Lits}
use Rattle.rules.specs.declared.Rule.{Rule}
use Rattle.rules.specs.declared.Rule.TheVariants.{Malformed}
use Rattle.rules.specs.Rule.{number}
use Rattle.rules.specs.Codes.{code_of}
use Rattle.rules.specs.Expansion.{Copy, copies, copy_vars, is_mapped, stands_for, annotation}
use Rattle.rules.proofs.Kit.{and_l, and_r, by_yes, eqb_self, In}
use Rattle.rules.proofs.Distinct.{is_in_in, distinct_tail, distinct_new, append_distinct}
use Rattle.mapped.specs.Numbers.{numbers_at, end_of}
use Rattle.mapping.specs.Stores.{Written, written, paired_end, stored_end, copying}
use Rattle.mapping.specs.Shown.{CopyShown}
use Rattle.mapped.proofs.MarkLaws.{mapped_in_lem, mapped_append}

-- THE ANNOTATION is stored: it is a list, or the refusal of one that is none is the storing's
module _ (bs : List ℕ) (notes : ℕ) {r : Result (Unit {0}) Rule} (q : r ≡ ending_at bs notes) where
  pub stored_list : {x : Unit {0}} → r ≡ Ok x → is_list bs notes ≡ true
  unfolding ending_at
  stored_list {x} e = go (is_list bs notes) (sym q ∙ e)
    where
      go : (b : Bool) → ◌≡◌ {A = Result (Unit {0}) Rule} (cond b (Ok tt) (Err Malformed)) (Ok x) → b ≡ true
      go true e = refl
      go false e = cc

  pub stored_lost : {k : Rule} → r ≡ Err k → (at from : ℕ) → number k ≡ stored_end bs at from notes
  unfolding ending_at stored_end
  stored_lost {k} e at from = go (is_list bs notes) (sym q ∙ e)
    where
      go : (b : Bool) → ◌≡◌ {A = Result (Unit {0}) Rule} (cond b (Ok tt) (Err Malformed)) (Err k) → number k ≡ cond b (paired_end bs at from) 2
      go true e = cc
      go false e = let z : Malformed ≡ k = cc in ap number (sym z)

-- A TURN of storing the copies: what is left to store, stored in the tables as they are, is the whole
pub record Copying (bs : List ℕ) (at from note first : ℕ) (t₀ u₀ t u : List ℤ) (ps : List ℕ) (d : ℕ) (es : List ℕ) (e k : ℕ) : Type 0 where
  pub long : length t ≡ length t₀
  pub wide : length u ≡ length u₀
  pub low : k + 2 * length ps ≤ first + 2 * length (numbers_at bs at)
  pub text : note < 2147483648 → first + 2 * length bs < 2147483648
      → copying note ps es k t u ≡ copying note (numbers_at bs at) (numbers_at bs from) first t₀ u₀
  pub copies_end : d ≡ end_of bs at
  pub existentials_end : e ≡ end_of bs from

module _ (bs : List ℕ) (at from note first : ℕ) (t₀ u₀ : List ℤ) where
  abbrev Stores : List ℤ → List ℤ → Type 0
  Stores t u =
      note < 2147483648 → first + 2 * length bs < 2147483648
      → written t u ≡ copying note (numbers_at bs at) (numbers_at bs from) first t₀ u₀

  -- what is stored, and that both lists end with their zero if they are lists
  abbrev Stored : ℕ → List ℤ → List ℤ → Type 0
  Stored r t u = Stores t u × (is_list bs at ≡ true → is_list bs from ≡ true → r ≡ 0)

  pub copying_start : {ps : List ℕ} {d : ℕ} {es : List ℕ} {e : ℕ} → ps ≡ numbers_at bs at → d ≡ end_of bs at → es ≡ numbers_at bs from → e ≡ end_of bs from
      → Copying bs at from note first t₀ u₀ t₀ u₀ ps d es e first
  copying_start a b c g = record {
    long = refl;
    wide = refl;
    low = omega (arith, ap length a);
    text = λ n l. ap₂ (λ ps es. copying note ps es first t₀ u₀) a c;
    copies_end = b;
    existentials_end = g;
  }

module _ {bs : List ℕ} {at from note first : ℕ} {t₀ u₀ t u : List ℤ} {ps : List ℕ} {d : ℕ} {es : List ℕ} {e k : ℕ}
    (s : Copying bs at from note first t₀ u₀ t u ps d es e k) where
  -- the copies are at their end, or the existentials
  pub copying_end : ps ≡ [] → Stores bs at from note first t₀ u₀ t u
  unfolding copying
  copying_end o = λ n l. sym (ap (λ ps. copying note ps es k t u) o) ∙ s.text n l

  pub copying_short : es ≡ [] → Stores bs at from note first t₀ u₀ t u
  unfolding copying
  copying_short o = λ n l. sym (ap (λ es. copying note ps es k t u) o ∙ none_left ps) ∙ s.text n l
    where
      none_left : (ps : List ℕ) → copying note ps [] k t u ≡ written t u
      none_left [] = refl
      none_left (p ∷ ps) = refl

  module _ {p : ℕ} {rest : List ℕ} (o : ps ≡ p ∷ rest) {x : ℕ} {more : List ℕ} (q : es ≡ x ∷ more) where
    pub copying_more : x ≤ cap → length (numbers_at bs at) ≤ length bs → {c g : ℕ} → d ≡ c → e ≡ g → {t₁ t₂ u₁ : List ℤ}
        → t₁ ≡ set t (k % 2147483648) (pos (x % 2147483648)) → t₂ ≡ set t₁ (k % 2147483648 + 1) (pos (note % 2147483648))
        → u₁ ≡ set u (p - 1) (pos (k % 2147483648 % 2147483648))
        → Copying bs at from note first t₀ u₀ t₂ u₁ rest c more g (k % 2147483648 + 2)
    unfolding copying
    copying_more small few {c} {g} i j {t₁} {t₂} {u₁} y₁ y₂ y₃ =
        let before = s.low in
        let one : length ps ≡ suc (length rest) = ap length o in
        record {
          long = ap length y₂ ∙ length-set t₁ (k % 2147483648 + 1) (pos (note % 2147483648)) ∙ ap length y₁ ∙ length-set t (k % 2147483648) (pos (x % 2147483648)) ∙ s.long;
          wide = ap length y₃ ∙ length-set u (p - 1) (pos (k % 2147483648 % 2147483648)) ∙ s.wide;
          low = omega arith;
          text = λ n l.
              let w : k % 2147483648 ≡ k = stored (omega arith) in
              let e₁ : t₁ ≡ set t k (pos x) = y₁ ∙ ap₂ (λ w v. set t w (pos v)) w (stored (omega arith)) in
              let e₂ : t₂ ≡ set (set t k (pos x)) (k + 1) (pos note) =
              y₂ ∙ ap₂ (λ w v. set t₁ (w + 1) (pos v)) w (stored n) ∙ ap (λ t. set t (k + 1) (pos note)) e₁ in
              let e₃ : u₁ ≡ set u (p - 1) (pos k) = y₃ ∙ ap (λ w. set u (p - 1) (pos w)) (ap (λ w. w % 2147483648) w ∙ w) in
              ap (λ w. copying note rest more (w + 2) t₂ u₁) w
              ∙ ap₂ (copying note rest more (k + 2)) e₂ e₃
              ∙ sym (ap₂ (λ ps es. copying note ps es k t u) o q) ∙ s.text n l;
          copies_end = sym i ∙ s.copies_end;
          existentials_end = sym j ∙ s.existentials_end;
        }

-- A TURN of it, where as many of the copies as of the existentials are stored
pub record CopyingPairs (bs : List ℕ) (at from note first : ℕ) (t₀ u₀ t u : List ℤ) (ps : List ℕ) (d : ℕ) (es : List ℕ) (e k : ℕ) : Type 0 where
  pub copying : Copying bs at from note first t₀ u₀ t u ps d es e k
  pub even : length (numbers_at bs at) + length es ≡ length (numbers_at bs from) + length ps

pub pairs_start : (bs : List ℕ) (at from note first : ℕ) (t₀ u₀ : List ℤ) {ps : List ℕ} {d : ℕ} {es : List ℕ} {e : ℕ} → ps ≡ numbers_at bs at → d ≡ end_of bs at
    → es ≡ numbers_at bs from → e ≡ end_of bs from → CopyingPairs bs at from note first t₀ u₀ t₀ u₀ ps d es e first
pairs_start bs at from note first t₀ u₀ a b c g =
    record { copying = copying_start bs at from note first t₀ u₀ a b c g; even = omega (arith, ap length a, ap length c) }

module _ {bs : List ℕ} {at from note first : ℕ} {t₀ u₀ t u : List ℤ} {ps : List ℕ} {d : ℕ} {es : List ℕ} {e k : ℕ}
    (s : CopyingPairs bs at from note first t₀ u₀ t u ps d es e k) where
  -- the refusal that the end is, of an annotation that is a list
  module _ (notes : ℕ) (l : is_list bs notes ≡ true) where
    paired : {n : ℕ} → n ≡ paired_end bs at from → n ≡ stored_end bs at from notes
    unfolding stored_end
    paired e = e ∙ sym (ap (λ b. cond b (paired_end bs at from) 2) l)

    pub end_copies : ps ≡ [] → {n : ℕ} → n ≡ d → n ≡ stored_end bs at from notes
    end_copies o e =
        paired (e ∙ s.copying.copies_end
        ∙ sym (ap (λ b. cond b (end_of bs at) (end_of bs from)) (le-leb (length (numbers_at bs at)) (length (numbers_at bs from)) (omega (arith, s.even, ap length o)))))

    pub end_existentials : {p : ℕ} {rest : List ℕ} → ps ≡ p ∷ rest → es ≡ [] → {n : ℕ} → n ≡ e → n ≡ stored_end bs at from notes
    end_existentials o q e =
        paired (e ∙ s.copying.existentials_end
        ∙ sym (ap (λ b. cond b (end_of bs at) (end_of bs from))
        (lt-leb (length (numbers_at bs at)) (length (numbers_at bs from)) (omega (arith, s.even, ap length o, ap length q)))))

  module _ {p : ℕ} {rest : List ℕ} (o : ps ≡ p ∷ rest) {x : ℕ} {more : List ℕ} (q : es ≡ x ∷ more) where
    pub pairs_more : x ≤ cap → length (numbers_at bs at) ≤ length bs → {c g : ℕ} → d ≡ c → e ≡ g → {t₁ t₂ u₁ : List ℤ}
        → t₁ ≡ set t (k % 2147483648) (pos (x % 2147483648)) → t₂ ≡ set t₁ (k % 2147483648 + 1) (pos (note % 2147483648))
        → u₁ ≡ set u (p - 1) (pos (k % 2147483648 % 2147483648))
        → CopyingPairs bs at from note first t₀ u₀ t₂ u₁ rest c more g (k % 2147483648 + 2)
    pairs_more small few i j y₁ y₂ y₃ =
        record { copying = copying_more s.copying o q small few i j y₁ y₂ y₃; even = omega (arith, s.even, ap length o, ap length q) }

-- the annotation, and then the copies
pub storing : (bs : List ℕ) (at from notes m used : ℕ) (t u : List ℤ) {t₁ t₂ u₂ : List ℤ} {r : ℕ} → t₁ ≡ puts t (used % 2147483648) (codes_at bs notes)
    → Stored bs at from (used % 2147483648) (used % 2147483648 + m % 2147483648 + 1) t₁ u r t₂ u₂
    → (is_list bs at ≡ true → is_list bs from ≡ true → r ≡ 0) × (used + m + 1 + 2 * length bs < 2147483648
    → written t₂ u₂ ≡ copying used (numbers_at bs at) (numbers_at bs from) (used + m + 1) (puts t used (codes_at bs notes)) u)
storing bs at from notes m used t u {t₁} {t₂} {u₂} e s = (
  s.1,
  λ l.
      let w : used % 2147483648 ≡ used = stored (omega arith) in
      let v : m % 2147483648 ≡ m = stored (omega arith) in
      s.0 (omega arith) (omega arith)
      ∙ ap₂ (λ w v. copying w (numbers_at bs at) (numbers_at bs from) (w + v + 1) t₁ u) w v
      ∙ ap (λ t. copying used (numbers_at bs at) (numbers_at bs from) (used + m + 1) t u) (e ∙ ap (λ w. puts t w (codes_at bs notes)) w),
)

-- FRAMES
pub copying_kept : (note : ℕ) (ps es : List ℕ) (k : ℕ) (t u : List ℤ) (need high : ℕ) → k + 2 * length ps ≤ need → in_range high ps ≡ true
    → Kept need t (copying note ps es k t u).map × Kept high u (copying note ps es k t u).values
unfolding copying
copying_kept note [] es k t u need high h r = (kept_self need t, kept_self high u)
copying_kept note (p ∷ ps) [] k t u need high h r = (kept_self need t, kept_self high u)
copying_kept note (p ∷ ps) (e ∷ es) k t u need high h r =
    let i = copying_kept note ps es (k + 2) (set (set t k (pos e)) (k + 1) (pos note)) (set u (p - 1) (pos k)) need high (omega arith)
    (and_r (leb 1 p && leb p high) (in_range high ps) r) in (
      kept_chain (kept_set {n = need} (k + 1) (pos note) (kept_set {n = need} k (pos e) (kept_self need t) (omega arith)) (omega arith)) i.0,
      kept_chain (kept_set {n = high} (p - 1) (pos k) (kept_self high u) low) i.1,
    )
  where
    low : p - 1 < high
    low =
        let b = and_l (leb 1 p && leb p high) (in_range high ps) r in
        let x = leb-true 1 p (and_l (leb 1 p) (leb p high) b) in
        let y = leb-true p high (and_r (leb 1 p) (leb p high) b) in
        omega arith

-- AN ENTRY AFTER A STORE
entry_same : (u : List ℤ) (i v q : ℕ) → q ≡ i + 1 → i < length u → entry (set u i (pos v)) q ≡ v
unfolding entry
entry_same u i v q e h =
    let d : q - 1 ≡ i = omega arith in
    ap₂ (λ b j. cond b 0 (cell_at (set u i (pos v)) j)) (ne_eqb q 0 (λ z. omega arith)) d ∙ at_same u i v h

entry_other : (u : List ℤ) (i v q : ℕ) → (q ≡ i + 1 → ⊥) → entry (set u i (pos v)) q ≡ entry u q
unfolding entry
entry_other u i v q n = go (eqb q 0) refl
  where
    go : (b : Bool) → eqb q 0 ≡ b → cond b 0 (cell_at (set u i (pos v)) (q - 1)) ≡ cond b 0 (cell_at u (q - 1))
    go true e = refl
    go false e = let z = eqb-false q 0 e in at_other u i (q - 1) v (λ d. n (omega (arith, z)))

-- two mappings say the same of a copy
abbrev Same : List Copy → List Copy → ℕ → Type 0
Same m n q = (stands_for m q ≡ stands_for n q) × (annotation m q ≡ annotation n q)

abbrev stands_by : Copy → Bool → ℕ → ℕ
stands_by c b n = elim b [ true ↦ c.stands_for | false ↦ n ]

abbrev under_by : Copy → Bool → Lits → Lits
under_by c b ls = elim b [ true ↦ c.under | false ↦ ls ]

look_left : (m n : List Copy) (q : ℕ) → is_mapped m q ≡ true → Same (m ++ n) m q
look_left [] n q h = absurd (false≢true h)
look_left (c ∷ m) n q h = go (eqb q c.copy) h (look_left m n q)
  where
    go : (b : Bool) → b || is_mapped m q ≡ true → (is_mapped m q ≡ true → Same (m ++ n) m q)
        → (stands_by c b (stands_for (m ++ n) q) ≡ stands_by c b (stands_for m q))
        × (under_by c b (annotation (m ++ n) q) ≡ under_by c b (annotation m q))
    go true h i = (refl, refl)
    go false h i = i h

look_right : (m n : List Copy) (q : ℕ) → is_mapped m q ≡ false → Same (m ++ n) n q
look_right [] n q h = (refl, refl)
look_right (c ∷ m) n q h = go (eqb q c.copy) h (look_right m n q)
  where
    go : (b : Bool) → b || is_mapped m q ≡ false → (is_mapped m q ≡ false → Same (m ++ n) n q)
        → (stands_by c b (stands_for (m ++ n) q) ≡ stands_for n q)
        × (under_by c b (annotation (m ++ n) q) ≡ annotation n q)
    go true h i = absurd (true≢false h)
    go false h i = i h

-- THE COPIES THAT THE TABLES SHOW
abbrev pub Taken : List ℤ → List ℤ → ℕ → List Copy → Type 0
Taken t u used m = (p : ℕ) → is_mapped m p ≡ true → CopyShown t u used m p

cell_kept : (t v : List ℤ) (k i : ℕ) → take k v ≡ take k t → i < k → cell_at v i ≡ cell_at t i
unfolding cell_at
cell_kept t v k i e h = ap num (sym (get_or-take k v i (pos 0) h) ∙ ap (λ l. get_or l i (pos 0)) e ∙ get_or-take k t i (pos 0) h)

-- a copy whose entry is as it was, with all that stands below `used`
copy_kept : {t u t' u' : List ℤ} {used used' : ℕ} {m m' : List Copy} {q : ℕ} → CopyShown t u used m q → used ≤ used' → take used t' ≡ take used t
    → entry u' q ≡ entry u q → Same m' m q → CopyShown t' u' used' m' q
copy_kept {t} {u} {t'} {u'} {used} {used'} {m} {m'} {q} o l k e s =
    let w = o.within in
    let at : cell_at t' (entry u' q) ≡ cell_at t (entry u q) = ap (cell_at t') e ∙ cell_kept t t' used (entry u q) k (omega arith) in
    let by : cell_at t' (entry u' q + 1) ≡ cell_at t (entry u q + 1) = ap (λ n. cell_at t' (n + 1)) e ∙ cell_kept t t' used (entry u q + 1) k w in
    let end = o.ends in
    let long : length (list_at t (cell_at t (entry u q + 1))) ≡ length (annotation m q) = ap length o.note ∙ length-map (annotation m q) code_of in
    let z : length (annotation m' q) ≡ length (annotation m q) = ap length s.1 in
    record {
      within = omega arith;
      stands = at ∙ o.stands ∙ sym s.0;
      note = ap (list_at t') by ∙ list_kept t t' used (cell_at t (entry u q + 1)) k (omega arith) ∙ o.note ∙ ap (map code_of) (sym s.1);
      ends = omega arith;
    }

-- what stands below `used` is as it was
pub taken_later : {t u t' : List ℤ} {used used' : ℕ} {m : List Copy} → Taken t u used m → used ≤ used' → take used t' ≡ take used t → Taken t' u used' m
taken_later o l k p h = copy_kept (o p h) l k refl (refl, refl)

-- ONE COPY MORE
module _ (ls : Lits) (note p e k : ℕ) {t u : List ℤ} {m : List Copy} (o : Taken t u k m) (above : 0 < p) (wide : p ≤ length u)
    (long : k + 1 < length t) (new : is_mapped m p ≡ false) (text : list_at t note ≡ map code_of ls) (ends : note + length ls < k) where
  abbrev t' : List ℤ
  t' = set (set t k (pos e)) (k + 1) (pos note)

  abbrev u' : List ℤ
  u' = set u (p - 1) (pos k)

  abbrev one : List Copy
  one = record { copy = p; stands_for = e; under = ls } ∷ []

  kept : take k t' ≡ take k t
  kept = take-set-le k (set t k (pos e)) (k + 1) (pos note) (omega arith) ∙ take-set-le k t k (pos e) (omega arith)

  text_kept : list_at t' note ≡ map code_of ls
  text_kept = list_kept t t' k note kept (omega (arith, ap length text ∙ length-map ls code_of)) ∙ text

  new_copy : CopyShown t' u' (k + 2) (m ++ one) p
  new_copy =
      let itself = eqb_self p in
      let s = look_right m one p new in
      let x : entry u' p ≡ k = entry_same u (p - 1) k p (omega arith) (omega arith) in
      let a : cell_at t' k ≡ e = at_other (set t k (pos e)) (k + 1) k note (λ z. omega arith) ∙ at_same t k e (omega arith) in
      let b : cell_at t' (k + 1) ≡ note = at_same (set t k (pos e)) (k + 1) note (omega (arith, length-set t k (pos e))) in
      let f : stands_for one p ≡ e = ap (λ b. elim b as (λ _. ℕ) [ true ↦ e | false ↦ 0 ]) itself in
      let g : annotation one p ≡ ls = ap (λ b. elim b as (λ _. Lits) [ true ↦ ls | false ↦ [] ]) itself in
      let by : cell_at t' (entry u' p + 1) ≡ note = ap (λ n. cell_at t' (n + 1)) x ∙ b in
      let z : length (annotation (m ++ one) p) ≡ length ls = ap length (s.1 ∙ g) in
      record {
        within = omega arith;
        stands = ap (cell_at t') x ∙ a ∙ sym (s.0 ∙ f);
        note = ap (list_at t') by ∙ text_kept ∙ ap (map code_of) (sym (s.1 ∙ g));
        ends = omega arith;
      }

  taken_more : Taken t' u' (k + 2) (m ++ one)
  taken_more q h = go (eqb q p) refl
    where
      or_false : (b : Bool) → b || false ≡ b
      or_false true = refl
      or_false false = refl

      go : (b : Bool) → eqb q p ≡ b → CopyShown t' u' (k + 2) (m ++ one) q
      go true d = subst (CopyShown t' u' (k + 2) (m ++ one)) (sym (eqb-true q p d)) new_copy
      go false d =
          let n = eqb-false q p d in
          let x : is_mapped m q ≡ true = sym (mapped_append m one q ∙ ap (λ b. is_mapped m q || (b || false)) d ∙ or_false (is_mapped m q)) ∙ h in
          copy_kept (o q x) (omega arith) kept (entry_other u (p - 1) k q (λ y. n (omega arith))) (look_left m one q x)

-- none of these copies is mapped
abbrev Apart : List ℕ → List Copy → Type 0
Apart ps m = (q : ℕ) → In q ps → is_mapped m q ≡ false

not_mapped : (m : List Copy) (c : Copy) (q : ℕ) → is_mapped m q ≡ false → eqb q c.copy ≡ false → is_mapped (m ++ (c ∷ [])) q ≡ false
not_mapped m c q h e = mapped_append m (c ∷ []) q ∙ ap₂ (λ a b. a || (b || false)) h e

pub apart_distinct : (ps : List ℕ) (m : List Copy) → distinct (ps ++ copy_vars m) ≡ true → (distinct ps ≡ true) × Apart ps m
apart_distinct ps m d =
    let s = append_distinct ps (copy_vars m) d in
    (s.0, λ q i. sym (mapped_in_lem m q) ∙ by_yes (is_in (copy_vars m) q) (λ h. s.2 q i (is_in_in (copy_vars m) q h)))

-- ALL COPIES OF THE LINE
pub taken_copies : (ls : Lits) (note : ℕ) (ps es : List ℕ) (k : ℕ) (t u : List ℤ) (m : List Copy) → Taken t u k m → length ps ≡ length es
    → in_range (length u) ps ≡ true → k + 2 * length ps ≤ length t → list_at t note ≡ map code_of ls → note + length ls < k
    → distinct ps ≡ true → Apart ps m
    → Taken (copying note ps es k t u).map (copying note ps es k t u).values (k + 2 * length ps) (m ++ copies ps es ls)
unfolding copying
taken_copies ls note [] es k t u m o l r n x y d f = subst (Taken t u (k + 0)) (sym (append-nil m)) (taken_later o (omega arith) refl)
taken_copies ls note (p ∷ ps) [] k t u m o l r n x y d f = absurd (let m = l in omega arith)
taken_copies ls note (p ∷ ps) (e ∷ es) k t u m o l r n x y d f =
    let here = and_l (leb 1 p && leb p (length u)) (in_range (length u) ps) r in
    let above : 0 < p = leb-true 1 p (and_l (leb 1 p) (leb p (length u)) here) in
    let wide : p ≤ length u = leb-true p (length u) (and_r (leb 1 p) (leb p (length u)) here) in
    let long : k + 1 < length t = omega arith in
    let new : is_mapped m p ≡ false = f p (Memᴰ.head refl) in
    let a : length u' ≡ length u = length-set u (p - 1) (pos k) in
    let b : length t' ≡ length t = length-set (set t k (pos e)) (k + 1) (pos note) ∙ length-set t k (pos e) in
    let done = taken_copies ls note ps es (k + 2) t' u' m' (taken_more ls note p e k o above wide long new x y) (omega arith)
    (ap (λ n. in_range n ps) a ∙ and_r (leb 1 p && leb p (length u)) (in_range (length u) ps) r) (omega arith)
    (text_kept ls note p e k o above wide long new x y) (omega arith) (distinct_tail p ps d)
    (λ q i. not_mapped m (record { copy = p; stands_for = e; under = ls }) q (f q (Memᴰ.tail i)) (by_yes (eqb q p) (λ z. distinct_new p ps d (Memᴰ.cast (sym (eqb-true q p z)) i)))) in
    subst (Taken rest.map rest.values (k + 2 * suc (length ps))) (append_assoc m (record { copy = p; stands_for = e; under = ls } ∷ []) (copies ps es ls))
    (taken_later done (omega arith) refl)
  where
    t' : List ℤ
    t' = set (set t k (pos e)) (k + 1) (pos note)

    u' : List ℤ
    u' = set u (p - 1) (pos k)

    m' : List Copy
    m' = m ++ (record { copy = p; stands_for = e; under = ls } ∷ [])

    rest : Written
    rest = copying note ps es (k + 2) t' u'
