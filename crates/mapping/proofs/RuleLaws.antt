-- The rules of a mapping line that was read: 3, 7 and 8, with no table but the prefix. Assumes nothing.
use mathlib.Core.Path.{◌≡◌, refl, ap, ap₂, sym, ◌∙◌, subst}
use mathlib.Core.Bool.{Bool, true, false, ◌&&◌}
use mathlib.Core.List.{List, ◌++◌}
use mathlib.Core.Option.{none, some}
use Rattle.std.proofs.Common.{Option, Some, None, Ok, Err, ok_or}
use Prim.Native.Nat.{ℕ, ◌+◌, ◌*◌, ◌<◌, ◌≤◌}
use native.Mathlib.Omega.{arith}
use lib.ListN.{length, length-map}
use lib.IntN.{ℤ}
use lib.Dec.{leb}
use borrow.Author.Tests.{le-leb, lt-leb, leb-true, leb-false}
use Rattle.std.specs.List.{list_all as all}
use Rattle.lines.specs.Scan.{cap, tokens_from}
use Rattle.prefix.specs.Prefix.{entry, Told}
use Rattle.lists.specs.declared.MappingLists.{MappingLists}
use Rattle.lists.specs.Lists.{lits_at, mapping_at}
use Rattle.lists.specs.Stores.{in_range}
use Rattle.lists.proofs.ListLaws.{Listing, all_low, between, listed_low, listed_range}
use Rattle.lists.proofs.FormLaws.{MapsAs, maps}
use Rattle.lists.proofs.FormLaws.{Mapped as Lists}
use Rattle.rules.specs.Basics.{greatest, distinct}
use Rattle.rules.specs.Literals.{Lits, var, vars}
use Rattle.rules.specs.declared.Rule.{Rule}
use Rattle.rules.specs.declared.Rule.TheVariants.{Malformed}
use Rattle.rules.specs.Formula.{Formula}
use Rattle.rules.specs.Forms.{mapping_form}
use Rattle.rules.specs.Limits.{allows}
use Rattle.rules.specs.Step.{◌unless◌, ◌then◌}
use Rattle.rules.specs.FormulaLines.{up_to_v}
use Rattle.rules.specs.Expansion.{Copy, copies, copy_vars, mapping_rules}
use Rattle.rules.proofs.Kit.{and_l, and_r}
use Rattle.mapped.specs.Numbers.{numbers_at}
use Rattle.mapped.specs.Marks.{Marking, marking, noting}
use Rattle.annotation.specs.Annotation.{annotates}
use Rattle.mapped.specs.Marks.{NotedShown}
use Rattle.mapping.specs.MappingLine.{ranged}
use Rattle.mapped.proofs.NumberLaws.{numbers_listed}
use Rattle.mapped.proofs.MarkLaws.{fresh_rule, noted_after}
use Rattle.annotation.proofs.AnnotationLaws.{annotation_rule}

-- WHAT THE FIRST PASS TELLS
abbrev pub ListsOf : List ℕ → ℕ → MappingLists → Type 0
ListsOf bs at q = Lists bs at q.copies q.literals q.highest_copy q.highest_existential q.highest_universal q.existentials_at q.literals_at

module _ (bs : List ℕ) (at : ℕ) {r : Option MappingLists} (p : r ≡ mapping_at bs at) where
  pub mapping_told : {q : MappingLists} → ok_or r Malformed ≡ Ok q → ListsOf bs at q
  mapping_told {q} e = go r e (subst (MapsAs bs at) (sym p) (maps bs at))
    where
      go : (r : Option MappingLists) → ok_or r Malformed ≡ Ok q → MapsAs bs at r → ListsOf bs at q
      go None e o = cc
      go (Some x) e o = let z : x ≡ q = cc in subst (ListsOf bs at) z o

  pub mapping_lost : {k : Rule} → ok_or r Malformed ≡ Err k → (k ≡ Malformed) × (mapping_form (tokens_from bs at) ≡ none)
  mapping_lost {k} e = go r e (subst (MapsAs bs at) (sym p) (maps bs at))
    where
      go : (r : Option MappingLists) → ok_or r Malformed ≡ Err k → MapsAs bs at r → (k ≡ Malformed) × (mapping_form (tokens_from bs at) ≡ none)
      go None e o = (let z : Malformed ≡ k = cc in sym z, o)
      go (Some x) e o = cc

-- the greatest as it was read is as good as the greatest, for a limit below the cap
low_listed : {bs : List ℕ} {at : ℕ} {s : Bool} {n m e : ℕ} → Listing bs at s n m e → (k : ℕ) → k < cap → leb m k ≡ all (λ v. leb v k) (vars (lits_at bs at))
low_listed {bs} {at} {s} {n} {m} {e} o k h = go (leb (greatest (vars (lits_at bs at))) k) refl ∙ sym (all_low k (vars (lits_at bs at)))
  where
    go : (b : Bool) → leb (greatest (vars (lits_at bs at))) k ≡ b → leb m k ≡ leb (greatest (vars (lits_at bs at))) k
    go true q = let x = o.most in let y = leb-true (greatest (vars (lits_at bs at))) k q in le-leb m k (omega arith) ∙ sym q
    go false q = let x = o.most in let y = leb-false (greatest (vars (lits_at bs at))) k q in lt-leb m k (omega arith) ∙ sym q

-- A LINE OF THREE LISTS
module _ {bs : List ℕ} {at k m c e l i h : ℕ} (o : Lists bs at k m c e l i h) where
  abbrev ps : List ℕ
  ps = vars (lits_at bs at)

  abbrev es : List ℕ
  es = vars (lits_at bs i)

  abbrev ls : Lits
  ls = lits_at bs h

  pub ps_long : k ≡ length ps
  ps_long = o.copies.count ∙ sym (length-map (lits_at bs at) var)

  pub es_long : k ≡ length es
  es_long = o.existentials.count ∙ sym (length-map (lits_at bs i) var)

  pub ls_long : m ≡ length ls
  ls_long = o.annotation.listing.count

  -- its numbers and zeros take at least a byte each
  pub lists_long : 2 * k + m + 3 ≤ length bs
  lists_long =
      let x = o.copies.further in
      let y = o.existentials.further in
      let z = o.annotation.listing.further in
      let w = o.annotation.listing.within in
      omega arith

  module _ (v : ℕ) (low : v ≤ 4096) where
    -- rule 3: "a copy above its limit; .. E or L above V"
    pub range_rule : (f : Formula) → v ≡ f.highest → ranged v c e l ≡ (all (allows (some 16384)) ps && up_to_v f es && up_to_v f (vars ls))
    unfolding ranged
    range_rule f highest =
        ap₂ (λ x y. x && y && leb l v) (low_listed o.copies 16384 (omega arith)) (low_listed o.existentials v (omega arith))
        ∙ ap (λ z. all (λ p. leb p 16384) ps && all (λ e. leb e v) es && z) (low_listed o.annotation.listing v (omega arith))
        ∙ ap (λ n. all (λ p. leb p 16384) ps && all (λ e. leb e n) es && all (λ u. leb u n) (vars ls)) highest

    -- IN RANGE
    module _ (range : ranged v c e l ≡ true) where
      pub few : c ≤ 16384
      unfolding ranged
      few = leb-true c 16384 (and_l (leb c 16384) (leb e v) (and_l (leb c 16384 && leb e v) (leb l v) range))

      pass_e : e ≤ v
      unfolding ranged
      pass_e = leb-true e v (and_r (leb c 16384) (leb e v) (and_l (leb c 16384 && leb e v) (leb l v) range))

      pub pass_l : l ≤ v
      unfolding ranged
      pass_l = leb-true l v (and_r (leb c 16384 && leb e v) (leb l v) range)

      -- the numbers of the line, read one by one
      pub ps_are : numbers_at bs at ≡ ps
      ps_are = numbers_listed o.copies (let x = few in omega arith)

      pub es_are : numbers_at bs i ≡ es
      es_are = numbers_listed o.existentials (let x = pass_e in omega arith)

      ls_are : numbers_at bs h ≡ vars ls
      ls_are = numbers_listed o.annotation.listing (let x = pass_l in omega arith)

      pub largest_is : c ≡ greatest ps
      largest_is = let x = listed_low o.copies few (omega arith) in let y = o.copies.most in omega arith

      pub ps_range : (j : ℕ) → c ≤ j → in_range j ps ≡ true
      ps_range j a = between j ps o.copies.positive (let x = largest_is in omega arith)

      -- RULES 7 AND 8 by what `fresh` and `annotates` answer, the marks showing the copies n
      module _ {prefix : List ℤ} {f : Formula} {ns : List ℕ} {n : List Copy} (told : Told prefix v f) (noted : NotedShown ns n)
          {r : Bool} {ns' : List ℕ} (notes : marking r ns' ≡ noting (numbers_at bs at) ns) where
        notes_are : marking r ns' ≡ noting ps ns
        notes_are = notes ∙ ap (λ ps. noting ps ns) ps_are

        pub fresh_are : distinct (copy_vars n) ≡ true → r ≡ distinct (ps ++ copy_vars n)
        fresh_are once =
            ap (λ (w : Marking). w.fresh) notes_are
            ∙ fresh_rule noted ps once (sym (low_listed o.copies 16384 (omega arith)) ∙ le-leb c 16384 few)

        pub rules_are : distinct (copy_vars n) ≡ true → {a : Bool} → a ≡ annotates (entry prefix) (numbers_at bs i) (numbers_at bs h)
            → mapping_rules f n ps es ls ≡ (7 unless r then 8 unless a)
        unfolding mapping_rules
        rules_are once test =
            sym (ap₂ (λ x y. 7 unless x then 8 unless y) (fresh_are once)
            (test ∙ ap₂ (annotates (entry prefix)) es_are ls_are
            ∙ annotation_rule prefix v f told (omega arith) es ls (listed_range o.existentials pass_e (omega arith))
            (listed_range o.annotation.listing pass_l (omega arith))))

        pub noted_are : r ≡ true → NotedShown ns' (n ++ copies ps es ls)
        noted_are fresh =
            subst (λ (w : Marking). NotedShown w.marks (n ++ copies ps es ls)) (sym notes_are)
            (noted_after noted ps es ls (sym ps_long ∙ es_long) (ps_range 16384 few) (ap (λ (w : Marking). w.fresh) (sym notes_are) ∙ fresh))
