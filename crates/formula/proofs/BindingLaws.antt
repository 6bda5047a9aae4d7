-- Laws of a prefix line. Assumes nothing.
use mathlib.Core.Path.{◌≡◌, refl, ap, ap₂, sym, ◌∙◌, subst}
use mathlib.Core.Bool.{Bool, true, false, ◌&&◌, false≢true}
use mathlib.Core.List.{List, [], ◌∷◌, ◌++◌, map}
use mathlib.Core.Option.{Option, none, some}
use Prim.Native.Nat.{ℕ, ◌+◌, ◌<◌, ◌≤◌}
use native.Mathlib.Omega.{arith}
use lib.ListN.{length, length-append, length-map}
use lib.IntN.{ℤ}
use lib.Dec.{leb}
use borrow.Author.Tests.{eq-eqb, ne_eqb, le-leb, lt-leb}
use Rattle.std.specs.Prelude.{Some, None, Result, Ok, Err}
use Rattle.rules.specs.declared.Rule.{Rule}
use Rattle.rules.specs.declared.Rule.TheVariants.{Malformed, OutOfRange, BoundTwice}
use Rattle.std.specs.List.{list_all as all}
use Rattle.lines.specs.Lists.{is_empty}
use Rattle.lines.specs.Scan.{tokens_from}
use Rattle.cells.specs.Cells.{Kept}
use Rattle.cells.proofs.Laws.{kept_self}
use Rattle.rules.specs.Basics.{greatest, distinct}
use Rattle.rules.specs.Literals.{vars, var}
use Rattle.rules.specs.Formula.{Formula, Bound, bound}
use Rattle.rules.specs.Forms.{binding_form}
use Rattle.rules.specs.Needs.{Places, formula_needs}
use Rattle.rules.specs.Step.{Step, next, refuse_in, ◌unless◌, ◌then◌}
use Rattle.rules.specs.FormulaLines.{judge_formula, up_to_v, with_bound}
use Rattle.lists.specs.declared.Measure.{Measure}
use Rattle.lists.specs.Lists.{clause_at, lits_at}
use Rattle.lists.specs.Stores.{codes_at, in_range}
use Rattle.lists.proofs.ListLaws.{listing_list, all_low, listed_low, listed_high, listed_range}
use Rattle.lists.proofs.FormLaws.{empty_length, Seen, clause_told, as_binding, not_binding, empty_binding, bad_binding}
use Rattle.lists.proofs.StoreLaws.{codes_listed}
use Rattle.prefix.specs.Prefix.{Shows}
use Rattle.formula.specs.declared.Reading.{Reading}
use Rattle.formula.specs.Tables.{Pass, pass, Tells, Marks}
use Rattle.formula.specs.Holds.{Holds, proper}
use Rattle.formula.specs.Judged.{quantifier, by_form, binding_judge, LineRead}
use Rattle.formula.proofs.Steps.{refused, accepted, read_within, untouched, prefix_need, all_append}
use Rattle.formula.proofs.PrefixLaws.{fresh, distinct_fresh, fresh_append, bounds_new, bounds_append, Says, PassIs, pass_is}

-- the rules of a prefix line
abbrev three : Formula → Formula → Bool → Bool → Bool → Step (Option Formula)
three f g a b c = refuse_in (some f) (2 unless a then 3 unless b then 4 unless c) (next (some g))

-- what the second pass tells
twice_fresh : (b : Bool) (x : Pass) (n j : ℕ) (bs : List Bound) → Says x b n j bs → x.answer ≡ (Err BoundTwice) → b ≡ false
twice_fresh true x n j bs s e = absurd (let k = sym s.0 ∙ e in let z : ◌≡◌ {A = ℕ} 0 1 = cc in omega arith)
twice_fresh false x n j bs s e = refl

done_fresh : (b : Bool) (x : Pass) (n i j : ℕ) (bs : List Bound) → Says x b n j bs → x.answer ≡ Ok i → (b ≡ true) × (i ≡ j) × Shows x.table n bs
done_fresh true x n i j bs s e = let k = sym s.0 ∙ e in (refl, cc, s.1)
done_fresh false x n i j bs s e = absurd (let k = sym s ∙ e in let z : ◌≡◌ {A = ℕ} 0 1 = cc in omega arith)

module _ (bs : List ℕ) (at q : ℕ) (r : Reading) (p m : List ℤ) where
  no_form : binding_form (quantifier q) (tokens_from bs at) ≡ none → LineRead (binding_judge bs at q) (Some r) (length bs) p m (Err Malformed) p m
  unfolding binding_judge
  no_form e = untouched (binding_judge bs at q) (length bs) p m r some (λ l f o k. ap (λ x. by_form x l (some f)) e)

  pub binding_bad : clause_at bs at ≡ None → LineRead (binding_judge bs at q) (Some r) (length bs) p m (Err Malformed) p m
  binding_bad h = no_form (bad_binding bs at h (quantifier q))

  module _ {list : Measure} (h : clause_at bs at ≡ Some list) where
    seen : Seen bs at list.negative list.count list.largest
    seen = clause_told bs at h

    pub binding_signed : list.negative ≡ true → LineRead (binding_judge bs at q) (Some r) (length bs) p m (Err Malformed) p m
    binding_signed z = no_form (not_binding bs at seen (quantifier q) z)

    module _ (z : list.negative ≡ false) where
      pub binding_empty : list.count ≡ 0 → LineRead (binding_judge bs at q) (Some r) (length bs) p m (Err Malformed) p m
      binding_empty y = no_form (empty_binding bs at seen (quantifier q) z y)

      module _ (y : list.count ≡ 0 → ⊥) where
        rules : (l : Places) (f : Formula) → binding_judge bs at q l (some f)
            ≡ three f (with_bound f (map (quantifier q) (vars (lits_at bs at)))) (is_empty f.matrix) (leb (greatest (vars (lits_at bs at))) f.highest) (fresh (bound f) (vars (lits_at bs at)) && distinct (bound f))
        unfolding binding_judge judge_formula
        rules l f =
            ap (λ x. by_form x l (some f)) (as_binding bs at seen (quantifier q) z y)
            ∙ ap (λ vs. three f (with_bound f (map (quantifier q) (vars (lits_at bs at)))) (is_empty f.matrix) (up_to_v f vs) (distinct (vs ++ bound f))) (bounds_new q (vars (lits_at bs at)))
            ∙ ap₂ (three f (with_bound f (map (quantifier q) (vars (lits_at bs at)))) (is_empty f.matrix)) (all_low f.highest (vars (lits_at bs at))) (distinct_fresh (vars (lits_at bs at)) (bound f))

        pub binding_late : (r.clauses ≡ 0 → ⊥) → LineRead (binding_judge bs at q) (Some r) (length bs) p m (Err Malformed) p m
        binding_late x = untouched (binding_judge bs at q) (length bs) p m r some (λ l f o k. rules l f ∙
            ap (λ a. three f (with_bound f (map (quantifier q) (vars (lits_at bs at)))) a (leb (greatest (vars (lits_at bs at))) f.highest) (fresh (bound f) (vars (lits_at bs at)) && distinct (bound f)))
            (empty_length f.matrix ∙ ne_eqb (length f.matrix) 0 (λ i. x (k.clauses ∙ i))))

        module _ (x : r.clauses ≡ 0) where
          first : (l : Places) (f : Formula) → Holds r p m f → {t : Bool} → leb (greatest (vars (lits_at bs at))) f.highest ≡ t
              → binding_judge bs at q l (some f) ≡ three f (with_bound f (map (quantifier q) (vars (lits_at bs at)))) true t (fresh (bound f) (vars (lits_at bs at)) && distinct (bound f))
          first l f k e =
              rules l f ∙ ap₂ (λ a b. three f (with_bound f (map (quantifier q) (vars (lits_at bs at)))) a b (fresh (bound f) (vars (lits_at bs at)) && distinct (bound f)))
              (empty_length f.matrix ∙ eq-eqb (length f.matrix) 0 (sym k.clauses ∙ x)) e

          pub binding_high : r.v < list.largest → LineRead (binding_judge bs at q) (Some r) (length bs) p m (Err OutOfRange) p m
          binding_high i = untouched (binding_judge bs at q) (length bs) p m r some (λ l f o k.
              first l f k (lt-leb (greatest (vars (lits_at bs at))) f.highest (let w = listed_high seen.listing i in omega (arith, k.highest))))

          module _ (i : list.largest ≤ r.v) (least : 1 ≤ q) (most : q ≤ 2) {t : Result ℕ Rule} {u : List ℤ} (a : Marks q r.bound bs at p t u) where
            second : (l : Places) (f : Formula) → Holds r p m f → {b : Bool} → fresh (bound f) (vars (lits_at bs at)) ≡ b
                → binding_judge bs at q l (some f) ≡ three f (with_bound f (map (quantifier q) (vars (lits_at bs at)))) true true (b && true)
            second l f k e =
                first l f k (le-leb (greatest (vars (lits_at bs at))) f.highest (let w = listed_low seen.listing i (omega (arith, k.limit)) in omega (arith, k.highest)))
                ∙ ap₂ (λ a b. three f (with_bound f (map (quantifier q) (vars (lits_at bs at)))) true true (a && b)) e k.once

            passed : (f : Formula) → Holds r p m f
                → PassIs r.v (r.bound + length (lits_at bs at)) p (fresh (bound f) (vars (lits_at bs at))) (f.prefix ++ map (quantifier q) (vars (lits_at bs at))) (pass q r.bound (codes_at bs at) p)
            passed f k =
                subst (λ xs. PassIs r.v (r.bound + length (lits_at bs at)) p (fresh (bound f) (vars (lits_at bs at))) (f.prefix ++ map (quantifier q) (vars (lits_at bs at))) (pass q r.bound xs p))
                (sym (codes_listed bs at seen.listing (omega (arith, k.limit))))
                (pass_is r.v q least most (lits_at bs at) p f.prefix r.bound k.many k.room k.prefix (listed_range seen.listing i (omega (arith, k.limit))))

            kept : (f : Formula) → Holds r p m f → Kept (formula_needs f).prefix p u
            kept f k =
                let e : r.v ≡ (formula_needs f).prefix = k.highest ∙ sym (prefix_need f) in
                subst (λ n. Kept n p u) e (subst (Kept r.v p) (sym a.table) (passed f k).kept)

            twice : t ≡ Err BoundTwice → LineRead (binding_judge bs at q) (Some r) (length bs) p m (Err BoundTwice) u m
            twice w = read_within (binding_judge bs at q) (length bs) p m r (λ l f o k.
                refused (second l f k (twice_fresh (fresh (bound f) (vars (lits_at bs at))) (pass q r.bound (codes_at bs at) p) r.v (r.bound + length (lits_at bs at)) (f.prefix ++ map (quantifier q) (vars (lits_at bs at))) (passed f k).says (sym a.answer ∙ w)))
                (kept f k) (kept_self (formula_needs f).matrix m)) tt

            -- the second pass meets no bad token: the first met none
            pub binding_refused : (rule : Rule) → t ≡ Err rule → LineRead (binding_judge bs at q) (Some r) (length bs) p m (Err rule) u m
            binding_refused Malformed w = absurd (false≢true (sym (subst (Tells bs at r.bound) w a.tells) ∙ listing_list bs at seen.listing))
            binding_refused BoundTwice w = twice w
            binding_refused _ w = absurd (subst (Tells bs at r.bound) w a.tells)

            pub binding_done : {j : ℕ} → t ≡ Ok j
                → LineRead (binding_judge bs at q) (Some r) (length bs) p m (Ok (Some (record { v = r.v; c = r.c; bound = j; clauses = r.clauses; used = r.used }))) u m
            unfolding formula_needs
            binding_done {j} w = read_within (binding_judge bs at q) (length bs) p m r (λ l f o k.
                accepted (second l f k (fact f k).0) (holds f k) (kept f k) (kept_self (formula_needs f).matrix m)) (subst (Tells bs at r.bound) w a.tells).1
              where
                fact : (f : Formula) → Holds r p m f → (fresh (bound f) (vars (lits_at bs at)) ≡ true) × (j ≡ r.bound + length (lits_at bs at)) × Shows (pass q r.bound (codes_at bs at) p).table r.v (f.prefix ++ map (quantifier q) (vars (lits_at bs at)))
                fact f k = done_fresh (fresh (bound f) (vars (lits_at bs at))) (pass q r.bound (codes_at bs at) p) r.v j (r.bound + length (lits_at bs at)) (f.prefix ++ map (quantifier q) (vars (lits_at bs at))) (passed f k).says (sym a.answer ∙ w)

                none_yet : {A : Type 0} (xs : List A) → length xs ≡ 0 → xs ≡ []
                none_yet [] e = refl
                none_yet (y ∷ xs) e = absurd (let k = e in omega arith)

                holds : (f : Formula) → Holds r p m f → Holds (record { v = r.v; c = r.c; bound = j; clauses = r.clauses; used = r.used }) u m (with_bound f (map (quantifier q) (vars (lits_at bs at))))
                holds f k = record {
                  highest = k.highest;
                  count = k.count;
                  many = (fact f k).1 ∙ omega (arith, k.many, length-append f.prefix (map (quantifier q) (vars (lits_at bs at))), length-map (vars (lits_at bs at)) (quantifier q), length-map (lits_at bs at) var);
                  clauses = k.clauses;
                  used = k.used;
                  prefix = subst (λ u. Shows u r.v (f.prefix ++ map (quantifier q) (vars (lits_at bs at)))) (sym a.table) (fact f k).2;
                  once =
                      ap distinct (bounds_append f.prefix (map (quantifier q) (vars (lits_at bs at))) ∙ ap (λ l. bound f ++ l) (bounds_new q (vars (lits_at bs at))))
                      ∙ sym (fresh_append (vars (lits_at bs at)) (bound f)) ∙ ap₂ (λ a b. a && b) (fact f k).0 k.once;
                  ranged =
                      ap (in_range r.v) (bounds_append f.prefix (map (quantifier q) (vars (lits_at bs at))) ∙ ap (λ l. bound f ++ l) (bounds_new q (vars (lits_at bs at))))
                      ∙ all_append (λ v. leb 1 v && leb v r.v) (bound f) (vars (lits_at bs at)) k.ranged (listed_range seen.listing i (omega (arith, k.limit)));
                  matrix = k.matrix;
                  variables = ap (all (proper (with_bound f (map (quantifier q) (vars (lits_at bs at)))))) (none_yet f.matrix (sym k.clauses ∙ x));
                  limit = k.limit;
                  most = k.most;
                  room = omega (arith, k.room, (kept f k).long);
                  space = k.space;
                }
