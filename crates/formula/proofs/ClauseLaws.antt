-- Laws of a clause line. Assumes nothing.
use mathlib.Core.Path.{◌≡◌, ap, ap₂, sym, ◌∙◌, subst}
use mathlib.Core.Bool.{Bool, true, false, ◌&&◌}
use mathlib.Core.List.{List, [], ◌∷◌, ◌++◌}
use mathlib.Core.Option.{Option, some}
use Prim.Native.Nat.{ℕ, ◌+◌, ◌-◌, ◌<◌, ◌≤◌}
use native.Mathlib.Omega.{arith}
use lib.ListN.{length, take, length-append}
use lib.IntN.{ℤ}
use lib.Dec.{leb}
use borrow.Author.Tests.{le-leb, lt-leb}
use Rattle.std.specs.Prelude.{Some, None, Result, Ok, Err}
use Rattle.rules.specs.declared.Rule.{Rule}
use Rattle.rules.specs.declared.Rule.TheVariants.{Malformed, OutOfRange, TableFull, Unbound, WrongClauseCount}
use Rattle.std.specs.List.{list_all as all}
use Rattle.cells.specs.Cells.{cells_of, list_at, Kept}
use Rattle.cells.proofs.Laws.{kept_self}
use Rattle.rules.specs.Basics.{is_in, greatest}
use Rattle.rules.specs.Literals.{vars}
use Rattle.rules.specs.Formula.{Formula, bound}
use Rattle.rules.specs.Forms.{clause}
use Rattle.rules.specs.Needs.{Places, formula_needs}
use Rattle.rules.specs.Step.{Step, next, refuse_in, ◌unless◌, ◌then◌}
use Rattle.rules.specs.FormulaLines.{judge_formula, with_clause}
use Rattle.rules.proofs.Kit.{and_i}
use Rattle.lists.specs.declared.Measure.{Measure}
use Rattle.lists.specs.Lists.{clause_at, lits_at}
use Rattle.lists.specs.Stores.{codes_at, ending_at, puts, written, in_range}
use Rattle.lists.proofs.ListLaws.{all_low, listed_low, listed_high, listed_range}
use Rattle.lists.proofs.FormLaws.{Seen, clause_told, clause_ended, as_clause, bad_clause}
use Rattle.lists.proofs.StoreLaws.{Stored, list_in_table, flat_snoc}
use Rattle.formula.specs.declared.Reading.{Reading}
use Rattle.prefix.specs.Prefix.{is_bound}
use Rattle.formula.specs.Holds.{Holds, Sized, proper}
use Rattle.formula.specs.Judged.{by_form, clause_judge, LineRead}
use Rattle.formula.proofs.Steps.{refused, accepted, read_within, untouched, fits_formula, need_more, all_snoc}
use Rattle.formula.proofs.PrefixLaws.{shows_all}

-- the rules of a clause line: 3, then 15, 5 and 6 with what the line needs
abbrev four : Formula → Formula → Bool → Bool → Bool → Bool → Step (Option Formula)
four f g a b c d = refuse_in (some f) (3 unless a) (refuse_in (some g) (15 unless b then 5 unless c then 6 unless d) (next (some g)))

module _ (bs : List ℕ) (r : Reading) (p m : List ℤ) where
  pub clause_bad : clause_at bs 0 ≡ None → LineRead (clause_judge bs) (Some r) (length bs) p m (Err Malformed) p m
  unfolding clause_judge
  clause_bad h = untouched (clause_judge bs) (length bs) p m r some (λ l f o k. ap (λ x. by_form x l (some f)) (bad_clause bs 0 h clause))

  module _ {list : Measure} (h : clause_at bs 0 ≡ Some list) where
    seen : Seen bs 0 list.negative list.count list.largest
    seen = clause_told bs 0 h

    rules : (l : Places) (f : Formula) → clause_judge bs l (some f)
        ≡ four f (with_clause f (lits_at bs 0)) (leb (greatest (vars (lits_at bs 0))) f.highest) (leb f.highest l.prefix && leb (formula_needs (with_clause f (lits_at bs 0))).matrix l.matrix) (all (is_in (bound f)) (vars (lits_at bs 0))) (leb (length f.matrix + 1) f.count)
    unfolding clause_judge judge_formula
    rules l f =
        ap (λ x. by_form x l (some f)) (as_clause bs 0 seen clause)
        ∙ ap₂ (λ a b. four f (with_clause f (lits_at bs 0)) a b (all (is_in (bound f)) (vars (lits_at bs 0))) (leb (length f.matrix + 1) f.count))
        (all_low f.highest (vars (lits_at bs 0))) (fits_formula l (with_clause f (lits_at bs 0)))

    -- the second pass meets no bad token: the first met none
    pub clause_never : {e : Result (Unit {0}) Rule} {w : List ℤ} → e ≡ ending_at bs 0 → {rule : Rule} → e ≡ Err rule → LineRead (clause_judge bs) (Some r) (length bs) p m (Err rule) p w
    clause_never e b = absurd (clause_ended bs 0 h e b)

    pub clause_high : r.v < list.largest → LineRead (clause_judge bs) (Some r) (length bs) p m (Err OutOfRange) p m
    clause_high i = untouched (clause_judge bs) (length bs) p m r some (λ l f o k. rules l f ∙
        ap (λ a. four f (with_clause f (lits_at bs 0)) a (leb f.highest l.prefix && leb (formula_needs (with_clause f (lits_at bs 0))).matrix l.matrix) (all (is_in (bound f)) (vars (lits_at bs 0))) (leb (length f.matrix + 1) f.count))
        (lt-leb (greatest (vars (lits_at bs 0))) f.highest (let x = listed_high seen.listing i in omega (arith, k.highest))))

    module _ (i : list.largest ≤ r.v) where
      need : (f : Formula) → Holds r p m f → (formula_needs (with_clause f (lits_at bs 0))).matrix ≡ r.used + (length (lits_at bs 0) + 1)
      need f k = need_more f (lits_at bs 0) ∙ ap (λ u. u + (length (lits_at bs 0) + 1)) (sym k.used)

      first : (l : Places) (f : Formula) → Sized l p m → Holds r p m f → {t : Bool} → leb (formula_needs (with_clause f (lits_at bs 0))).matrix l.matrix ≡ t
          → clause_judge bs l (some f) ≡ four f (with_clause f (lits_at bs 0)) true t (all (is_in (bound f)) (vars (lits_at bs 0))) (leb (length f.matrix + 1) f.count)
      first l f o k e =
          rules l f ∙ ap₂ (λ a b. four f (with_clause f (lits_at bs 0)) a b (all (is_in (bound f)) (vars (lits_at bs 0))) (leb (length f.matrix + 1) f.count))
          (le-leb (greatest (vars (lits_at bs 0))) f.highest (let x = listed_low seen.listing i (omega (arith, k.limit)) in omega (arith, k.highest)))
          (ap₂ (λ a b. a && b) (le-leb f.highest l.prefix (omega (arith, k.highest, k.room, o.prefix))) e)

      pub clause_full : r.used ≤ length m → length m - r.used ≤ list.count → LineRead (clause_judge bs) (Some r) (length bs) p m (Err TableFull) p m
      clause_full a j = untouched (clause_judge bs) (length bs) p m r (λ f. some (with_clause f (lits_at bs 0))) (λ l f o k.
          first l f o k (lt-leb (formula_needs (with_clause f (lits_at bs 0))).matrix l.matrix (omega (arith, need f k, o.matrix, seen.listing.count))))

      -- the clause is stored
      module _ (a : r.used ≤ length m) (j : list.count < length m - r.used) {w : List ℤ} (d : w ≡ puts m r.used (codes_at bs 0)) where
        stored : list.largest ≤ 16384 → Stored m w r.used (lits_at bs 0)
        stored q = list_in_table seen.listing m w r.used q (omega arith) d

        module _ {t : Bool} (e : t ≡ all (is_bound p) (list_at w r.used)) where
          second : (l : Places) (f : Formula) → Sized l p m → Holds r p m f → {b : Bool} → t ≡ b
              → clause_judge bs l (some f) ≡ four f (with_clause f (lits_at bs 0)) true true b (leb (length f.matrix + 1) f.count)
          second l f o k q =
              first l f o k (le-leb (formula_needs (with_clause f (lits_at bs 0))).matrix l.matrix (omega (arith, need f k, o.matrix, seen.listing.count)))
              ∙ ap (λ b. four f (with_clause f (lits_at bs 0)) true true b (leb (length f.matrix + 1) f.count))
              (sym (shows_all r.v p f.prefix k.prefix (lits_at bs 0) (listed_range seen.listing i (omega (arith, k.limit))))
              ∙ ap (all (is_bound p)) (sym (stored (omega (arith, k.limit))).list) ∙ sym e ∙ q)

          kept : (f : Formula) → Holds r p m f → Kept (formula_needs (with_clause f (lits_at bs 0))).matrix m w
          kept f k = subst (λ n. Kept n m w) (sym (need f k)) (stored (omega (arith, k.limit))).kept

          pub clause_unbound : t ≡ false → LineRead (clause_judge bs) (Some r) (length bs) p m (Err Unbound) p w
          clause_unbound q = read_within (clause_judge bs) (length bs) p m r (λ l f o k. refused (second l f o k q) (kept_self (formula_needs (with_clause f (lits_at bs 0))).prefix p) (kept f k)) tt

          module _ (q : t ≡ true) where
            third : (l : Places) (f : Formula) → Sized l p m → Holds r p m f → {b : Bool} → leb (length f.matrix + 1) f.count ≡ b
                → clause_judge bs l (some f) ≡ four f (with_clause f (lits_at bs 0)) true true true b
            third l f o k x = second l f o k q ∙ ap (four f (with_clause f (lits_at bs 0)) true true true) x

            pub clause_many : r.c ≤ r.clauses → LineRead (clause_judge bs) (Some r) (length bs) p m (Err WrongClauseCount) p w
            clause_many x = read_within (clause_judge bs) (length bs) p m r (λ l f o k.
                refused (third l f o k (lt-leb (length f.matrix + 1) f.count (omega (arith, k.clauses, k.count, x)))) (kept_self (formula_needs (with_clause f (lits_at bs 0))).prefix p) (kept f k)) tt

            pub clause_done : r.clauses < r.c
                → LineRead (clause_judge bs) (Some r) (length bs) p m (Ok (Some (record { v = r.v; c = r.c; bound = r.bound; clauses = r.clauses + 1; used = r.used + list.count + 1 }))) p w
            clause_done x = read_within (clause_judge bs) (length bs) p m r (λ l f o k.
                accepted (third l f o k (le-leb (length f.matrix + 1) f.count (omega (arith, k.clauses, k.count, x)))) (holds l f o k) (kept_self (formula_needs (with_clause f (lits_at bs 0))).prefix p) (kept f k)) (omega arith)
              where
                places : r.used + list.count + 1 ≡ r.used + (length (lits_at bs 0) + 1)
                places = omega (arith, seen.listing.count)

                bound_all : (f : Formula) → Holds r p m f → all (is_in (bound f)) (vars (lits_at bs 0)) ≡ true
                bound_all f k =
                    sym (shows_all r.v p f.prefix k.prefix (lits_at bs 0) (listed_range seen.listing i (omega (arith, k.limit))))
                    ∙ ap (all (is_bound p)) (sym (stored (omega (arith, k.limit))).list) ∙ sym e ∙ q

                holds : (l : Places) (f : Formula) → Sized l p m → Holds r p m f → Holds (record { v = r.v; c = r.c; bound = r.bound; clauses = r.clauses + 1; used = r.used + list.count + 1 }) p w (with_clause f (lits_at bs 0))
                holds l f o k =
                    let y = stored (omega (arith, k.limit)) in
                    record {
                      highest = k.highest;
                      count = k.count;
                      many = k.many;
                      clauses = ap (λ n. n + 1) k.clauses ∙ sym (length-append f.matrix (lits_at bs 0 ∷ []));
                      used = places ∙ sym (need f k);
                      prefix = k.prefix;
                      once = k.once;
                      ranged = k.ranged;
                      matrix =
                          ap (λ n. take n (cells_of w)) places ∙ y.cells ∙ ap (λ x. x ++ written (lits_at bs 0)) k.matrix ∙ sym (flat_snoc f.matrix (lits_at bs 0));
                      variables =
                          all_snoc (proper f) f.matrix (lits_at bs 0) k.variables
                          (and_i (in_range f.highest (vars (lits_at bs 0))) (all (is_in (bound f)) (vars (lits_at bs 0)))
                          (subst (λ v. in_range v (vars (lits_at bs 0)) ≡ true) k.highest (listed_range seen.listing i (omega (arith, k.limit)))) (bound_all f k));
                      limit = k.limit;
                      most = k.most;
                      room = k.room;
                      space = omega (arith, y.kept.long, j);
                    }
