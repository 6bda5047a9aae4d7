-- Laws of the `p` line. Assumes nothing.
use mathlib.Core.Path.{◌≡◌, refl, ap, ap₂, sym, ◌∙◌, subst, subst₂}
use mathlib.Core.Bool.{Bool, true, false, cond, ◌&&◌}
use mathlib.Core.List.{List, [], ◌∷◌, ◌++◌}
use mathlib.Core.Logic.{⊎_elim}
use mathlib.Core.Option.{Option, none, some}
use Prim.Native.Nat.{ℕ, ◌+◌, ◌<◌, ◌≤◌}
use native.Mathlib.Omega.{arith}
use lib.ListN.{length, get_or, drop, replicate, length-replicate, get_or-replicate, get_or-append}
use lib.Seq.{sets-eq}
use lib.IntN.{ℤ}
use lib.Dec.{leb}
use borrow.Author.Tests.{le-leb, lt-leb}
use Rattle.std.specs.Prelude.{Some, None, Ok, Err}
use Rattle.rules.specs.declared.Rule.TheVariants.{Malformed, OutOfRange, TableFull}
use Rattle.lines.specs.Bytes.{class_of, same_bytes}
use Rattle.lines.specs.Lines.{Token, number, minus, word, token_of}
use Rattle.lines.specs.Scan.{tokens_from, ended_at, word_is}
use Rattle.lines.proofs.Words.{word_found, word_missed}
use Rattle.cells.specs.Cells.{cells_of, Kept}
use Rattle.cells.proofs.Laws.{cells_at, cells_length, kept_self}
use Rattle.rules.specs.Formula.{Formula}
use Rattle.rules.specs.Forms.{FormulaLine, problem, problem_form, one, numeral, whole, provided, the_word, ◌>>=◌}
use Rattle.rules.specs.Needs.{Places, formula_needs}
use Rattle.rules.specs.Step.{Step, next, refuse_in, ◌unless◌}
use Rattle.rules.specs.FormulaLines.{judge_formula, blank}
use Rattle.lists.specs.Lists.{natural_at}
use Rattle.lists.specs.Stores.{puts, flat}
use Rattle.lists.proofs.NaturalLaws.{Numeral, natural_told}
use Rattle.lists.proofs.StoreLaws.{cells_puts, kept_puts}
use Rattle.prefix.specs.Prefix.{mark_from, Shows}
use Rattle.formula.specs.Holds.{Holds}
use Rattle.formula.specs.Judged.{by_form, problem_judge, LineRead}
use Rattle.formula.proofs.LineKinds.{word_is_lem}
use Rattle.formula.proofs.Steps.{accepted, read_start, start_untouched, fits_formula}

-- THE FORM
abbrev numbers : List Token → Option FormulaLine
numbers ts = one numeral ts >>= λ r. one numeral r.1 >>= λ s. whole (problem r.0 s.0) s.1

abbrev cnf : List ℕ
cnf = 99 ∷ 110 ∷ 102 ∷ []

abbrev paired : List Token → List ℕ → Option (List ℕ × List Token)
paired ts a = some (a, ts)

abbrev after_word : List Token → Option (List ℕ) → Option FormulaLine
after_word ts x = x >>= paired ts >>= λ r. numbers r.1

module _ (bs : List ℕ) (at : ℕ) where
  form_missed : word_is bs at cnf ≡ None → problem_form (tokens_from bs at) ≡ none
  form_missed h = ⊎_elim (λ e. ap problem_form e) (λ k. ap problem_form k.2 ∙ ap (after_word k.1) (no_word k.0 k.3)) (word_missed bs at cnf h)
    where
      no_word : (w : List ℕ) → same_bytes w cnf ≡ false → the_word "cnf" (token_of w) ≡ none
      no_word w e = go (token_of w) refl
        where
          go : (t : Token) → token_of w ≡ t → the_word "cnf" t ≡ none
          go (number n) k = refl
          go (minus n) k = refl
          go (word v) k = ap (λ x. cond x (some v) none) (ap (λ x. same_bytes x cnf) (sym (word_is_lem w v k)) ∙ e)

  form_found : {e : ℕ} → word_is bs at cnf ≡ Some e → problem_form (tokens_from bs at) ≡ numbers (tokens_from bs e)
  unfolding class_of
  form_found {e} h = ap problem_form (word_found bs at cnf h).0

-- ZEROS SHOW NO VARIABLE
abbrev zeros : ℕ → List ℕ
zeros n = replicate n 0

module _ (p : List ℤ) (n : ℕ) (h : n ≤ length p) where
  long : length (zeros n) ≡ n
  long = length-replicate n 0

  zeros_cells : cells_of (puts p 0 (zeros n)) ≡ zeros n ++ drop (0 + length (zeros n)) (cells_of p)
  zeros_cells = cells_puts p 0 (zeros n) ∙ sets-eq (zeros n) (cells_of p) 0 (omega (arith, long, cells_length p))

  zeros_shown : Shows (puts p 0 (zeros n)) n []
  unfolding Shows mark_from
  zeros_shown i k =
      sym (cells_at (puts p 0 (zeros n)) i) ∙ ap (λ l. get_or l i 0) zeros_cells
      ∙ get_or-append (zeros n) (drop (0 + length (zeros n)) (cells_of p)) 0 i (omega (arith, long)) ∙ get_or-replicate n i 0 0 k

  zeros_kept : Kept n p (puts p 0 (zeros n))
  zeros_kept = let e : 0 + length (zeros n) ≡ n = omega (arith, long) in subst (λ k. Kept k p (puts p 0 (zeros n))) e (kept_puts p 0 (zeros n))

-- the rules of a `p` line
abbrev two : Formula → Bool → Bool → Step (Option Formula)
two g a b = refuse_in none (3 unless a) (refuse_in (some g) (15 unless b) (next (some g)))

module _ (bs : List ℕ) (at : ℕ) (p m : List ℤ) where
  no_form : problem_form (tokens_from bs at) ≡ none → LineRead (problem_judge bs at) None (length bs) p m (Err Malformed) p m
  unfolding problem_judge
  no_form e = start_untouched (problem_judge bs at) (length bs) p m none (λ l o. ap (λ x. by_form x l none) e)

  pub problem_missed : word_is bs at cnf ≡ None → LineRead (problem_judge bs at) None (length bs) p m (Err Malformed) p m
  problem_missed h = no_form (form_missed bs at h)

  module _ {e : ℕ} (h : word_is bs at cnf ≡ Some e) where
    pub problem_first : natural_at bs e ≡ None → LineRead (problem_judge bs at) None (length bs) p m (Err Malformed) p m
    problem_first z = no_form (form_found bs at h ∙ ap (λ x. x >>= λ r. one numeral r.1 >>= λ s. whole (problem r.0 s.0) s.1) (natural_told bs e z).0)

    module _ {v i : ℕ} (a : natural_at bs e ≡ Some (v, i)) where
      big : Numeral bs e v i
      big = natural_told bs e a

      form_1 : problem_form (tokens_from bs at) ≡ (one numeral (tokens_from bs i) >>= λ s. whole (problem big.value s.0) s.1)
      form_1 = form_found bs at h ∙ ap numbers big.first

      pub problem_second : natural_at bs i ≡ None → LineRead (problem_judge bs at) None (length bs) p m (Err Malformed) p m
      problem_second z = no_form (form_1 ∙ ap (λ x. x >>= λ s. whole (problem big.value s.0) s.1) (natural_told bs i z).0)

      module _ {c j : ℕ} (b : natural_at bs i ≡ Some (c, j)) where
        many : Numeral bs i c j
        many = natural_told bs i b

        form_2 : {t : Bool} → t ≡ ended_at bs j → problem_form (tokens_from bs at) ≡ provided t (problem big.value many.value)
        unfolding ended_at
        form_2 g =
            form_1 ∙ ap (λ ts. one numeral ts >>= λ s. whole (problem big.value s.0) s.1) many.first
            ∙ ap (λ t. provided t (problem big.value many.value)) (sym g)

        pub problem_long : {t : Bool} → t ≡ ended_at bs j → t ≡ false → LineRead (problem_judge bs at) None (length bs) p m (Err Malformed) p m
        problem_long g k = no_form (form_2 (sym k ∙ g))

        module _ {t : Bool} (g : t ≡ ended_at bs j) (k : t ≡ true) where
          rules : (l : Places) → problem_judge bs at l none ≡ two (blank big.value many.value) (leb big.value 4096 && leb many.value 8192) (leb big.value l.prefix && leb 0 l.matrix)
          unfolding problem_judge judge_formula formula_needs
          rules l =
              ap (λ x. by_form x l none) (form_2 (sym k ∙ g))
              ∙ ap (two (blank big.value many.value) (leb big.value 4096 && leb many.value 8192)) (fits_formula l (blank big.value many.value))

          pub problem_high : 4096 < v → LineRead (problem_judge bs at) None (length bs) p m (Err OutOfRange) p m
          problem_high x = start_untouched (problem_judge bs at) (length bs) p m none (λ l o. rules l ∙
              ap (λ y. two (blank big.value many.value) (y && leb many.value 8192) (leb big.value l.prefix && leb 0 l.matrix)) (lt-leb big.value 4096 (omega (arith, big.capped))))

          module _ (x : v ≤ 4096) where
            same : big.value ≡ v
            same = omega (arith, big.capped)

            pub problem_many : 8192 < c → LineRead (problem_judge bs at) None (length bs) p m (Err OutOfRange) p m
            problem_many y = start_untouched (problem_judge bs at) (length bs) p m none (λ l o. rules l ∙
                ap₂ (λ a b. two (blank big.value many.value) (a && b) (leb big.value l.prefix && leb 0 l.matrix)) (le-leb big.value 4096 (omega (arith, same))) (lt-leb many.value 8192 (omega (arith, many.capped))))

            module _ (y : c ≤ 8192) where
              equal : many.value ≡ c
              equal = omega (arith, many.capped)

              first : (l : Places) {u : Bool} → leb v l.prefix ≡ u → problem_judge bs at l none ≡ two (blank v c) true (u && true)
              first l z =
                  rules l ∙ ap₂ (λ a b. two (blank a b) (leb a 4096 && leb b 8192) (leb a l.prefix && leb 0 l.matrix)) same equal
                  ∙ ap₂ (λ a b. two (blank v c) (a && b) (leb v l.prefix && leb 0 l.matrix)) (le-leb v 4096 x) (le-leb c 8192 y)
                  ∙ ap₂ (λ a b. two (blank v c) true (a && b)) z (le-leb 0 l.matrix (omega arith))

              pub problem_full : {n : ℕ} → n ≡ v → length p < n → LineRead (problem_judge bs at) None (length bs) p m (Err TableFull) p m
              problem_full q z = start_untouched (problem_judge bs at) (length bs) p m (some (blank v c)) (λ l o. first l (lt-leb v l.prefix (omega (arith, o.prefix))))

              pub problem_done : {n : ℕ} {u : List ℤ} → n ≡ v → n ≤ length p → u ≡ puts p 0 (zeros n)
                  → LineRead (problem_judge bs at) None (length bs) p m (Ok (Some (record { v = v; c = c; bound = 0; clauses = 0; used = 0 }))) u m
              unfolding flat formula_needs
              problem_done {n} {u} q z d = read_start (problem_judge bs at) (length bs) p m (λ l o.
                  accepted (first l (le-leb v l.prefix (omega (arith, o.prefix)))) holds kept (kept_self 0 m)) (omega arith)
                where
                  kept : Kept v p u
                  kept = subst₂ (λ a b. Kept b p a) (sym d) q (zeros_kept p n z)

                  holds : Holds (record { v = v; c = c; bound = 0; clauses = 0; used = 0 }) u m (blank v c)
                  holds = record {
                    highest = refl;
                    count = refl;
                    many = refl;
                    clauses = refl;
                    used = refl;
                    prefix = subst₂ (λ a b. Shows a b []) (sym d) q (zeros_shown p n z);
                    once = refl;
                    ranged = refl;
                    matrix = refl;
                    variables = refl;
                    limit = x;
                    most = y;
                    room = omega (arith, kept.long);
                    space = omega arith;
                  }
