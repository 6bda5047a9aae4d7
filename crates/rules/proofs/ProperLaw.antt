-- Rules 7 and 8 keep the mapping proper: every state that the certificate's lines lead to has a proper mapping.
use mathlib.Core.Path.{◌≡◌, refl, ap, subst, ◌∙◌}
use mathlib.Core.Bool.{Bool, true, ◌&&◌}
use mathlib.Core.List.Memᴰ
use mathlib.Core.List.{List, [], ◌∷◌, ◌++◌}
use mathlib.Core.Option.{none}
use Prim.Native.Nat.{ℕ}
use Rattle.std.specs.List.{list_all as all}
use Rattle.rules.specs.Basics.{distinct}
use Rattle.rules.specs.Literals.{Lits, var, vars}
use Rattle.rules.specs.Formula.{Formula, universal, existential, depends_on}
use Rattle.rules.specs.Forms.{CertificateLine, mapping, hints, expansion, addition, deletion}
use Rattle.rules.specs.Limits.{Limits}
use Rattle.rules.specs.Step.{next, ◌unless◌}
use Rattle.rules.specs.Expansion.{Copy, copies, copy_vars, good_annotation, mapping_rules}
use Rattle.rules.specs.Least.{ProperCopy, Proper}
use Rattle.rules.specs.CertificateLines.{State, start, needing, kind_rules, accept, judge}
use Rattle.rules.proofs.Kit.{and_l, and_r, either, In, all_in}
use Rattle.rules.proofs.Judged.{judged}
use Rattle.rules.proofs.Distinct.{distinct_tail, distinct_cons, distinct_new, distinct_append, append_distinct}
use Rattle.rules.proofs.Steps.{unless_none, then_none}

copies_vars_in : (ps es : List ℕ) (ls : Lits) (n : ℕ) → In n (copy_vars (copies ps es ls)) → In n ps
copies_vars_in [] es ls n i = absurd (Memᴰ.not-nil i)
copies_vars_in (p ∷ ps) [] ls n i = absurd (Memᴰ.not-nil i)
copies_vars_in (p ∷ ps) (e ∷ es) ls n i =
    either (λ q. Memᴰ.head q) (λ k. Memᴰ.tail (copies_vars_in ps es ls n k)) (Memᴰ.cases_cons i)

copies_distinct : (ps es : List ℕ) (ls : Lits) → distinct ps ≡ true → distinct (copy_vars (copies ps es ls)) ≡ true
copies_distinct [] es ls d = refl
copies_distinct (p ∷ ps) [] ls d = refl
copies_distinct (p ∷ ps) (e ∷ es) ls d =
    distinct_cons p (copy_vars (copies ps es ls)) (λ i. distinct_new p ps d (copies_vars_in ps es ls p i))
    (copies_distinct ps es ls (distinct_tail p ps d))

-- a copy of a mapping line stands for one of its existentials, under its annotation
copies_in : (ps es : List ℕ) (ls : Lits) (c : Copy) → In c (copies ps es ls) → In c.stands_for es × (c.under ≡ ls)
copies_in [] es ls c i = absurd (Memᴰ.not-nil i)
copies_in (p ∷ ps) [] ls c i = absurd (Memᴰ.not-nil i)
copies_in (p ∷ ps) (e ∷ es) ls c i =
    either (λ q. (Memᴰ.head (ap (λ (c : Copy). c.stands_for) q), ap (λ (c : Copy). c.under) q))
    (λ k. let s = copies_in ps es ls c k in (Memᴰ.tail s.0, s.1)) (Memᴰ.cases_cons i)

module _ (f : Formula) where
  module _ (es : List ℕ) (ls : Lits) (h : (all (existential f) es && good_annotation f es ls) ≡ true) where
    abbrev dependent : Bool
    dependent = all (λ l. universal f (var l) && all (λ e. depends_on f e (var l)) es) ls

    good : good_annotation f es ls ≡ true
    good = and_r (all (existential f) es) (good_annotation f es ls) h

    proper_copy : (ps : List ℕ) (c : Copy) → In c (copies ps es ls) → ProperCopy f c
    proper_copy ps c i =
        let s = copies_in ps es ls c i in
        record {
          stands = all_in (existential f) (and_l (all (existential f) es) (good_annotation f es ls) h) s.0;
          dependent = λ l j. all_in (λ e. depends_on f e (var l))
              (and_r (universal f (var l)) (all (λ e. depends_on f e (var l)) es)
              (all_in (λ l. universal f (var l) && all (λ e. depends_on f e (var l)) es) (and_l dependent (distinct (vars ls)) good) (subst (In l) s.1 j)))
              s.0;
          once = ap (λ (ls : Lits). distinct (vars ls)) s.1 ∙ and_r dependent (distinct (vars ls)) good;
        }

  map_append : (m n : List Copy) → copy_vars (m ++ n) ≡ copy_vars m ++ copy_vars n
  map_append [] n = refl
  map_append (c ∷ m) n = ap (λ (vs : List ℕ). c.copy ∷ vs) (map_append m n)

  pub proper_mapping : (m : List Copy) (ps es : List ℕ) (ls : Lits) → Proper f m → mapping_rules f m ps es ls ≡ none → Proper f (m ++ copies ps es ls)
  unfolding mapping_rules
  proper_mapping m ps es ls proper h =
      let s = then_none (7 unless distinct (ps ++ copy_vars m)) (8 unless (all (existential f) es && good_annotation f es ls)) h in
      let d = append_distinct ps (copy_vars m) (unless_none 7 (distinct (ps ++ copy_vars m)) s.0) in
      let g = unless_none 8 (all (existential f) es && good_annotation f es ls) s.1 in
      record {
        each = λ c i. either (proper.each c) (proper_copy es ls g ps c) (Memᴰ.append_cases m i);
        once = ap distinct (map_append m (copies ps es ls))
            ∙ distinct_append (copy_vars m) (copy_vars (copies ps es ls)) proper.once (copies_distinct ps es ls d.0)
            λ n i j. d.2 n (copies_vars_in ps es ls n j) i;
      }

  pub proper_start : Proper f (start f).mapped
  proper_start = record { each = λ c i. absurd (Memᴰ.not-nil i); once = refl }

  module _ (limits : Limits) where
    proper_accept : (s : State) (line : CertificateLine) → Proper f s.mapped → kind_rules f s line ≡ none
        → Proper f (accept s line).mapped
    unfolding kind_rules accept
    proper_accept s (mapping ps es ls) p h = proper_mapping s.mapped ps es ls p h
    proper_accept s (hints ns) p h = p
    proper_accept s (expansion c) p h = p
    proper_accept s (addition c) p h = p
    proper_accept s (deletion c) p h = p

    -- ONE STEP
    pub proper_step : (s : State) (line : CertificateLine) (s' : State) → Proper f s.mapped → judge limits f s line ≡ next s'
        → Proper f s'.mapped
    proper_step s line s' p e =
        let j = judged limits f s line s' e in
        subst (λ (z : State). Proper f z.mapped) j.after (proper_accept (needing s line) line p j.kind)
