-- The rules of a clause line that is stored: the code's number is the rules'. Assumes nothing.
use mathlib.Core.Path.{◌≡◌, refl, ap, ap₂, sym, ◌∙◌}
use mathlib.Core.Bool.{Bool, true, false, not, cond}
use mathlib.Core.List.{List, [], ◌∷◌, map}
use mathlib.Core.Option as rules
use mathlib.Core.Option.{none, some}
use Prim.Native.Nat.{ℕ, zero, suc, ◌≤◌, ◌<◌}
use native.Mathlib.Omega.{arith}
use lib.ListN.{length, get_or, length-map}
use Rattle.std.proofs.Common.{Option, Some, None}
use Rattle.std.specs.Option.{is_some}
use Rattle.std.specs.List.{list_all as all}
use Rattle.cells.specs.Cells.{list_at}
use Rattle.rules.specs.Basics.{is_in}
use Rattle.rules.specs.Literals.{Lits, vars}
use Rattle.rules.specs.Codes.{code_of, lit_of}
use Rattle.rules.specs.Formula.{Formula}
use Rattle.rules.specs.Expansion.{is_mapped, expands}
use Rattle.rules.specs.Step.{◌unless◌, ◌then◌}
use Rattle.rules.specs.CertificateLines.{clause_number}
use Rattle.rules.proofs.CodesLaw.{lits_codes}
use Rattle.ferp_rules.specs.Resolvent.{resolvent, derives}
use Rattle.ferp_rules.specs.Lines.{Derived, parent, needing, kind_rules}
use Rattle.tables.specs.Tables.{Tables}
use Rattle.unmapped.proofs.CopyLaws.{mapped_all}
use Rattle.mapping.proofs.LineLaws.{shown_copy}
use Rattle.copies.specs.Copies.{stands_of, annotation_at, annotation_of}
use Rattle.expansion.specs.Codes.{expands_named}
use Rattle.expansion.proofs.ClauseLaws.{CopiesTold, named_tested}
use Rattle.clauses.specs.Standing.{pending, written_at, clause_at, places_of}
use Rattle.clauses.proofs.LiteralLaws.{written_there}
use Rattle.clauses.proofs.StandingLaws.{standing_place}
use Rattle.indexes.specs.Shown.{place_in, place_at}
use Rattle.indexes.proofs.IndexLaws.{not_used, used, missing, found}
use Rattle.resolvents.specs.Resolves.{resolves}
use Rattle.resolvents.proofs.RulesLaws.{resolves_literals}
use Rattle.reading.proofs.GoingLaws.{numbered}
use Rattle.derivations.specs.declared.Progress.{Progress}
use Rattle.derivations.specs.declared.Reason.{Reason}
use Rattle.derivations.specs.declared.Reason.TheVariants.{Clause, Parents}
use Rattle.derivations.specs.declared.Derivation.{Derivation}
use Rattle.derivations.specs.declared.Work.{Work}
use Rattle.derivations.specs.Shown.{Shown, clauses_of}
use Rattle.derivations.specs.Rules.{expansion_broken, by_places, parents_broken, line_broken}
use Rattle.derivations.specs.Judges.{line_of, Named, Pending}

get_d_map : {A B : Type 0} (g : A → B) (xs : List A) (k : ℕ) (a : A) (b : B) → k < length xs → get_or (map g xs) k b ≡ g (get_or xs k a)
get_d_map g [] k a b l = absurd (omega arith)
get_d_map g (x ∷ xs) zero a b l = refl
get_d_map g (x ∷ xs) (suc k) a b l = get_d_map g xs k a b (omega arith)

module _ {p : Progress} {t : Tables} {w : Work} {f : Formula} {s : Derived} (sh : Shown p t w f s) {d : Derivation} {c : Lits} (o : Pending p t d c) where
  abbrev all_copies : Bool
  all_copies = all (is_mapped s.state.mapped) (vars c)

  there : list_at t.proof (written_at p.store) ≡ map code_of c
  there = written_there t.proof p.store ∙ o.stored

  told : CopiesTold t.values t.map s.state.mapped
  unfolding stands_of annotation_at annotation_of
  told = shown_copy sh.mapping

  -- RULES 9 AND 11 of an expansion of matrix clause k
  expansion_number : (k : ℕ) → 1 ≤ k → k ≤ f.count
      → expansion_broken p k t w ≡ cond all_copies (cond (expands f s.state.mapped c (clause_number f k)) 0 11) 9
  unfolding expansion_broken
  expansion_number k least most =
      ap (λ b. cond b (cond (expands_named t.prefix t.values t.map t.proof (written_at p.store) t.matrix w.starts k) 0 11) 9) (mapped_all sh.mapping.noted c o.stored) ∙ go all_copies refl
    where
      go : (b : Bool) → all_copies ≡ b
          → ◌≡◌ {A = ℕ} (cond b (cond (expands_named t.prefix t.values t.map t.proof (written_at p.store) t.matrix w.starts k) 0 11) 9)
          (cond b (cond (expands f s.state.mapped c (clause_number f k)) 0 11) 9)
      go true a =
          ap (λ e. cond e 0 11)
          (named_tested sh.formula sh.indexed sh.proper t.values t.map told t.proof (written_at p.store) c there a k least
          (omega (arith, most, sh.formula.whole)))
      go false a = refl

  -- A PARENT by its place
  all_stand : length (clauses_of p t) ≡ places_of p.store
  all_stand = sym (length-map (clauses_of p t) (map lit_of)) ∙ ap length sh.clauses ∙ sym sh.paired ∙ sym sh.count

  parent_is : (k : ℕ) → k < length s.state.standing → get_or s.state.standing k [] ≡ map lit_of (clause_at t.proof t.marks k)
  parent_is k l =
      let i : k < places_of p.store = omega (arith, l, sh.paired, sh.count) in
      ap (λ S. get_or S k []) (sym sh.clauses) ∙ get_d_map (map lit_of) (clauses_of p t) k [] [] (omega (arith, i, all_stand))
      ∙ ap (map lit_of) (standing_place t.proof t.marks (places_of p.store) all_stand k i)

  -- RULE 16 of a resolution
  parents_number : (a b : ℕ) → a ≤ 65536 → b ≤ 65536
      → parents_broken p a b t.proof t.marks w.indexes ≡ cond (derives c (parent s a) (parent s b)) 0 16
  unfolding parents_broken
  parents_number a b i j =
      ap₂ (by_places p t.proof t.marks) (sh.indexes.each a i) (sh.indexes.each b j) ∙ go (place_in s.indexes a) refl (place_in s.indexes b) refl
    where
      both : (x y : ℕ) → place_in s.indexes a ≡ Some x → place_in s.indexes b ≡ Some y
          → resolves (pending t.proof p.store) (clause_at t.proof t.marks x) (clause_at t.proof t.marks y) ≡ derives c (parent s a) (parent s b)
      both x y e g =
          let d = found s.indexes s.state.standing a x sh.paired e in
          let h = found s.indexes s.state.standing b y sh.paired g in
          resolves_literals (pending t.proof p.store) (clause_at t.proof t.marks x) (clause_at t.proof t.marks y)
          ∙ ap (λ z. resolvent z (map lit_of (clause_at t.proof t.marks x)) (map lit_of (clause_at t.proof t.marks y))) (ap (map lit_of) o.stored ∙ lits_codes c)
          ∙ ap₂ (resolvent c) (sym (parent_is x d.within)) (sym (parent_is y h.within))
          ∙ ap₂ (derives c) (sym d.clause) (sym h.clause)

      none_second : (z : rules.Option Lits) → ◌≡◌ {A = ℕ} (cond (derives c z none) 0 16) 16
      none_second none = refl
      none_second (some d) = refl

      go : (x : Option ℕ) → place_in s.indexes a ≡ x → (y : Option ℕ) → place_in s.indexes b ≡ y
          → by_places p t.proof t.marks x y ≡ cond (derives c (parent s a) (parent s b)) 0 16
      go None e y g = sym (ap (λ z. cond (derives c z (parent s b)) 0 16) (missing s.indexes s.state.standing a e))
      go (Some x) e None g =
          sym (ap (λ z. cond (derives c (parent s a) z) 0 16) (missing s.indexes s.state.standing b g) ∙ none_second (parent s a))
      go (Some x) e (Some y) g = ap (λ z. cond z 0 16) (both x y e g)

  -- RULE 17
  used_test : (i : ℕ) → i ≤ 65536 → is_some (place_at w.indexes i) ≡ is_in s.indexes i
  used_test i l = ap is_some (sh.indexes.each i l) ∙ go (place_in s.indexes i) refl
    where
      go : (x : Option ℕ) → place_in s.indexes i ≡ x → is_some x ≡ is_in s.indexes i
      go None e = sym (not_used s.indexes i e)
      go (Some x) e = sym (used s.indexes i x e)

  -- ALL OF THEM, in their order
  pub kinds : (i : ℕ) (reason : Reason) → Named f i reason
      → kind_rules f (needing s (line_of i reason c)) (line_of i reason c) ≡ numbered (line_broken p i reason t w)
  unfolding kind_rules
  kinds i (Clause k) h =
      go (is_in s.indexes i) all_copies (expands f s.state.mapped c (clause_number f k))
      ∙ sym (ap₂ (λ u x. numbered (cond u 17 x)) (used_test i h.0) (expansion_number k h.1 h.2))
    where
      go : (u a e : Bool) → (17 unless not u then 9 unless a then 11 unless e) ≡ numbered (cond u 17 (cond a (cond e 0 11) 9))
      go false true true = refl
      go false true false = refl
      go false false e = refl
      go true a e = refl
  kinds i (Parents a b) h =
      go (is_in s.indexes i) (derives c (parent s a) (parent s b))
      ∙ sym (ap₂ (λ u x. numbered (cond u 17 x)) (used_test i h.0) (parents_number a b h.1 h.2))
    where
      go : (u d : Bool) → (17 unless not u then 16 unless d) ≡ numbered (cond u 17 (cond d 0 16))
      go false true = refl
      go false false = refl
      go true d = refl
