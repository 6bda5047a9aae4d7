-- No certificate is accepted for a formula that has a strategy.
use mathlib.Core.Path.{◌≡◌, refl, ap, subst}
use mathlib.Core.Bool.{true, false, ◌&&◌, ◌||◌}
use mathlib.Core.List.Memᴰ
use mathlib.Core.List.{List, [], ◌∷◌, ◌++◌}
use mathlib.Core.Option.{Option, none, some}
use Prim.Native.Nat.{ℕ, zero, suc, ◌+◌, ◌-◌, ◌<◌, ◌≤◌}
use native.Mathlib.Omega.{arith}
use borrow.Author.Tests.{ltb-true, leb-true, eqb-false}
use lib.Dec.{eqb, leb, ltb}
use lib.ListN.{length, get_or}
use Rattle.std.specs.List.{list_all as all, list_any as any}
use Rattle.lines.specs.Lists.{is_empty}
use Rattle.lines.specs.Lines.{lines_of}
use Rattle.rules.specs.Basics.{maybe}
use Rattle.rules.specs.Literals.{Lits, vars, same_set}
use Rattle.rules.specs.Formula.{Formula}
use Rattle.rules.specs.Forms.{CertificateLine, mapping, hints, expansion, addition, deletion, certificate_line}
use Rattle.rules.specs.Limits.{Limits}
use Rattle.rules.specs.Propagation.{rup, rat}
use Rattle.rules.specs.Expansion.{copies, is_mapped, expands}
use Rattle.rules.specs.Step.{◌unless◌, ◌then◌, next, ended, judge_file, judge_bytes}
use Rattle.rules.specs.CertificateLines.{State, start, needing, before_additions, before_hints, in_sequence, hint_there, no_hint_left, candidates, in_range, kind_rules, accept, judge, certificate_end, read_certificate}
use Rattle.rules.proofs.Kit.{and_l, and_r, or_cases, eqb_eq, either, In, all_in, any_in}
use Rattle.rules.proofs.Valuation.{Valuation, satisfied, all_satisfied, satisfied_more}
use Rattle.rules.proofs.SatSound.{rup_sound, Model, rat_sound, without_satisfied, empty_stands}
use Rattle.rules.proofs.Strategy.{Strategy}
use Rattle.rules.proofs.Steps.{unless_none, then_none, lines_keep, bytes_next}
use Rattle.rules.proofs.Reading.{Formed}
use Rattle.rules.proofs.HintsForm.{HintsPositive, LineRead, certificate_read}
use Rattle.rules.proofs.ExpansionSound.{copy_value, expands_true}
use Rattle.rules.proofs.Judged.{Judged, judged}

pub get_or_in : {A : Type 0} (xs : List A) (i : ℕ) (d : A) → i < length xs → In (get_or xs i d) xs
get_or_in [] i d h = absurd (omega arith)
get_or_in (x ∷ xs) zero d h = Memᴰ.head refl
get_or_in (x ∷ xs) (suc i) d h = Memᴰ.tail (get_or_in xs i d (omega arith))

module _ (f : Formula) where
  -- each hint names a clause of the matrix
  abbrev HintsName : Option (List ℕ) → Type 0
  HintsName none = Unit {0}
  HintsName (some ns) = (n : ℕ) → In n ns → (0 < n) × (n ≤ f.count)

  -- the clause that an `e` line expands is one of the matrix
  candidates_in : length f.matrix ≡ f.count → (s : State) → HintsName s.hinted → hint_there s ≡ true
      → (c : Lits) → In c (candidates s f) → In c f.matrix
  candidates_in e s = go s.hinted
    where
      go : (o : Option (List ℕ)) → HintsName o → maybe o true (λ ns. ltb s.expansions (length ns)) ≡ true
          → (c : Lits) → In c (maybe o f.matrix (λ ns. get_or f.matrix (get_or ns s.expansions 0 - 1) [] ∷ [])) → In c f.matrix
      go none h t c i = i
      go (some ns) h t c i =
          let n = get_or ns s.expansions 0 in
          let b = h n (get_or_in ns s.expansions 0 (ltb-true s.expansions (length ns) t)) in
          let less : n - 1 < length f.matrix = omega (arith, b.0, b.1, e) in
          Memᴰ.cast (Memᴰ.eq_of_singleton i) (get_or_in f.matrix (n - 1) [] less)

-- What holds after each line. While nothing was added or deleted, the copies' own values satisfy the standing clauses; from then on
-- some valuation does.
pub record Invariant (f : Formula) (S : Strategy f) (s : State) : Type 0 where
  pub hinted : HintsName f s.hinted
  pub nothing_yet : before_additions s ≡ true → eqb s.expansions 0 ≡ true → s.standing ≡ []
  pub copied : before_additions s ≡ true → all_satisfied (copy_value f S s.mapped) s.standing ≡ true
  pub model : (α : Valuation) × (all_satisfied α s.standing ≡ true)

module _ (limits : Limits) (f : Formula) (formed : Formed f) (S : Strategy f) where
  -- after an addition or a deletion only a model matters
  later : (s : State) → (before_additions s ≡ true → ⊥) → HintsName f s.hinted
      → (α : Valuation) × (all_satisfied α s.standing ≡ true) → Invariant f S s
  later s n h m = record { hinted = h; nothing_yet = λ b. absurd (n b); copied = λ b. absurd (n b); model = m }

  module _ (s : State) (inv : Invariant f S s) where
    after_mapping : (ps es : List ℕ) (ls : Lits) → before_hints s ≡ true → Invariant f S (accept s (mapping ps es ls))
    unfolding accept
    after_mapping ps es ls h =
        record {
          hinted = inv.hinted;
          nothing_yet = inv.nothing_yet;
          copied = λ b. ap (all_satisfied (copy_value f S (s.mapped ++ copies ps es ls))) (inv.nothing_yet b zero_expansions);
          model = inv.model;
        }
      where
        before : (before_additions s && eqb s.expansions 0) ≡ true
        before = and_l (before_additions s && eqb s.expansions 0) (maybe s.hinted true (λ ns. false)) h

        zero_expansions : eqb s.expansions 0 ≡ true
        zero_expansions = and_r (before_additions s) (eqb s.expansions 0) before

    after_hints : (ns : List ℕ) → HintsName f (some ns) → Invariant f S (accept s (hints ns))
    unfolding accept
    after_hints ns h = record { hinted = h; nothing_yet = inv.nothing_yet; copied = inv.copied; model = inv.model }

    after_expansion : (c : Lits) → before_additions s ≡ true → satisfied (copy_value f S s.mapped) c ≡ true
        → Invariant f S (accept s (expansion c))
    unfolding accept
    after_expansion c b h =
        record {
          hinted = inv.hinted;
          nothing_yet = λ _ e. absurd (no_more e);
          copied = λ _. more;
          model = (copy_value f S s.mapped, more);
        }
      where
        more : all_satisfied (copy_value f S s.mapped) (s.standing ++ (c ∷ [])) ≡ true
        more = satisfied_more s.standing c (copy_value f S s.mapped) (inv.copied b) h

        no_more : eqb (s.expansions + 1) 0 ≡ true → ⊥
        no_more e = let z = eqb_eq (s.expansions + 1) 0 e in omega arith

    after_addition : (c : Lits) → (rup s.standing c || rat s.standing c) ≡ true → Invariant f S (accept s (addition c))
    unfolding accept
    after_addition c h =
        later (accept s (addition c)) no_more inv.hinted (m.0, satisfied_more s.standing c m.0 m.1 m.2)
      where
        no_more : eqb (s.additions + 1 + s.deletions) 0 ≡ true → ⊥
        no_more e = let z = eqb_eq (s.additions + 1 + s.deletions) 0 e in omega arith

        m : Model s.standing c
        m = either
            (λ r. (inv.model.0, inv.model.1, rup_sound s.standing c inv.model.0 r inv.model.1))
            (λ r. rat_sound s.standing c inv.model.0 r inv.model.1)
            (or_cases (rup s.standing c) (rat s.standing c) h)

    after_deletion : (c : Lits) → Invariant f S (accept s (deletion c))
    unfolding accept
    after_deletion c =
        later (accept s (deletion c)) no_more inv.hinted
        (inv.model.0, without_satisfied (same_set c) s.standing inv.model.0 inv.model.1)
      where
        no_more : eqb (s.additions + (s.deletions + 1)) 0 ≡ true → ⊥
        no_more e = let z = eqb_eq (s.additions + (s.deletions + 1)) 0 e in omega arith

  -- the needs of a line change nothing of this
  with_needs : (s : State) (line : CertificateLine) → Invariant f S s → Invariant f S (needing s line)
  with_needs s line inv = record { hinted = inv.hinted; nothing_yet = inv.nothing_yet; copied = inv.copied; model = inv.model }

  expansion_true : (s : State) (c : Lits) → HintsName f s.hinted → kind_rules f s (expansion c) ≡ none
      → satisfied (copy_value f S s.mapped) c ≡ true
  unfolding kind_rules
  expansion_true s c h r =
      let mapped = 9 unless all (is_mapped s.mapped) (vars c) in
      let hint = 10 unless hint_there s in
      let exists = 11 unless any (expands f s.mapped c) (candidates s f) in
      let p = then_none hint exists (then_none mapped (hint then exists) r).1 in
      let q = any_in (expands f s.mapped c) (candidates s f) (unless_none 11 (any (expands f s.mapped c) (candidates s f)) p.1) in
      expands_true f S s.mapped formed.once c q.0
      (candidates_in f formed.counted s h (unless_none 10 (hint_there s) p.0) q.0 q.1) q.2

  addition_implied : (s : State) (c : Lits) → kind_rules f s (addition c) ≡ none → (rup s.standing c || rat s.standing c) ≡ true
  unfolding kind_rules
  addition_implied s c r =
      let implied = rup s.standing c || rat s.standing c in
      unless_none 12 implied (then_none (10 unless no_hint_left s) (12 unless implied) r).1

  hints_name : (ns : List ℕ) → in_range limits f (hints ns) ≡ true → HintsPositive (hints ns) → HintsName f (some ns)
  unfolding in_range
  hints_name ns r p n i =
      let z = eqb-false n 0 (p n i) in
      let m = leb-true n f.count (all_in (λ n. leb n f.count) r i) in
      (positive n z, m)
    where
      positive : (n : ℕ) → (n ≡ 0 → ⊥) → 0 < n
      positive zero z = absurd (z refl)
      positive (suc n) z = omega arith

  accept_keeps : (s : State) (line : CertificateLine) (s' : State) → HintsPositive line → Judged limits f s line s' → Invariant f S s
      → Invariant f S (accept (needing s line) line)
  unfolding in_sequence
  accept_keeps s (mapping ps es ls) s' p a inv =
      after_mapping (needing s (mapping ps es ls)) (with_needs s (mapping ps es ls) inv) ps es ls a.sequence
  accept_keeps s (hints ns) s' p a inv =
      after_hints (needing s (hints ns)) (with_needs s (hints ns) inv) ns (hints_name ns a.range p)
  accept_keeps s (expansion c) s' p a inv =
      after_expansion (needing s (expansion c)) (with_needs s (expansion c) inv) c a.sequence
      (expansion_true (needing s (expansion c)) c inv.hinted a.kind)
  accept_keeps s (addition c) s' p a inv =
      after_addition (needing s (addition c)) (with_needs s (addition c) inv) c
      (addition_implied (needing s (addition c)) c a.kind)
  accept_keeps s (deletion c) s' p a inv = after_deletion (needing s (deletion c)) (with_needs s (deletion c) inv) c

  -- it holds at the start, every accepted line keeps it, and no certificate may end with it
  pub at_start : Invariant f S (start f)
  at_start = record { hinted = tt; nothing_yet = λ b e. refl; copied = λ b. refl; model = ((λ v. false), refl) }

  pub judge_keeps : (s : State) (line : CertificateLine) (s' : State) → HintsPositive line → judge limits f s line ≡ next s'
      → Invariant f S s → Invariant f S s'
  judge_keeps s line s' p h inv =
      let a = judged limits f s line s' h in
      subst (Invariant f S) a.after (accept_keeps s line s' p a inv)

  pub not_closed : (s : State) → Invariant f S s → certificate_end s ≡ none → ⊥
  unfolding certificate_end
  not_closed s inv h =
      let closed = 14 unless any is_empty s.standing in
      let e = unless_none 14 (any is_empty s.standing) (then_none (10 unless no_hint_left s) closed h).1 in
      empty_stands s.standing inv.model.0 e inv.model.1

  bytes_keep : (s : State) (bs : List ℕ) (s' : State) → judge_bytes certificate_line (judge limits f) s bs ≡ next s'
      → Invariant f S s → Invariant f S s'
  bytes_keep s bs s' h inv =
      either
      (λ e. subst (Invariant f S) e inv)
      (λ j. judge_keeps s j.1 s' (subst LineRead j.2 (certificate_read j.0)) j.3 inv)
      (bytes_next certificate_line (judge limits f) s bs s' h)

  pub certificate_sound : (bs : List ℕ) (s : State) → read_certificate limits f bs ≡ ended s → ⊥
  unfolding read_certificate judge_file
  certificate_sound bs s h =
      let bytes = judge_bytes certificate_line (judge limits f) in
      let k = lines_keep bytes certificate_end (Invariant f S) bytes_keep 1 (lines_of bs) (start f) s h at_start in
      not_closed s k.0 k.1
