-- No FERP certificate is accepted for a formula that has a strategy.
use mathlib.Core.Path.{◌≡◌, refl, sym, ap, subst}
use mathlib.Core.Bool.{Bool, true, false, not, ◌&&◌}
use mathlib.Core.List.Memᴰ
use mathlib.Core.List.{List, [], ◌∷◌, ◌++◌}
use mathlib.Core.Option.{Option, none, some}
use Prim.Native.Nat.{ℕ, zero, suc, ◌+◌, ◌-◌, ◌<◌, ◌≤◌}
use native.Mathlib.Omega.{arith}
use borrow.Author.Tests.{leb-true, eqb-false}
use lib.Dec.{eqb, leb}
use lib.ListN.{length}
use Rattle.std.specs.List.{list_all as all, list_any as any}
use Rattle.lines.specs.Lists.{is_empty}
use Rattle.lines.specs.Lines.{lines_of}
use Rattle.rules.specs.Basics.{is_in}
use Rattle.rules.specs.Literals.{Lits, vars}
use Rattle.rules.specs.Formula.{Formula}
use Rattle.rules.specs.Forms as ferat
use Rattle.rules.specs.Limits.{Limits, allows, has_room}
use Rattle.rules.specs.Expansion.{copies, is_mapped, expands}
use Rattle.rules.specs.Step.{◌unless◌, ◌then◌, next, ended, refuse_in, judge_file, judge_bytes}
use Rattle.rules.specs.CertificateLines as ferat-lines
use Rattle.rules.specs.CertificateLines.{copies_in_range, clause_number}
use Rattle.rules.proofs.Kit.{and_r, either, In, all_in}
use Rattle.rules.proofs.Valuation.{Valuation, satisfied, all_satisfied, satisfied_more}
use Rattle.rules.proofs.SatSound.{empty_stands}
use Rattle.rules.proofs.Strategy.{Strategy}
use Rattle.rules.proofs.Steps.{unless_none, then_none, refuse_next, lines_keep, bytes_next}
use Rattle.rules.proofs.Reading.{Formed}
use Rattle.rules.proofs.ExpansionSound.{copy_value, expands_true}
use Rattle.rules.proofs.Sound.{get_or_in}
use Rattle.ferp_rules.specs.Forms.{FerpLine, mapping, expansion, resolution, ferp_line}
use Rattle.ferp_rules.specs.Resolvent.{derives}
use Rattle.ferp_rules.specs.Lines.{Derived, start, clause_of, parent, needing, in_sequence, in_range, kind_rules, accept, certificate_end, judge, read_ferp}
use Rattle.ferp_rules.proofs.ResolventLaws.{resolvent_true}
use Rattle.ferp_rules.proofs.FormLaws.{NumberPositive, LineRead, ferp_read}

-- a clause found by its index is one of the derived ones
found_in : (js : List ℕ) (cs : List Lits) (i : ℕ) (c : Lits) → clause_of js cs i ≡ some c → In c cs
found_in [] cs i c h = let z : ◌≡◌ {A = ℕ} 0 1 = cc in absurd (omega arith)
found_in (j ∷ js) [] i c h = let z : ◌≡◌ {A = ℕ} 0 1 = cc in absurd (omega arith)
found_in (j ∷ js) (d ∷ cs) i c h = go (eqb i j) (found_in js cs i c) h
  where
    go : (b : Bool) → (clause_of js cs i ≡ some c → In c cs) → elim b as (λ _. Option Lits) [ true ↦ some d | false ↦ clause_of js cs i ] ≡ some c → In c (d ∷ cs)
    go true rest k = let q : c ≡ d = (let z : some c ≡ some d = sym k in cc) in Memᴰ.head q
    go false rest k = Memᴰ.tail (rest k)

-- a clause that two parents derive is true where all derived clauses are
derives_true : (α : Valuation) (cs : List Lits) (c : Lits) (p q : Option Lits)
    → ((d : Lits) → p ≡ some d → In d cs) → ((d : Lits) → q ≡ some d → In d cs)
    → derives c p q ≡ true → all_satisfied α cs ≡ true → satisfied α c ≡ true
derives_true α cs c none q a b h k = let z : ◌≡◌ {A = ℕ} 0 1 = cc in absurd (omega arith)
derives_true α cs c (some d) none a b h k = let z : ◌≡◌ {A = ℕ} 0 1 = cc in absurd (omega arith)
derives_true α cs c (some d) (some e) a b h k =
    resolvent_true α c d e h (all_in (satisfied α) k (a d refl)) (all_in (satisfied α) k (b e refl))

-- What holds after each line: the copies' own values satisfy every clause derived.
pub record Invariant (f : Formula) (S : Strategy f) (s : Derived) : Type 0 where
  pub nothing_yet : is_empty s.indexes ≡ true → s.state.standing ≡ []
  pub copied : all_satisfied (copy_value f S s.state.mapped) s.state.standing ≡ true

no_end : (is : List ℕ) (i : ℕ) → is_empty (is ++ (i ∷ [])) ≡ true → ⊥
no_end [] i h = let z : ◌≡◌ {A = ℕ} 0 1 = cc in omega arith
no_end (j ∷ is) i h = let z : ◌≡◌ {A = ℕ} 0 1 = cc in omega arith

module _ (limits : Limits) (f : Formula) (formed : Formed f) (S : Strategy f) where
  with_needs : (s : Derived) (line : FerpLine) → Invariant f S s → Invariant f S (needing s line)
  with_needs s line inv = record { nothing_yet = inv.nothing_yet; copied = inv.copied }

  module _ (s : Derived) (inv : Invariant f S s) where
    after_mapping : (ps es : List ℕ) (ls : Lits) → is_empty s.indexes ≡ true → Invariant f S (accept s (mapping ps es ls))
    unfolding accept ferat-lines.accept
    after_mapping ps es ls h = record {
      nothing_yet = inv.nothing_yet;
      copied = ap (all_satisfied (copy_value f S (s.state.mapped ++ copies ps es ls))) (inv.nothing_yet h);
    }

    after_expansion : (i : ℕ) (c : Lits) (n : ℕ) → satisfied (copy_value f S s.state.mapped) c ≡ true
        → Invariant f S (accept s (expansion i c n))
    unfolding accept ferat-lines.accept
    after_expansion i c n h = record {
      nothing_yet = λ e. absurd (no_end s.indexes i e);
      copied = satisfied_more s.state.standing c (copy_value f S s.state.mapped) inv.copied h;
    }

    after_resolution : (i : ℕ) (c : Lits) (a b : ℕ) → satisfied (copy_value f S s.state.mapped) c ≡ true
        → Invariant f S (accept s (resolution i c a b))
    unfolding accept ferat-lines.accept
    after_resolution i c a b h = record {
      nothing_yet = λ e. absurd (no_end s.indexes i e);
      copied = satisfied_more s.state.standing c (copy_value f S s.state.mapped) inv.copied h;
    }

    resolution_true : (i : ℕ) (c : Lits) (a b : ℕ) → kind_rules f s (resolution i c a b) ≡ none
        → satisfied (copy_value f S s.state.mapped) c ≡ true
    unfolding kind_rules
    resolution_true i c a b r =
        derives_true (copy_value f S s.state.mapped) s.state.standing c (parent s a) (parent s b)
        (found_in s.indexes s.state.standing a) (found_in s.indexes s.state.standing b)
        (unless_none 16 (derives c (parent s a) (parent s b))
        (then_none (17 unless not (is_in s.indexes i)) (16 unless derives c (parent s a) (parent s b)) r).1)
        inv.copied

    expansion_true : (i : ℕ) (c : Lits) (n : ℕ) → eqb n 0 ≡ false → leb n f.count ≡ true → kind_rules f s (expansion i c n) ≡ none
        → satisfied (copy_value f S s.state.mapped) c ≡ true
    unfolding kind_rules
    expansion_true i c n positive range r =
        let used = 17 unless not (is_in s.indexes i) in
        let mapped = 9 unless all (is_mapped s.state.mapped) (vars c) in
        let exists = 11 unless expands f s.state.mapped c (clause_number f n) in
        let p = then_none mapped exists (then_none used (mapped then exists) r).1 in
        let z = eqb-false n 0 positive in
        let m = leb-true n f.count range in
        let less : n - 1 < length f.matrix = below n z m in
        expands_true f S s.state.mapped formed.once c (clause_number f n) (get_or_in f.matrix (n - 1) [] less)
        (unless_none 11 (expands f s.state.mapped c (clause_number f n)) p.1)
      where
        below : (n : ℕ) → (n ≡ 0 → ⊥) → n ≤ f.count → n - 1 < length f.matrix
        below zero z m = absurd (z refl)
        below (suc k) z m = omega (arith, m, formed.counted)

  range_of_lem : (i : ℕ) (c : Lits) (n : ℕ) → in_range limits f (expansion i c n) ≡ true → leb n f.count ≡ true
  unfolding in_range
  range_of_lem i c n h = and_r (allows limits.indexes i && copies_in_range limits (vars c)) (leb n f.count) h

  accept_keeps : (s : Derived) (line : FerpLine) → NumberPositive line → in_sequence s line ≡ true → in_range limits f line ≡ true
      → kind_rules f (needing s line) line ≡ none → Invariant f S s → Invariant f S (accept (needing s line) line)
  unfolding in_sequence
  accept_keeps s (mapping ps es ls) p t r k inv =
      after_mapping (needing s (mapping ps es ls)) (with_needs s (mapping ps es ls) inv) ps es ls t
  accept_keeps s (expansion i c n) p t r k inv =
      let v = with_needs s (expansion i c n) inv in
      after_expansion (needing s (expansion i c n)) v i c n
      (expansion_true (needing s (expansion i c n)) v i c n p (range_of_lem i c n r) k)
  accept_keeps s (resolution i c a b) p t r k inv =
      let v = with_needs s (resolution i c a b) inv in
      after_resolution (needing s (resolution i c a b)) v i c a b (resolution_true (needing s (resolution i c a b)) v i c a b k)

  judge_keeps : (s : Derived) (line : FerpLine) (s' : Derived) → NumberPositive line → judge limits f s line ≡ next s'
      → Invariant f S s → Invariant f S s'
  unfolding judge
  judge_keeps s line s' p h inv =
      let after = accept (needing s line) line in
      let room = has_room limits.lengths (needing s line).state.needs in
      let rules = 15 unless room then kind_rules f (needing s line) line in
      let before = 2 unless in_sequence s line then 3 unless in_range limits f line in
      let a = refuse_next s before (refuse_in (needing s line) rules (next after)) s' h in
      let b = refuse_next (needing s line) rules (next after) s' a.1 in
      let c = then_none (2 unless in_sequence s line) (3 unless in_range limits f line) a.0 in
      let d = then_none (15 unless room) (kind_rules f (needing s line) line) b.0 in
      let e : after ≡ s' = let q : next after ≡ next s' = b.1 in cc in
      subst (Invariant f S) e
      (accept_keeps s line p (unless_none 2 (in_sequence s line) c.0) (unless_none 3 (in_range limits f line) c.1) d.1 inv)

  bytes_keep : (s : Derived) (bs : List ℕ) (s' : Derived) → judge_bytes ferp_line (judge limits f) s bs ≡ next s'
      → Invariant f S s → Invariant f S s'
  bytes_keep s bs s' h inv =
      either
      (λ e. subst (Invariant f S) e inv)
      (λ j. judge_keeps s j.1 s' (subst LineRead j.2 (ferp_read j.0)) j.3 inv)
      (bytes_next ferp_line (judge limits f) s bs s' h)

  pub ferp_sound : (bs : List ℕ) (s : Derived) → read_ferp limits f bs ≡ ended s → ⊥
  unfolding read_ferp judge_file certificate_end
  ferp_sound bs s h =
      let bytes = judge_bytes ferp_line (judge limits f) in
      let k = lines_keep bytes certificate_end (Invariant f S) bytes_keep 1 (lines_of bs) (start f) s h
      (record { nothing_yet = λ e. refl; copied = refl }) in
      empty_stands s.state.standing (copy_value f S s.state.mapped)
      (unless_none 14 (any is_empty s.state.standing) k.1) k.0.copied
