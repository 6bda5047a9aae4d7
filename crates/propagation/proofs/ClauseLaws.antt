-- What a look at the clause at a place gives, in the order of the code's tests. Assumes nothing.
use mathlib.Core.Path.{◌≡◌, refl, sym, ◌∙◌, subst}
use mathlib.Core.Bool.{Bool, true, false}
use mathlib.Core.List.{List}
use Prim.Native.Nat.{ℕ, ◌+◌, ◌/◌, ◌<◌}
use lib.IntN.{ℤ}
use Rattle.cells.specs.Cells.{cell_at}
use Rattle.clauses.specs.Standing.{stands, clause_at, standing}
use Rattle.clauses.proofs.LiteralLaws.{literal_small}
use Rattle.clauses.proofs.StandingLaws.{standing_in_lem}
use Rattle.rules.specs.Codes.{flip}
use Rattle.propagation.specs.declared.looks.Look.{Look}
use Rattle.propagation.specs.declared.looks.Look.TheVariants as look
use Rattle.std.specs.Prelude.{Some, None}
use Rattle.propagation.specs.declared.Scan.TheVariants as scan
use Rattle.trail.specs.Trail.{truth, Shape, Assumed, Ready}
use Rattle.propagation.specs.Answers.{In, Saw, Sought, Turned, Scanned}
use Rattle.trail.proofs.TrailLaws.{flip_small}
use Rattle.propagation.proofs.MoveLaws.{moved_refl, moved_unit, read_clash, closed_open, closed_unit}
use Rattle.propagation.proofs.AnswerLaws.{Scanning, scanning_on}

-- it stands, is is c, and f holds the values
module _ (t ms : List ℤ) (count k : ℕ) (lt : k < count) {b : Bool} (q : b ≡ stands t ms k) (y : b ≡ true) (c : List ℕ)
    (e : c ≡ clause_at t ms k) (f : List ℕ) where
  here : In c (standing t ms count)
  here = subst (λ d. In d (standing t ms count)) (sym e) (standing_in_lem t ms count k lt (sym q ∙ y))

  below : (m : ℕ) → In m c → m < 65536
  unfolding clause_at
  below m x = literal_small t (cell_at ms k / 2) m (subst (In m) e x)

  -- JUDGING IT
  module _ {tr : List ℕ} {n : ℕ} (r : Ready f tr n) {o : Look} (v : Sought f c o) where
    pub judge_conflict : o ≡ look.Falsified → Turned (standing t ms count) f tr n f tr n None
    unfolding Turned
    judge_conflict z =
        (refl, moved_refl _ f tr n r, read_clash (standing t ms count) f tr n r c here (subst (Sought f c) z v))

    pub judge_unit : {u : ℕ} → o ≡ look.Unit u → {f' t' : List ℕ} {n' : ℕ} → (Shape f n → u < 65536 → Assumed f tr n (flip u) f' t' n')
        → Turned (standing t ms count) f tr n f' t' n' (Some u)
    unfolding Turned
    judge_unit {u} z {f'} {t'} {n'} a =
        let w : Sought f c (look.Unit u) = subst (Sought f c) z v in
        let small = below u w.0 in
        moved_unit (standing t ms count) f tr n r c here u w (flip_small u small) f' t' n' (a r.trailed.shape small)

  -- SCANNING
  module _ {o : Look} (v : Saw f c o) where
    pub scan_falsified : o ≡ look.Falsified → Scanned (standing t ms count) f scan.Falsified
    unfolding Scanned
    scan_falsified z = (c, here, subst (Saw f c) z v)

    module _ (s : Scanning t ms f count k) where
      pub scan_open : {i j : ℕ} → o ≡ look.Open i j → Scanning t ms f count (k + 1)
      scan_open {i} {j} z =
          scanning_on t ms f count k s lt c e (closed_open (truth f) c i j (subst (Saw f c) z v))

      pub scan_true : {u : ℕ} → o ≡ look.Unit u → {a : Bool} → (u < 65536 → a ≡ truth f u) → a ≡ true → Scanning t ms f count (k + 1)
      scan_true {u} z i x =
          let w : Saw f c (look.Unit u) = subst (Saw f c) z v in
          scanning_on t ms f count k s lt c e
          (closed_unit (truth f) c u w (sym (i (below u w.0)) ∙ x))

    pub scan_unit : {u : ℕ} → o ≡ look.Unit u → {a : Bool} → (u < 65536 → a ≡ truth f u) → a ≡ false → Scanned (standing t ms count) f (scan.Unit u)
    unfolding Scanned
    scan_unit {u} z i x =
        let w : Saw f c (look.Unit u) = subst (Saw f c) z v in
        let small = below u w.0 in
        (c, here, w, small, sym (i small) ∙ x)
