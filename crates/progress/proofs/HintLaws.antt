-- Laws of the hints at the start of the proof table. Assumes nothing.
use mathlib.Core.Path.{◌≡◌, refl, ap, sym, ◌∙◌}
use mathlib.Core.Bool.{Bool, true, false}
use mathlib.Core.List.{List}
use mathlib.Core.Option.{Option, none, some}
use Prim.Native.Nat.{ℕ, zero, suc, ◌+◌, ◌*◌, ◌/◌, ◌<◌}
use native.Mathlib.Omega.{arith}
use lib.Dec.{eqb}
use lib.ListN.{length, take, get_or, length-map, get_or-map}
use lib.IntN.{ℤ}
use borrow.Author.Tests.{eqb-true, eqb-false}
use Rattle.cells.specs.Cells.{code_at, list_at}
use Rattle.cells.proofs.Laws.{list_end, list_more}
use Rattle.lists.proofs.StoreLaws.{list_kept}
use Rattle.std.specs.Prelude as prelude
use Rattle.progress.specs.Shown.{HintsShown}

-- THE CODES OF A LIST, place by place
code_in_list : (t : List ℤ) (i a : ℕ) → i < length (list_at t a) → get_or (list_at t a) i 0 ≡ code_at t (a + i)
code_in_list t zero a h = test (eqb (code_at t a) 0) refl
  where
    test : (b : Bool) → eqb (code_at t a) 0 ≡ b → get_or (list_at t a) 0 0 ≡ code_at t (a + 0)
    test true q = absurd (let l = ap length (list_end t a (eqb-true (code_at t a) 0 q)) in omega arith)
    test false q =
        let e : a ≡ a + 0 = omega arith in
        ap (λ l. get_or l 0 0) (list_more t a (eqb-false (code_at t a) 0 q)) ∙ ap (code_at t) e
code_in_list t (suc i) a h = test (eqb (code_at t a) 0) refl (code_in_list t i (a + 1))
  where
    test : (b : Bool) → eqb (code_at t a) 0 ≡ b → (i < length (list_at t (a + 1)) → get_or (list_at t (a + 1)) i 0 ≡ code_at t (a + 1 + i))
        → get_or (list_at t a) (suc i) 0 ≡ code_at t (a + suc i)
    test true q r = absurd (let l = ap length (list_end t a (eqb-true (code_at t a) 0 q)) in omega arith)
    test false q r =
        let l = ap length (list_more t a (eqb-false (code_at t a) 0 q)) in
        let e : a + 1 + i ≡ a + suc i = omega arith in
        ap (λ l. get_or l (suc i) 0) (list_more t a (eqb-false (code_at t a) 0 q)) ∙ r (omega arith) ∙ ap (code_at t) e

-- what hint number i says
pub hint_read : (h : prelude.Option ℕ) (proof : List ℤ) (used : ℕ) (ns : List ℕ) → HintsShown h proof used (some ns) → (i : ℕ) → i < length ns
    → code_at proof i / 2 ≡ get_or ns i 0
hint_read h proof used ns e i l =
    let k = ap length e.2 ∙ length-map ns (λ k. 2 * k) in
    let z : 0 + i ≡ i = omega arith in
    let q : code_at proof i ≡ 2 * get_or ns i 0
    = ap (code_at proof) (sym z) ∙ sym (code_in_list proof i 0 (omega arith)) ∙ ap (λ l. get_or l i 0) e.2 ∙ get_or-map (λ k. 2 * k) ns i 0 in
    omega arith

-- what is stored beyond the used part leaves them
pub hints_kept : (h : prelude.Option ℕ) (proof u : List ℤ) (used : ℕ) → take used u ≡ take used proof → (o : Option (List ℕ))
    → HintsShown h proof used o → HintsShown h u used o
hints_kept h proof u used same none e = e
hints_kept h proof u used same (some ns) e = (e.0, e.1, there ∙ e.2)
  where
    there : list_at u 0 ≡ list_at proof 0
    there = let k = ap length e.2 ∙ length-map ns (λ k. 2 * k) in list_kept proof u used 0 same (omega (arith, e.1))
