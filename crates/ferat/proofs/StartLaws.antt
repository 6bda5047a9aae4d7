-- Before the first line of the certificate. Assumes nothing.
use mathlib.Core.Path.{◌≡◌, refl, ap, sym, subst}
use Prim.Native.Nat.{ℕ}
use native.Mathlib.Omega.{arith}
use lib.ListN.{length, replicate, length-replicate}
use Rattle.rules.specs.Formula.{Formula}
use Rattle.rules.specs.Needs.{formula_needs}
use Rattle.rules.specs.CertificateLines.{start}
use Rattle.rules.proofs.ProperLaw.{proper_start}
use Rattle.tables.specs.Tables.{Tables, lengths_of}
use Rattle.tables.proofs.Rooms.{room_fits, places_same}
use Rattle.formula.specs.declared.Reading.{Reading}
use Rattle.formula.specs.Holds.{Holds}
use Rattle.formula.specs.Shown.{FormulaShown}
use Rattle.formula.proofs.ShownLaws.{formula_shown}
use Rattle.mapping.proofs.LineLaws.{shown_start as none-mapped}
use Rattle.matrix.specs.Index.{Indexed, index_of}
use Rattle.matrix.proofs.IndexLaws.{clauses_indexed}
use Rattle.clauses.specs.Standing.{standing, places_of, literals, empty_above}
use Rattle.clauses.proofs.StoreLaws.{filled_above, need_above, standing_above}
use Rattle.trail.specs.Trail.{Ready, ReadyIn}
use Rattle.propagation.specs.Answers.{Held}
use Rattle.propagation.proofs.MoveLaws.{held_empty}
use Rattle.progress.specs.declared.Work.{Work}
use Rattle.progress.specs.Shown.{needs_of, Shown, weight}
use Rattle.ferat.specs.Check.{begun}

module _ (r : Reading) (t : Tables) (f : Formula) (h : Holds r t.prefix t.matrix f) (w : length f.matrix ≡ r.c) where
  shown : FormulaShown r.v r.c r.used t.prefix t.matrix f
  shown = formula_shown r t.prefix t.matrix f h w

  -- NOTHING IS READ YET, and the working memory is of zeros but for the index
  pub shown_start : {m : Work} → m.starts ≡ index_of t.matrix r.used (replicate 8193 0) → m.noted ≡ replicate 16385 0 → ReadyIn m.propagation.trail
      → m.propagation.trail.length ≡ 0 → Shown (begun r) t m f (start f)
  unfolding formula_needs
  shown_start {m} e i ready none = record {
    formula = shown;
    indexed = subst (λ l. Indexed l f) (sym e) (clauses_indexed shown (replicate 8193 0) (length-replicate {A = ℕ} 8193 0));
    mapping = rw i (none-mapped t.map t.values);
    proper = proper_start f;
    copies = omega arith;
    hints = refl;
    named = refl;
    fresh = λ x y. refl;
    clauses = ap literals (standing_above t.proof t.marks 0);
    filled = filled_above t.proof t.marks 0 (λ z. absurd (omega arith));
    held =
        subst (Held (standing t.proof t.marks (places_of (empty_above 0))) m.propagation.trail.falses m.propagation.trail.literals) (sym none)
        (held_empty (standing t.proof t.marks (places_of (empty_above 0))) m.propagation.trail.falses m.propagation.trail.literals
        (subst (Ready m.propagation.trail.falses m.propagation.trail.literals) none ready));
    expansions = refl;
    additions = refl;
    deletions = refl;
    needs = let a = need_above 0 in places_same (sym h.highest) (sym h.used) refl (sym a.0) (sym a.1) refl;
    room = let a = need_above 0 in room_fits (lengths_of t) (needs_of (begun r)) (record {
      prefix = h.room;
      matrix = h.space;
      map = omega arith;
      proof = omega (arith, a.0);
      marks = omega (arith, a.1);
      values = omega arith;
    });
  }

pub light_start : (r : Reading) → weight (begun r) ≡ 0
light_start r = let a = need_above 0 in omega (arith, a.0, a.1)
