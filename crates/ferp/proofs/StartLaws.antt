-- Before the first line of the certificate. Assumes nothing.
use mathlib.Core.Path.{◌≡◌, refl, ap, sym, subst}
use mathlib.Core.List.{List}
use Prim.Native.Nat.{ℕ}
use native.Mathlib.Omega.{arith}
use lib.ListN.{length, replicate, length-replicate}
use Rattle.rules.specs.Formula.{Formula}
use Rattle.rules.specs.Needs.{formula_needs}
use Rattle.rules.proofs.ProperLaw.{proper_start}
use Rattle.ferp_rules.specs.Lines.{start}
use Rattle.tables.specs.Tables.{Tables, lengths_of}
use Rattle.tables.proofs.Rooms.{room_fits, places_same}
use Rattle.formula.specs.declared.Reading.{Reading}
use Rattle.formula.specs.Holds.{Holds}
use Rattle.formula.specs.Shown.{FormulaShown}
use Rattle.formula.proofs.ShownLaws.{formula_shown}
use Rattle.mapping.proofs.LineLaws.{shown_start as none-mapped}
use Rattle.matrix.specs.Index.{Indexed, index_of}
use Rattle.matrix.proofs.IndexLaws.{clauses_indexed}
use Rattle.clauses.specs.Standing.{literals}
use Rattle.clauses.proofs.StoreLaws.{filled_above, need_above, standing_above, places_above}
use Rattle.indexes.proofs.IndexLaws.{shown_start as none-used}
use Rattle.resolvents.proofs.MarkLaws.{clear_start}
use Rattle.derivations.specs.declared.Work.{Work}
use Rattle.derivations.specs.Shown.{needs_of, Shown, weight}
use Rattle.ferp.specs.Check.{begun}

-- working memory of zeros, but for where the matrix clauses start
abbrev pub fresh : List ℕ → Work
fresh starts = record {
  starts = starts;
  noted = replicate 16385 0;
  indexes = replicate 65537 0;
  seen = replicate 65536 0;
  held = replicate 8194 0;
  buffer = replicate 4096 0;
}

module _ (r : Reading) (t : Tables) (f : Formula) (h : Holds r t.prefix t.matrix f) (w : length f.matrix ≡ r.c) where
  shown : FormulaShown r.v r.c r.used t.prefix t.matrix f
  shown = formula_shown r t.prefix t.matrix f h w

  -- NOTHING IS READ YET
  pub shown_start : {starts : List ℕ} → starts ≡ index_of t.matrix r.used (replicate 8193 0)
      → Shown (begun r) t (fresh starts) f (start f)
  unfolding formula_needs
  shown_start e = let a = need_above 0 in let b = places_above 0 in record {
    formula = shown;
    indexed = subst (λ l. Indexed l f) (sym e) (clauses_indexed shown (replicate 8193 0) (length-replicate {A = ℕ} 8193 0));
    mapping = none-mapped t.map t.values;
    proper = proper_start f;
    copies = omega arith;
    clauses = ap literals (standing_above t.proof t.marks 0);
    filled = filled_above t.proof t.marks 0 (λ z. absurd (omega arith));
    count = b;
    paired = refl;
    indexes = none-used;
    clear = clear_start;
    expansions = refl;
    additions = refl;
    deletions = refl;
    needs = places_same (sym h.highest) (sym h.used) refl (omega (arith, a.0, b)) (sym a.1) refl;
    room = room_fits (lengths_of t) (needs_of (begun r)) (record {
      prefix = h.room;
      matrix = h.space;
      map = omega arith;
      proof = omega (arith, a.0, b);
      marks = omega (arith, a.1);
      values = omega arith;
    });
  }

pub light_start : (r : Reading) → weight (begun r) ≡ 0
light_start r = let a = need_above 0 in omega (arith, a.0, a.1)
