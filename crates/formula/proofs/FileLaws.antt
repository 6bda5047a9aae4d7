-- Laws of the formula's lines one after the other. Assumes nothing.
use mathlib.Core.Path.{◌≡◌, refl, ap, ap₂, sym, ◌∙◌, subst}
use mathlib.Core.Bool.{Bool, true, false, cond}
use mathlib.Core.List.{List, [], ◌∷◌, ◌++◌, map}
use mathlib.Core.Option.{Option, none, some}
use Prim.Native.Nat.{ℕ, ◌+◌, ◌≤◌, ◌<◌}
use native.Mathlib.Omega.{arith}
use lib.Dec.{eqb, leb}
use lib.ListN.{length}
use lib.IntN.{ℤ}
use borrow.Author.Tests.{eq-eqb, ne_eqb, eqb-true, le-leb, lt-leb}
use Rattle.std.specs.Prelude.{Some, None, Ok, Err}
use Rattle.rules.specs.declared.Rule.TheVariants.{Malformed, WrongClauseCount, Overlong}
use Rattle.rules.specs.Rule.{number, of_file}
use Rattle.rules.specs.declared.Rule.{Rule}
use Rattle.rules.specs.declared.Refusal.{Refusal}
use Rattle.std.specs.List.{list_all as all}
use Rattle.lines.specs.Lists.{is_empty}
use Rattle.lines.specs.Lines.{Token, lines_of, read_line}
use Rattle.lines.specs.Each.{bytes_in}
use Rattle.lines.proofs.LinesLeft.{bytes_of_lines}
use Rattle.cells.specs.Cells.{Kept}
use Rattle.cells.proofs.Laws.{kept_self, kept_chain, kept_later}
use Rattle.rules.specs.Basics.{maybe, is_in, distinct}
use Rattle.rules.specs.Literals.{vars}
use Rattle.rules.specs.Formula.{Formula, bound_var, bound}
use Rattle.rules.specs.Forms.{FormulaLine, problem, binding, clause, formula_line}
use Rattle.rules.specs.Needs.{Places, places, formula_needs, formula_needs_so_far}
use Rattle.rules.specs.Limits.{limits, has_room}
use Rattle.rules.specs.Step.{Step, next, refuse, Read, ended, refused_at, refuse_in, go_on, ◌unless◌, ◌then◌, judge_lines, judge_file, judge_bytes}
use Rattle.rules.specs.FormulaLines.{up_to_v, with_bound, with_clause, judge_formula, formula_end, read_formula}
use Rattle.formula.specs.declared.Reading.{Reading}
use Rattle.formula.specs.Holds.{Sized}
use Rattle.formula.specs.Judged.{State, Outcome, line_judge, Holding, Stepped, state_in, Judged, Grows, bound_of, used_of, LineRead, Able}
use Rattle.formula.specs.Answers.{Answer, close_of, Answers, Whole, reading, Answered}
use Rattle.formula.proofs.Steps.{need_more}

-- THE NEEDS ONLY GROW
abbrev Grown : Option Formula → Option Formula → Type 0
Grown f g = ((formula_needs_so_far f).prefix ≤ (formula_needs_so_far g).prefix) × ((formula_needs_so_far f).matrix ≤ (formula_needs_so_far g).matrix)

grown_in : (f g h : Option Formula) (x : Option ℕ) → Grown f g → Grown f h → Grown f (state_in (refuse_in g x (next h)))
grown_in f g h none a b = b
grown_in f g h (some n) a b = a

grown_clause : (f g : Formula) (x y : Option ℕ) → Grown (some f) (some g) → Grown (some f) (state_in (refuse_in (some f) x (refuse_in (some g) y (next (some g)))))
grown_clause f g none y a = grown_in (some f) (some g) (some g) y a a
grown_clause f g (some n) y a = (omega arith, omega arith)

from_none : (g : Option Formula) → Grown none g
from_none g = (omega arith, omega arith)

judge_grows : (l : Places) (f : Option Formula) (x : FormulaLine) → Grown f (state_in (judge_formula (limits l) f x))
unfolding judge_formula formula_needs
judge_grows l none x = from_none (state_in (judge_formula (limits l) none x))
judge_grows l (some f) (problem v c) = (omega arith, omega arith)
judge_grows l (some f) (binding bs) =
    grown_in (some f) (some f) (some (with_bound f bs))
    (2 unless is_empty f.matrix then 3 unless up_to_v f (map bound_var bs) then 4 unless distinct (map bound_var bs ++ bound f)) (omega arith, omega arith) (omega arith, omega arith)
judge_grows l (some f) (clause c) =
    grown_clause f (with_clause f c) (3 unless up_to_v f (vars c))
    (15 unless has_room (some l) (formula_needs (with_clause f c)) then 5 unless all (is_in (bound f)) (vars c) then 6 unless leb (length f.matrix + 1) f.count)
    (omega arith, omega (arith, need_more f c))

needs_grow : (bs : List ℕ) (l : Places) (f : Option Formula) → Grown f (state_in (line_judge bs l f))
unfolding line_judge judge_bytes
needs_grow bs l f = line (read_line bs)
  where
    form : (x : Option FormulaLine) → Grown f (state_in (maybe x (refuse 2 f) (judge_formula (limits l) f)))
    form none = (omega arith, omega arith)
    form (some x) = judge_grows l f x

    line : (r : Option (List Token)) → Grown f (state_in (maybe r (next f) (λ ts. maybe (formula_line ts) (refuse 2 f) (judge_formula (limits l) f))))
    line none = (omega arith, omega arith)
    line (some ts) = form (formula_line ts)

-- what the code's step tells of the rules'
step_refused : (x : Step (Option Formula)) (rule : Rule) (u w : List ℤ) → Stepped x (Err rule) u w → x ≡ refuse (number rule) (state_in x)
step_refused (next f) rule u w h = absurd h
step_refused (refuse n f) rule u w h = ap (λ n. refuse n f) (sym h)

step_next : (x : Step (Option Formula)) (s : State) (u w : List ℤ) → Stepped x (Ok s) u w → (x ≡ next (state_in x)) × Holding s u w (state_in x)
step_next (next f) s u w h = (refl, h)
step_next (refuse n f) s u w h = absurd h

holding_space : (s : State) (p m : List ℤ) (f : Option Formula) → Holding s p m f → used_of s ≤ length m
holding_space None p m f h = omega arith
holding_space (Some r) p m none h = absurd h
holding_space (Some r) p m (some f) h = h.space

-- THE FOLD, at a line's start: the rules' state, and what is left of the rules' reading
abbrev judge_all : Places → ℕ → List (List ℕ) → Option Formula → Read (Option Formula)
judge_all l = judge_lines (judge_bytes formula_line (judge_formula (limits l))) formula_end

pub record Here (bs : List ℕ) (p₀ m₀ p m : List ℤ) (s : State) (n : ℕ) (ls : List (List ℕ)) (l : Places) : Type 0 where
  pub state : Option Formula
  pub holds : Holding s p m state
  pub left : read_formula (limits l) bs ≡ judge_all l n ls state
  pub prefix : Kept (formula_needs_so_far state).prefix p₀ p
  pub matrix : Kept (formula_needs_so_far state).matrix m₀ m

-- line n comes next, and these are left
pub record Going (bs : List ℕ) (p₀ m₀ p m : List ℤ) (s : State) (n : ℕ) (ls : List (List ℕ)) : Type 0 where
  pub count : n + bytes_in ls ≤ length bs + 2
  pub bound : bound_of s + bytes_in ls ≤ length bs + 1
  pub here : (l : Places) → Sized l p₀ m₀ → Here bs p₀ m₀ p m s n ls l

pub going_start : {bs : List ℕ} {p m : List ℤ} {ls : List (List ℕ)} {n : ℕ} → ls ≡ lines_of bs → n ≡ 1 → Going bs p m p m None n ls
unfolding read_formula judge_file
going_start {bs} {p} {m} {ls} {n} e first = record {
  count = omega (arith, ap bytes_in e, bytes_of_lines bs, first);
  bound = omega (arith, ap bytes_in e, bytes_of_lines bs);
  here = λ l o. record { state = none; holds = tt; left = ap₂ (λ n ls. judge_all l n ls none) (sym first) (sym e); prefix = kept_self 0 p; matrix = kept_self 0 m };
}

-- the end of the file
closes : (l : Places) (p₀ m₀ u w : List ℤ) (t : State) (f : Option Formula) → Holding t u w f → Kept (formula_needs_so_far f).prefix p₀ u → Kept (formula_needs_so_far f).matrix m₀ w
    → Answers (go_on (refuse_in f (formula_end f) (next f)) ended 0) p₀ m₀ (close_of t) u w
unfolding formula_end
closes l p₀ m₀ u w None none h a b = record { answer = (refl, refl); prefix = a; matrix = b }
closes l p₀ m₀ u w None (some f) h a b = absurd h
closes l p₀ m₀ u w (Some r) none h a b = absurd h
closes l p₀ m₀ u w (Some r) (some f) h a b =
    subst (λ y. Answers (go_on (refuse_in (some f) (6 unless eqb (length f.matrix) f.count) (next (some f))) ended 0) p₀ m₀ (cond y (Ok r) (Err (of_file WrongClauseCount))) u w)
    (sym (ap₂ eqb h.clauses h.count)) (go (eqb (length f.matrix) f.count) refl)
  where
    go : (y : Bool) → eqb (length f.matrix) f.count ≡ y → Answers (go_on (refuse_in (some f) (6 unless y) (next (some f))) ended 0) p₀ m₀ (cond y (Ok r) (Err (of_file WrongClauseCount))) u w
    go true e = record { answer = (h, eqb-true (length f.matrix) f.count e ∙ sym h.count); prefix = a; matrix = b }
    go false e = record { answer = (refl, refl); prefix = a; matrix = b }

module _ {bs : List ℕ} {p₀ m₀ p m : List ℤ} {s : State} {n : ℕ} {ls : List (List ℕ)} (g : Going bs p₀ m₀ p m s n ls) where
  -- no line is left
  pub going_last : {v : Answer} → ls ≡ [] → v ≡ close_of s → Whole bs p₀ m₀ v p m
  unfolding judge_lines
  going_last {v} e q = record {
    answers = λ l o. let k = g.here l o in
        subst (λ v. Answers (read_formula (limits l) bs) p₀ m₀ v p m) (sym q)
        (subst (λ r. Answers r p₀ m₀ (close_of s) p m) (sym (k.left ∙ ap (λ ls. judge_all l n ls k.state) e))
        (closes l p₀ m₀ p m s k.state k.holds k.prefix k.matrix));
  }

module _ {bs : List ℕ} {p₀ m₀ p m : List ℤ} {s : State} {n : ℕ} {ls : List (List ℕ)} (g : Going bs p₀ m₀ p m s n ls) {line : List ℕ} {rest : List (List ℕ)}
    (h : ls ≡ line ∷ rest) where
  pub going_able : length bs ≤ 1048576 → Able (length line) s m
  going_able z =
      let k = g.here (places (length p₀) (length m₀) 0 0 0 0) (record { prefix = refl; matrix = refl }) in
      record { space = holding_space s p m k.state k.holds; short = omega (arith, g.bound, ap bytes_in h) }

  module _ {x : Outcome} {u w : List ℤ} (a : LineRead (line_judge line) s (length line) p m x u w) where
    -- what the rules say of the line in the state before it
    module _ (l : Places) (o : Sized l p₀ m₀) where
      abbrev step : Step (Option Formula)
      step = line_judge line l (g.here l o).state

      judged : Judged step p m x u w
      judged =
          let k = g.here l o in
          a.judged l k.state (record { prefix = o.prefix ∙ sym k.prefix.long; matrix = o.matrix ∙ sym k.matrix.long }) k.holds

      prefix_kept : Kept (formula_needs_so_far (state_in step)).prefix p₀ u
      prefix_kept = kept_chain (kept_later (g.here l o).prefix (needs_grow line l (g.here l o).state).0) judged.prefix

      matrix_kept : Kept (formula_needs_so_far (state_in step)).matrix m₀ w
      matrix_kept = kept_chain (kept_later (g.here l o).matrix (needs_grow line l (g.here l o).state).1) judged.matrix

      one_line : {y : Step (Option Formula)} → step ≡ y → read_formula (limits l) bs ≡ go_on y (judge_all l (n + 1) rest) n
      unfolding judge_lines line_judge
      one_line r = (g.here l o).left ∙ ap (λ ls. judge_all l n ls (g.here l o).state) h ∙ ap (λ y. go_on y (judge_all l (n + 1) rest) n) r

    pub going_refused : {rule : Rule} → x ≡ Err rule → {r : Refusal} → r ≡ record { rule = rule; line = n } → Whole bs p₀ m₀ (Err r) u w
    going_refused {rule} b e = subst (λ r. Whole bs p₀ m₀ (Err r) u w) (sym e) record {
      answers = λ l o. subst (λ r. Answers r p₀ m₀ (Err (record { rule = rule; line = n })) u w)
          (sym (one_line l o (step_refused (step l o) rule u w (subst (λ x. Stepped (step l o) x u w) b (judged l o).stepped))))
          (record { answer = (refl, refl); prefix = prefix_kept l o; matrix = matrix_kept l o });
    }

    module _ {t : State} (b : x ≡ Ok t) {k : ℕ} (c : k ≡ n + 1) where
      goes_on : (l : Places) (o : Sized l p₀ m₀) → (step l o ≡ next (state_in (step l o))) × Holding t u w (state_in (step l o))
      goes_on l o = step_next (step l o) t u w (subst (λ x. Stepped (step l o) x u w) b (judged l o).stepped)

      pub going_next : Going bs p₀ m₀ u w t k rest
      going_next = record {
        count = omega (arith, g.count, ap bytes_in h, c);
        bound = omega (arith, subst (Grows (bound_of s + length line)) b a.grows, g.bound, ap bytes_in h);
        here = λ l o. record {
          state = state_in (step l o);
          holds = (goes_on l o).1;
          left = one_line l o (goes_on l o).0 ∙ ap (λ n. judge_all l n rest (state_in (step l o))) (sym c);
          prefix = prefix_kept l o;
          matrix = matrix_kept l o;
        };
      }

pub close_all : {s : State} {r : Reading} → s ≡ Some r → r.clauses ≡ r.c → Ok r ≡ close_of s
close_all {s} {r} e h = sym (ap close_of e ∙ ap (λ t. cond t (Ok r) (Err (of_file WrongClauseCount))) (eq-eqb r.clauses r.c h))

pub close_few : {s : State} {r : Reading} {x : Refusal} → s ≡ Some r → (r.clauses ≡ r.c → ⊥) → x ≡ of_file WrongClauseCount → Err x ≡ close_of s
close_few {s} {r} e h i = ap Err i ∙ sym (ap close_of e ∙ ap (λ t. cond t (Ok r) (Err (of_file WrongClauseCount))) (ne_eqb r.clauses r.c h))

pub close_start : {s : State} {x : Refusal} → s ≡ None → x ≡ of_file Malformed → Err x ≡ close_of s
close_start e i = ap Err i ∙ sym (ap close_of e)

-- THE WHOLE FILE: overlong, or read line by line
pub overlong : (bs : List ℕ) (p m : List ℤ) {x : Refusal} → 1048576 < length bs → x ≡ of_file Overlong → Answered bs p m (Err x) p m
unfolding reading
overlong bs p m h i = subst (λ x. Answered bs p m (Err x) p m) (sym i) record {
  answers = λ l o. subst (λ b. Answers (cond b (read_formula (limits l) bs) (refused_at 1 0 none)) p m (Err (of_file Overlong)) p m) (sym (lt-leb (length bs) 1048576 h))
      (record { answer = (refl, refl); prefix = kept_self 0 p; matrix = kept_self 0 m });
}

pub read_whole : (bs : List ℕ) (p m : List ℤ) {a : Answer} {u w : List ℤ} → length bs ≤ 1048576 → Whole bs p m a u w → Answered bs p m a u w
unfolding reading
read_whole bs p m {a} {u} {w} h k = record {
  answers = λ l o. subst (λ b. Answers (cond b (read_formula (limits l) bs) (refused_at 1 0 none)) p m a u w) (sym (le-leb (length bs) 1048576 h)) (k.answers l o);
}
