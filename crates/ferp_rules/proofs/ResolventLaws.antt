-- The resolvent as existence over all copies; and it is true where its parents are.
use mathlib.Core.Path.{◌≡◌, ap, ◌∙◌}
use mathlib.Core.Logic.{◌↔◌}
use mathlib.Core.Bool.{true, false, not, ◌&&◌, ◌||◌}
use mathlib.Core.List.Memᴰ
use mathlib.Core.List.{◌++◌}
use Prim.Native.Nat.{ℕ}
use Rattle.std.specs.List.{list_any as any}
use Rattle.rules.specs.Literals.{Lit, Lits, pos, neg, var, vars, same, holds, within, same_set}
use Rattle.rules.specs.Propagation.{less}
use Rattle.rules.proofs.Kit.{clear, decide, and_l, and_r, or_cases, not_of_f, by_yes, same_eq, either, In, all_in, in_any, Some, any_in, keep_in, holds_in}
use Rattle.rules.proofs.Valuation.{Valuation, value, satisfied}
use Rattle.ferp_rules.specs.Resolvent.{resolvent_on, resolvent}

module _ (c d e : Lits) (v : ℕ) where
  -- the three conditions
  pub on_first : resolvent_on c d e v ≡ true → holds d (pos v) ≡ true
  on_first h = and_l (holds d (pos v)) (holds e (neg v)) (and_l (holds d (pos v) && holds e (neg v)) (same_set c (less (pos v) d ++ less (neg v) e)) h)

  pub on_second : resolvent_on c d e v ≡ true → holds e (neg v) ≡ true
  on_second h = and_r (holds d (pos v)) (holds e (neg v)) (and_l (holds d (pos v) && holds e (neg v)) (same_set c (less (pos v) d ++ less (neg v) e)) h)

  pub on_same : resolvent_on c d e v ≡ true → same_set c (less (pos v) d ++ less (neg v) e) ≡ true
  on_same h = and_r (holds d (pos v) && holds e (neg v)) (same_set c (less (pos v) d ++ less (neg v) e)) h

-- "on some copy, whichever parent holds it positive": EXISTENCE OVER ALL COPIES, not only those of d
abbrev pub OnSome : Lits → Lits → Lits → Type 0
OnSome c d e = (v : ℕ) × ((resolvent_on c d e v || resolvent_on c e d v) ≡ true)

pub resolvent_exists : (c d e : Lits) → (resolvent c d e ≡ true) ↔ OnSome c d e
unfolding resolvent
resolvent_exists c d e = (there, back)
  where
    there : any (λ v. resolvent_on c d e v || resolvent_on c e d v) (vars d) ≡ true → OnSome c d e
    there h = let s = any_in (λ v. resolvent_on c d e v || resolvent_on c e d v) (vars d) h in (s.0, s.2)

    held : (v : ℕ) → (resolvent_on c d e v || resolvent_on c e d v) ≡ true → In v (vars d)
    held v h =
        either
        (λ a. Memᴰ.map var (holds_in d (pos v) (on_first c d e v a)))
        (λ b. Memᴰ.map var (holds_in d (neg v) (on_second c e d v b)))
        (or_cases (resolvent_on c d e v) (resolvent_on c e d v) h)

    back : OnSome c d e → any (λ v. resolvent_on c d e v || resolvent_on c e d v) (vars d) ≡ true
    back s = in_any (λ v. resolvent_on c d e v || resolvent_on c e d v) (held s.0 s.1) s.1

module _ (α : Valuation) where
  -- where l is false, a true clause is true by another literal
  left_over : (l : Lit) (d : Lits) → satisfied α d ≡ true → value α l ≡ false → Some (value α) (less l d)
  left_over l d h n =
      let s = any_in (value α) d h in (
        s.0,
        keep_in (λ m. not (same m l)) s.1
            (not_of_f (by_yes (same s.0 l) λ q. clear s.2 (ap (value α) (same_eq s.0 l q) ∙ n))),
        s.2,
      )

  -- a true literal of the resolvent makes the clause true
  found : (c u : Lits) → within u c ≡ true → Some (value α) u → satisfied α c ≡ true
  found c u w s = in_any (value α) (holds_in c s.0 (all_in (holds c) w s.1)) s.2

  on_true : (c d e : Lits) (v : ℕ) → resolvent_on c d e v ≡ true → satisfied α d ≡ true → satisfied α e ≡ true → satisfied α c ≡ true
  on_true c d e v h hd he = either with_e with_d (decide (α v))
    where
      w : within (less (pos v) d ++ less (neg v) e) c ≡ true
      w = and_r (within c (less (pos v) d ++ less (neg v) e)) (within (less (pos v) d ++ less (neg v) e) c) (on_same c d e v h)

      with_e : α v ≡ true → satisfied α c ≡ true
      with_e t =
          let s = left_over (neg v) e he (ap not t) in
          found c (less (pos v) d ++ less (neg v) e) w (s.0, Memᴰ.append_right (less (pos v) d) s.1, s.2)

      with_d : α v ≡ false → satisfied α c ≡ true
      with_d t =
          let s = left_over (pos v) d hd t in
          found c (less (pos v) d ++ less (neg v) e) w (s.0, Memᴰ.append_left (less (neg v) e) s.1, s.2)

  -- A RESOLVENT IS TRUE WHERE ITS PARENTS ARE
  pub resolvent_true : (c d e : Lits) → resolvent c d e ≡ true → satisfied α d ≡ true → satisfied α e ≡ true → satisfied α c ≡ true
  resolvent_true c d e h hd he =
      let s = (resolvent_exists c d e).0 h in
      either
      (λ a. on_true c d e s.0 a hd he)
      (λ b. on_true c e d s.0 b he hd)
      (or_cases (resolvent_on c d e s.0) (resolvent_on c e d s.0) s.1)
