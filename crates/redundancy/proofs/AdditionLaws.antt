-- Laws of candidates, of the walk over them, and of the whole addition. Assumes nothing.
use mathlib.Core.Path.{◌≡◌, refl, sym, ◌∙◌, ap, ap₂, subst}
use mathlib.Core.Bool.{Bool, true, false, ◌||◌}
use mathlib.Core.List.{List, [], ◌∷◌, ◌++◌, map, append-nil}
use Prim.Native.Nat.{ℕ, ◌+◌, ◌≤◌, ◌<◌}
use native.Mathlib.Omega.{arith}
use lib.IntN.{ℤ}
use lib.ListN.{get_or}
use borrow.Author.Count.{below_more}
use Rattle.std.specs.List.{list_all as all, filter as keep}
use Rattle.rules.specs.Basics.{is_in}
use Rattle.rules.specs.Literals.{Lits, negate, holds}
use Rattle.rules.specs.Codes.{lit_of, flip}
use Rattle.rules.specs.Propagation.{rup, less, rat}
use Rattle.rules.proofs.Kit.{clear, by_yes, all_in, in_all_lem, keep_in, in_keep}
use Rattle.rules.proofs.CodesLaw.{lit_flip}
use Rattle.std.specs.Prelude.{Some, None}
use Rattle.std.proofs.lemmas.Option.{none-some, same_Some}
use denote.Enum.Bare.{sameb}
use Rattle.rules.specs.contracts.Outcome.{the_type}
use Rattle.rules.specs.declared.Outcome.{Outcome}
use Rattle.rules.specs.declared.Outcome.TheVariants as outcome
use Rattle.trail.specs.declared.Trail.{Trail}
use Rattle.clauses.specs.Standing.{stands, clause_at, standing, literals}
use Rattle.trail.specs.Trail.{truth, Trailed, Ready, Undone}
use Rattle.propagation.specs.Answers.{Good, Denies, Holds, Moved, Clash, Visited, Held, HeldIn}
use Rattle.redundancy.specs.Additions.{rup_of, rat_on, rat_of, first_of, accepts, less_code, Both, Refuted, Follows, Tried, Decided, DecidedIn}
use Rattle.trail.proofs.TrailLaws.{ready_back}
use Rattle.clauses.proofs.StandingLaws.{standing_in_lem, standing_out}
use Rattle.propagation.proofs.AnswerLaws.{visited_clash, visited_moved}
use Rattle.propagation.proofs.HeldLaws.{held_moved, held_kept}
use Rattle.redundancy.proofs.DenyLaws.{denies_part, refuted_clash, refuted_good}
use Rattle.clauses.proofs.MemberLaws.{in_map, map_in, holds_lit}
use Rattle.redundancy.proofs.BridgeLaws.{map_append, less_lits, rup_true, rup_false}

-- A CANDIDATE d, on top of the trail of the failed RUP
module _ (S : List (List ℕ)) (c : List ℕ) where
  follows_moved : {f₀ t₀ : List ℕ} {n₀ : ℕ} {f t : List ℕ} {n : ℕ} → Held S f₀ t₀ n₀ → Moved (Both S c) f₀ t₀ n₀ f t n → Follows S c t n
  unfolding Follows
  follows_moved h m = λ Q g d. m.sound Q (g, d) (h.based Q g)

  pub follows_kept : {t : List ℕ} {n : ℕ} {f' t' : List ℕ} {n' : ℕ} → Tried t n f' t' n' → Follows S c t n → Follows S c t' n'
  unfolding Follows Holds
  follows_kept {t} {n} {f'} {t'} {n'} w h = λ Q g d k lt.
      let less : k < n = omega (arith, w.same) in ap (λ (x : ℕ). Q (flip x)) (w.kept k less) ∙ h Q g d k less

  module _ (d f : List ℕ) {t : List ℕ} {n : ℕ} {f' t' : List ℕ} {k : ℕ} {b : Trail}
      (undo : Trailed f' t' k → n ≤ k → Undone f' t' n b.falses × (b.literals ≡ t') × (b.length ≡ n)) where
    cut : Moved (Both S (c ++ d)) f t n f' t' k → Tried t n b.falses b.literals b.length
    cut m = let u = undo m.ready.trailed m.up in
        record { ready = ready_back m.ready u; same = u.2; kept = λ j h. ap (λ (x : List ℕ). get_or x j 0) u.1 ∙ m.kept j h }

    -- the trail is cut back, and the answer is whether there was a conflict
    pub tried : (r : Outcome) → Refuted S (c ++ d) f t n f' t' k r → Follows S c t n
        → Tried t n b.falses b.literals b.length × (sameb the_type r outcome.Conflict ≡ rup_of S (c ++ d))
    unfolding Follows
    tried outcome.Conflict v h =
        let w = refuted_clash _ refl v in
        (cut w.0, sym (rup_true S (c ++ d) (λ Q g e. w.1 Q (g, e) (h Q g (denies_part Q c d e)))))
    tried outcome.Stable v h = let w = refuted_good _ refl v in (cut w.0, sym (rup_false S (c ++ d) (truth f') w.1 w.2))

tried_trans : {t₀ : List ℕ} {n₀ : ℕ} {f t : List ℕ} {n : ℕ} {f' t' : List ℕ} {n' : ℕ} → Tried t₀ n₀ f t n → Tried t n f' t' n' → Tried t₀ n₀ f' t' n'
tried_trans a b = record { ready = b.ready; same = b.same ∙ a.same; kept = λ k h. b.kept k (omega (arith, a.same)) ∙ a.kept k h }

pub tried_self : (f t : List ℕ) (n : ℕ) → Ready f t n → Tried t n f t n
tried_self f t n r = record { ready = r; same = refl; kept = λ k h. refl }

-- THE RULE over codes: clause j is no candidate, or passes
module _ (t ms : List ℤ) (count l : ℕ) (c : List ℕ) where
  abbrev joined_with : List ℕ → List ℕ
  joined_with d = c ++ less_code (flip l) d

  abbrev pub Passes : ℕ → Type 0
  Passes j = stands t ms j ≡ true → is_in (clause_at t ms j) (flip l) ≡ true → rup_of (standing t ms count) (joined_with (clause_at t ms j)) ≡ true

  abbrev test : Lits → Bool
  test d = holds d (negate (lit_of l))

  abbrev passing : Lits → Bool
  passing d = rup (literals (standing t ms count)) (map lit_of c ++ less (negate (lit_of l)) d)

  test_lits : (d : List ℕ) → test (map lit_of d) ≡ is_in d (flip l)
  test_lits d = ap (holds (map lit_of d)) (sym (lit_flip l)) ∙ holds_lit d (flip l)

  passing_lits : (d : List ℕ) → passing (map lit_of d) ≡ rup_of (standing t ms count) (joined_with d)
  unfolding rup_of
  passing_lits d =
      ap (rup (literals (standing t ms count)))
      (sym (map_append lit_of c (less_code (flip l) d)
      ∙ ap (λ (z : Lits). map lit_of c ++ z) (less_lits (flip l) d ∙ ap (λ x. less x (map lit_of d)) (lit_flip l))))

  pub rat_true : ((j : ℕ) → j < count → Passes j) → true ≡ rat_on (standing t ms count) c l
  unfolding rat_on
  rat_true h = sym (in_all_lem passing (keep test (literals (standing t ms count))) (λ d i.
      let k = in_keep test d (literals (standing t ms count)) i in
      let s = map_in (map lit_of) d (standing t ms count) k.0 in
      let o = standing_out t ms count s.0 s.1 in
      let e : d ≡ map lit_of (clause_at t ms o.0) = s.2 ∙ ap (map lit_of) o.3 in
      ap passing e ∙ passing_lits (clause_at t ms o.0)
      ∙ h o.0 o.1 o.2 (sym (test_lits (clause_at t ms o.0)) ∙ sym (ap test e) ∙ k.1)))

  pub rat_false : (j : ℕ) → j < count → stands t ms j ≡ true → is_in (clause_at t ms j) (flip l) ≡ true
      → rup_of (standing t ms count) (joined_with (clause_at t ms j)) ≡ false → false ≡ rat_on (standing t ms count) c l
  unfolding rat_on
  rat_false j lt on held fails = sym (by_yes (all passing (keep test (literals (standing t ms count)))) (λ h. clear
      (all_in passing h (keep_in test (in_map (map lit_of) (standing_in_lem t ms count j lt on)) (test_lits (clause_at t ms j) ∙ held)))
      (passing_lits (clause_at t ms j) ∙ fails)))

-- THE WALK over the candidates, up to clause k
pub record Walking (t ms : List ℤ) (count l : ℕ) (c t₀ : List ℕ) (n₀ : ℕ) (f tr : List ℕ) (n k : ℕ) : Type 0 where
  pub tried : Tried t₀ n₀ f tr n
  pub passed : (j : ℕ) → j < k → Passes t ms count l c j

pub walking_start : (t ms : List ℤ) (count l : ℕ) (c f tr : List ℕ) (n : ℕ) → Ready f tr n → Walking t ms count l c tr n f tr n 0
walking_start t ms count l c f tr n r = record { tried = tried_self f tr n r; passed = λ j h. absurd (omega arith) }

module _ (t ms : List ℤ) (count l : ℕ) (c t₀ : List ℕ) (n₀ : ℕ) (f tr : List ℕ) (n k : ℕ) (w : Walking t ms count l c t₀ n₀ f tr n k) where
  pub walking_end : count ≤ k → Tried t₀ n₀ f tr n × (true ≡ rat_on (standing t ms count) c l)
  walking_end h = (w.tried, rat_true t ms count l c (λ j lt. w.passed j (omega arith)))

  module _ (lt : k < count) where
    pub walking_off : stands t ms k ≡ false → Walking t ms count l c t₀ n₀ f tr n (k + 1)
    walking_off z = record { tried = w.tried; passed = below_more (Passes t ms count l c) k w.passed (λ on. absurd (clear on z)) }

    module _ (on : stands t ms k ≡ true) (d : List ℕ) (skip : ℕ) (ed : d ≡ clause_at t ms k) (es : skip ≡ flip l) (h : Bool) (eh : h ≡ is_in d skip) where
      held : is_in (clause_at t ms k) (flip l) ≡ h
      held = sym (eh ∙ ap₂ (λ (a : List ℕ) (x : ℕ). is_in a x) ed es)

      pub walking_out : h ≡ false → Walking t ms count l c t₀ n₀ f tr n (k + 1)
      walking_out z = record {
        tried = w.tried;
        passed = below_more (Passes t ms count l c) k w.passed (λ o y. absurd (clear y (held ∙ z)));
      }

      module _ (yes : h ≡ true) (f' t' : List ℕ) (n' : ℕ) (r : Bool)
          (v : Tried tr n f' t' n' × (r ≡ rup_of (standing t ms count) (c ++ less_code skip d))) where
        says : rup_of (standing t ms count) (c ++ less_code (flip l) (clause_at t ms k)) ≡ r
        says = sym (v.1 ∙ ap₂ (λ (x : ℕ) (a : List ℕ). rup_of (standing t ms count) (c ++ less_code x a)) es ed)

        after : Tried t₀ n₀ f' t' n'
        after = tried_trans w.tried v.0

        pub walking_yes : r ≡ true → Walking t ms count l c t₀ n₀ f' t' n' (k + 1)
        walking_yes z = record { tried = after; passed = below_more (Passes t ms count l c) k w.passed (λ o y. says ∙ z) }

        pub walking_no : r ≡ false → Tried t₀ n₀ f' t' n' × (false ≡ rat_on (standing t ms count) c l)
        walking_no z = (after, rat_false t ms count l c k lt on (held ∙ yes) (says ∙ z))

-- the first written literal
pub rat_none : (S : List (List ℕ)) (c : List ℕ) → None ≡ first_of c → false ≡ rat_of S c
unfolding rat_of rat
rat_none S [] e = refl
rat_none S (l ∷ c) e = absurd (none-some l e)

pub rat_first : (S : List (List ℕ)) (c : List ℕ) (l : ℕ) → Some l ≡ first_of c → rat_on S c l ≡ rat_of S c
rat_first S [] l e = absurd (none-some l (sym e))
rat_first S (m ∷ c) l e = subst (λ x. rat_on S (m ∷ c) x ≡ rat_of S (m ∷ c)) (sym (same_Some l m e)) (unfold rat_on rat_of rat in refl)

-- THE WHOLE LINE: how refuting its clause ended, from a comparison
pub told_stable : (r : Outcome) {b : Bool} → b ≡ sameb the_type r outcome.Stable → b ≡ true → r ≡ outcome.Stable
told_stable outcome.Conflict e y = absurd (clear y e)
told_stable outcome.Stable e y = refl

pub told_conflict : (r : Outcome) {b : Bool} → b ≡ sameb the_type r outcome.Stable → b ≡ false → r ≡ outcome.Conflict
told_conflict outcome.Conflict e n = refl
told_conflict outcome.Stable e n = absurd (clear e n)

-- cut back, what is held stays
held_back : {S : List (List ℕ)} {f₀ t₀ : List ℕ} {n₀ : ℕ} {f t : List ℕ} {k : ℕ} {b : Trail} → Held S f₀ t₀ n₀ → Ready f t k
    → ((j : ℕ) → j < n₀ → get_or t j 0 ≡ get_or t₀ j 0) → Undone f t n₀ b.falses × (b.literals ≡ t) × (b.length ≡ n₀) → HeldIn S b
held_back {S} {f₀} {t₀} {n₀} {f} {t} {k} {b} h r e u = subst (λ (x : ℕ). Held S b.falses b.literals x) (sym u.2)
    (held_kept h (subst (λ (x : ℕ). Ready b.falses b.literals x) u.2 (ready_back r u)) (λ j lt. ap (λ (x : List ℕ). get_or x j 0) u.1 ∙ e j lt))

module _ (S : List (List ℕ)) (c : List ℕ) where
  accepts_rup : rup_of S c ≡ true → accepts S c ≡ true
  unfolding accepts rup_of
  accepts_rup e = ap (λ b. b || rat (literals S) (map lit_of c)) e

  accepts_rat : rup_of S c ≡ false → accepts S c ≡ rat_of S c
  unfolding accepts rup_of rat_of
  accepts_rat e = ap (λ b. b || rat (literals S) (map lit_of c)) e

  module _ {f₀ t₀ : List ℕ} {n₀ : ℕ} (h : Held S f₀ t₀ n₀) {f t : List ℕ} where
    -- a conflict of the standing clauses alone
    decided_closed : {b : ℕ} (q : ℕ) → Moved (Good S) f₀ t₀ n₀ f t b × Clash (Good S) t₀ n₀ → Decided S c f t b (Some q)
    unfolding Decided
    decided_closed q v = (held_moved h v.0, accepts_rup (rup_true S c (λ Q g d. v.1 Q g (h.based Q g))))

    decided_rup : {k : ℕ} (q : ℕ) {b : Trail} → Undone f t n₀ b.falses × (b.literals ≡ t) × (b.length ≡ n₀)
        → Moved (Both S c) f₀ t₀ n₀ f t k × Clash (Both S c) t₀ n₀ → DecidedIn S c b (Some q)
    unfolding Decided
    decided_rup q u v =
        (held_back h v.0.ready v.0.kept u, accepts_rup (rup_true S c (λ Q g d. v.1 Q (g, d) (h.based Q g))))

    module _ {k : ℕ} (v : Moved (Both S c) f₀ t₀ n₀ f t k × Good S (truth f) × Denies (truth f) c) (f' t' : List ℕ) (n' : ℕ) (ok : Bool)
        (w : Tried t k f' t' n' × (ok ≡ rat_of S c)) where
      answer : accepts S c ≡ ok
      answer = accepts_rat (rup_false S c (truth f) v.1 v.2) ∙ sym w.1

      decided_rat : (q : ℕ) {b : Trail} → Undone f' t' n₀ b.falses × (b.literals ≡ t') × (b.length ≡ n₀) → ok ≡ true → DecidedIn S c b (Some q)
      unfolding Decided
      decided_rat q u e =
          (held_back h w.0.ready (λ j lt. w.0.kept j (omega (arith, v.0.up)) ∙ v.0.kept j lt) u, answer ∙ e)

      decided_no : ok ≡ false → Decided S c f' t' n' None
      unfolding Decided
      decided_no e = answer ∙ e

-- THE ANSWERS, in the code's order: what stood is followed (v), the clause is denied (p), its candidates are tried (ok)
module _ (S : List (List ℕ)) (c : List ℕ) {f₀ t₀ : List ℕ} {n₀ : ℕ} (h : Held S f₀ t₀ n₀) (f₁ t₁ : List ℕ) (b : ℕ) {v : Outcome} where
  pub added_closed : (q : ℕ) → v ≡ outcome.Conflict → Visited S f₀ t₀ n₀ f₁ t₁ b v → Decided S c f₁ t₁ b (Some q)
  added_closed q e m = decided_closed S c h q (visited_clash e m)

  module _ (e : v ≡ outcome.Stable) (m : Visited S f₀ t₀ n₀ f₁ t₁ b v) (f₂ t₂ : List ℕ) (k : ℕ) (p : Outcome)
      (r : Refuted S (c ++ []) f₁ t₁ b f₂ t₂ k p) where
    followed : Held S f₁ t₁ b
    followed = held_moved h (visited_moved e m)

    -- the clause alone is the clause joined with nothing
    denied : Refuted S c f₁ t₁ b f₂ t₂ k p
    denied = subst (λ (x : List ℕ). Refuted S x f₁ t₁ b f₂ t₂ k p) (append-nil c) r

    pub added_rup : (q : ℕ) {a : Trail} → p ≡ outcome.Conflict → Undone f₂ t₂ b a.falses × (a.literals ≡ t₂) × (a.length ≡ b) → DecidedIn S c a (Some q)
    added_rup q z u = decided_rup S c followed q u (refuted_clash c z denied)

    -- a conflict leaves a trail to cut back
    pub added_moved : p ≡ outcome.Conflict → Moved (Both S c) f₁ t₁ b f₂ t₂ k
    added_moved z = (refuted_clash c z denied).0

    module _ (z : p ≡ outcome.Stable) where
      pub rat_asked : Ready f₂ t₂ k × Follows S c t₂ k × (b ≤ k)
      rat_asked = let w = refuted_good c z denied in (w.0.ready, follows_moved S c followed w.0, w.0.up)

      module _ {f₃ t₃ : List ℕ} {n₃ : ℕ} {ok : Bool} (w : Tried t₂ k f₃ t₃ n₃ × (ok ≡ rat_of S c)) where
        pub added_rat : (q : ℕ) {a : Trail} → Undone f₃ t₃ b a.falses × (a.literals ≡ t₃) × (a.length ≡ b) → ok ≡ true → DecidedIn S c a (Some q)
        added_rat q u y = decided_rat S c followed (refuted_good c z denied) f₃ t₃ n₃ ok w q u y

        pub added_no : ok ≡ false → Decided S c f₃ t₃ n₃ None
        added_no y = decided_no S c followed (refuted_good c z denied) f₃ t₃ n₃ ok w y
