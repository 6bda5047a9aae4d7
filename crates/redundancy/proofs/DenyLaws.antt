-- Laws of a clause whose literals are made false. Assumes nothing.
use mathlib.Core.Path.{◌≡◌, refl, sym, ◌∙◌, ap, subst}
use mathlib.Core.Bool.{Bool, true, false, true≢false, not, cond}
use mathlib.Core.List.Memᴰ
use mathlib.Core.List.{List, [], ◌∷◌, ◌++◌, append_assoc, append-nil}
use Prim.Native.Nat.{ℕ, ◌<◌}
use lib.Dec.{eqb}
use Rattle.std.specs.Prelude.{Option, Some, None}
use Rattle.std.specs.Option.{option_eq}
use Rattle.rules.specs.Codes.{flip}
use Rattle.rules.proofs.Kit.{either}
use Rattle.rules.specs.declared.Outcome.{Outcome}
use Rattle.rules.specs.declared.Outcome.TheVariants.{Conflict, Stable}
use Rattle.trail.specs.Trail.{off, truth, Assumed, Ready}
use Rattle.propagation.specs.Answers.{Good, Denies, Moved, Clash, Settled}
use Rattle.redundancy.specs.Additions.{less_code, less_of, Denied, Both, Refuted}
use Rattle.trail.proofs.TrailLaws.{truth_flip, assumed_off}
use Rattle.propagation.proofs.MoveLaws.{in_last, holds_under, moved_refl, moved_trans, moved_weaken, moved_assume}
use Rattle.propagation.proofs.AnswerLaws.{settled_clash, settled_good}

-- A CLAUSE LESS A LITERAL, where it is read
less_step : (x l : ℕ) (c : List ℕ) (b : Bool) → not (eqb l x) ≡ b
    → less_code x (l ∷ c) ≡ cond b (l ∷ less_code x c) (less_code x c)
unfolding less_code
less_step x l c b e = ap (λ t. cond t (l ∷ less_code x c) (less_code x c)) e

pub less_end : (o : Option ℕ) (rest : List ℕ) → rest ≡ [] → less_of o rest ≡ []
unfolding less_code
less_end None rest e = e
less_end (Some x) rest e = ap (less_code x) e

module _ (l : ℕ) {b : Bool} where
  pub less_lit : (o : Option ℕ) (rest rest' : List ℕ) → rest ≡ l ∷ rest' → b ≡ not (option_eq eqb (Some l) o) → b ≡ true
      → less_of o rest ≡ l ∷ less_of o rest'
  less_lit None rest rest' e q y = e
  less_lit (Some x) rest rest' e q y = ap (less_code x) e ∙ less_step x l rest' true (sym q ∙ y)

  pub less_skip : (o : Option ℕ) (rest rest' : List ℕ) → rest ≡ l ∷ rest' → b ≡ not (option_eq eqb (Some l) o) → b ≡ false
      → less_of o rest ≡ less_of o rest'
  less_skip None rest rest' e q n = absurd (true≢false (sym q ∙ n))
  less_skip (Some x) rest rest' e q n = ap (less_code x) e ∙ less_step x l rest' false (sym q ∙ n)

-- DENYING: c is what was denied and the rest
pub denies_part : (Q : ℕ → Bool) (c d : List ℕ) → Denies Q (c ++ d) → Denies Q c
unfolding Denies
denies_part Q c d h = λ m x. h m (Memᴰ.append_left d x)

pub denies_right : (Q : ℕ → Bool) (c d : List ℕ) → Denies Q (c ++ d) → Denies Q d
unfolding Denies
denies_right Q c d h = λ m x. h m (Memᴰ.append_right c x)

denies_join : (Q : ℕ → Bool) (c d : List ℕ) → Denies Q c → Denies Q d → Denies Q (c ++ d)
unfolding Denies
denies_join Q c d g h = λ m x. either (g m) (h m) (Memᴰ.append_cases c x)

denies_last : (Q : ℕ → Bool) (c : List ℕ) (l : ℕ) → Denies Q (c ++ l ∷ []) → Q (flip l) ≡ true
unfolding Denies
denies_last Q c l h = h l (in_last l c)

-- what is false stays false
pub denies_more : (f f' c : List ℕ) → ((l : ℕ) → off f l ≡ true → off f' l ≡ true) → Denies (truth f) c → Denies (truth f') c
unfolding Denies
denies_more f f' c up h = λ m x. up (flip (flip m)) (h m x)

pub record Denying (c rest f₀ t₀ : List ℕ) (n₀ : ℕ) (f t : List ℕ) (n : ℕ) : Type 0 where
  pub done : List ℕ
  pub split : c ≡ done ++ rest
  pub moved : Moved (λ Q. Denies Q done) f₀ t₀ n₀ f t n
  pub denies : Denies (truth f) done

pub denying_start : (c f t : List ℕ) (n : ℕ) → Ready f t n → Denying c c f t n f t n
unfolding Denies
denying_start c f t n r =
    record { done = []; split = refl; moved = moved_refl (λ Q. Denies Q []) f t n r; denies = λ m x. absurd (Memᴰ.not-nil x) }

-- from the whole clause on
pub denying_at : (c f t : List ℕ) (n : ℕ) {rest : List ℕ} → rest ≡ c → Ready f t n → Denying c rest f t n f t n
denying_at c f t n e r = subst (λ (x : List ℕ). Denying c x f t n f t n) (sym e) (denying_start c f t n r)

module _ (c rest f₀ t₀ : List ℕ) (n₀ : ℕ) (f t : List ℕ) (n : ℕ) (k : Denying c rest f₀ t₀ n₀ f t n) where
  pub denying_done : rest ≡ [] → Denied c f₀ t₀ n₀ f t n Stable
  unfolding Denied
  denying_done e =
      let q : k.done ≡ c = sym (k.split ∙ ap (λ (x : List ℕ). k.done ++ x) e ∙ append-nil k.done) in
      (subst (λ (x : List ℕ). Moved (λ Q. Denies Q x) f₀ t₀ n₀ f t n) q k.moved, subst (Denies (truth f)) q k.denies)

  pub denying_skip : (rest' : List ℕ) → rest ≡ rest' → Denying c rest' f₀ t₀ n₀ f t n
  denying_skip rest' e = record { done = k.done; split = k.split ∙ ap (λ (x : List ℕ). k.done ++ x) e; moved = k.moved; denies = k.denies }

  module _ (l : ℕ) (rest' : List ℕ) (e : rest ≡ l ∷ rest') where
    step : c ≡ (k.done ++ l ∷ []) ++ rest'
    step = k.split ∙ ap (λ (x : List ℕ). k.done ++ x) e ∙ sym (append_assoc k.done (l ∷ []) rest')

    with_last : (Q : ℕ → Bool) → Denies Q c → Denies Q (k.done ++ l ∷ [])
    with_last Q d = denies_part Q (k.done ++ l ∷ []) rest' (subst (Denies Q) step d)

    before : (Q : ℕ → Bool) → Denies Q c → Denies Q k.done
    before Q d = denies_part Q k.done (l ∷ []) (with_last Q d)

    pub denying_stop : off f (flip l) ≡ true → Denied c f₀ t₀ n₀ f t n Conflict
    unfolding Denied
    denying_stop o = (
      moved_weaken (λ Q. Denies Q k.done) (λ Q. Denies Q c) before f₀ t₀ n₀ f t n k.moved,
      λ Q co d hold. co l (holds_under f t n k.moved.ready Q (k.moved.sound Q (before Q d) hold) l o)
          (denies_last Q k.done l (with_last Q d)),
    )

    pub denying_lit : off f (flip l) ≡ false → l < 65536 → (f' t' : List ℕ) (n' : ℕ) → Assumed f t n l f' t' n' → Denying c rest' f₀ t₀ n₀ f' t' n'
    denying_lit free small f' t' n' a = record { done = k.done ++ l ∷ []; split = step; moved = both; denies = every }
      where
        later : Moved (λ Q. Denies Q (k.done ++ l ∷ [])) f t n f' t' n'
        later =
            moved_assume (λ Q. Denies Q (k.done ++ l ∷ [])) f t n l k.moved.ready small free
            (λ Q d hold. denies_last Q k.done l d) f' t' n' a

        both : Moved (λ Q. Denies Q (k.done ++ l ∷ [])) f₀ t₀ n₀ f' t' n'
        both =
            moved_trans (λ Q. Denies Q (k.done ++ l ∷ [])) f₀ t₀ n₀ f t n f' t' n'
            (moved_weaken (λ Q. Denies Q k.done) (λ Q. Denies Q (k.done ++ l ∷ [])) (λ Q d. denies_part Q k.done (l ∷ []) d) f₀ t₀ n₀ f t n k.moved)
            later

        last : Denies (truth f') (l ∷ [])
        last = unfold Denies in
            (λ m x. truth_flip f' m ∙ ap (off f') (Memᴰ.eq_of_singleton x)
            ∙ assumed_off f t n l k.moved.ready.trailed small f' t' n' a)

        every : Denies (truth f') (k.done ++ l ∷ [])
        every = denies_join (truth f') k.done (l ∷ []) (denies_more f f' k.done later.more k.denies) last

-- ONE CLAUSE AFTER ANOTHER
module _ (c d f₀ t₀ : List ℕ) (n₀ : ℕ) (f t : List ℕ) where
  abbrev Of : List ℕ → (ℕ → Bool) → Type 0
  Of e Q = Denies Q e

  pub joined_stop : (k : ℕ) {r : Outcome} → r ≡ Conflict → Denied c f₀ t₀ n₀ f t k r → Denied (c ++ d) f₀ t₀ n₀ f t k Conflict
  joined_stop k {r} e v = go (subst (Denied c f₀ t₀ n₀ f t k) e v)
    where
      go : Denied c f₀ t₀ n₀ f t k Conflict → Denied (c ++ d) f₀ t₀ n₀ f t k Conflict
      go w = unfold Denied in
          (moved_weaken (Of c) (Of (c ++ d)) (λ Q e. denies_part Q c d e) f₀ t₀ n₀ f t k w.0, λ Q co e h. w.1 Q co (denies_part Q c d e) h)

  module _ (n : ℕ) (v : Moved (λ Q. Denies Q c) f₀ t₀ n₀ f t n × Denies (truth f) c) (f' t' : List ℕ) (k : ℕ) where
    over : Moved (λ Q. Denies Q d) f t n f' t' k → Moved (λ Q. Denies Q (c ++ d)) f₀ t₀ n₀ f' t' k
    over m =
        moved_trans (Of (c ++ d)) f₀ t₀ n₀ f t n f' t' k
        (moved_weaken (Of c) (Of (c ++ d)) (λ Q e. denies_part Q c d e) f₀ t₀ n₀ f t n v.0)
        (moved_weaken (Of d) (Of (c ++ d)) (λ Q e. denies_right Q c d e) f t n f' t' k m)

    pub joined : (r : Outcome) → Denied d f t n f' t' k r → Denied (c ++ d) f₀ t₀ n₀ f' t' k r
    unfolding Denied
    joined Conflict w =
        (over w.0, λ Q co e h. w.1 Q co (denies_right Q c d e) (v.0.sound Q (denies_part Q c d e) h))
    joined Stable w =
        (over w.0, denies_join (truth f') c d (denies_more f f' c w.0.more v.1) w.1)

pub denied_go : (c : List ℕ) {f₀ t₀ : List ℕ} {n₀ : ℕ} {f t : List ℕ} {r : Outcome} {k : ℕ} → r ≡ Stable → Denied c f₀ t₀ n₀ f t k r
    → Moved (λ Q. Denies Q c) f₀ t₀ n₀ f t k × Denies (truth f) c
denied_go c {f₀} {t₀} {n₀} {f} {t} {r} {k} e v = unfold Denied in subst (Denied c f₀ t₀ n₀ f t k) e v

-- the same clause and answer by other names
pub denied_as : (c c' f₀ t₀ : List ℕ) (n₀ : ℕ) (f t : List ℕ) (n : ℕ) (r r' : Outcome) → c ≡ c' → r ≡ r'
    → Denied c f₀ t₀ n₀ f t n r → Denied c' f₀ t₀ n₀ f t n r'
denied_as c c' f₀ t₀ n₀ f t n r r' e q v =
    subst (λ (x : List ℕ). Denied x f₀ t₀ n₀ f t n r') e (subst (Denied c f₀ t₀ n₀ f t n) q v)

-- AND THEN PROPAGATION
module _ (S : List (List ℕ)) (c f₀ t₀ : List ℕ) (n₀ : ℕ) where
  pub refuted_deny : (f t : List ℕ) (k : ℕ) {r : Outcome} → r ≡ Conflict → Denied c f₀ t₀ n₀ f t k r → Refuted S c f₀ t₀ n₀ f t k Conflict
  refuted_deny f t k {r} e v = go (subst (Denied c f₀ t₀ n₀ f t k) e v)
    where
      go : Denied c f₀ t₀ n₀ f t k Conflict → Refuted S c f₀ t₀ n₀ f t k Conflict
      go d = unfold Denied Refuted in
          (moved_weaken (λ Q. Denies Q c) (Both S c) (λ Q h. h.1) f₀ t₀ n₀ f t k d.0, λ Q b h. d.1 Q b.0.consistent b.1 h)

  module _ (f t : List ℕ) (n : ℕ) (d : Moved (λ Q. Denies Q c) f₀ t₀ n₀ f t n × Denies (truth f) c) (f' t' : List ℕ) (k : ℕ) where
    both : Moved (Good S) f t n f' t' k → Moved (Both S c) f₀ t₀ n₀ f' t' k
    both m =
        moved_trans (Both S c) f₀ t₀ n₀ f t n f' t' k (moved_weaken (λ Q. Denies Q c) (Both S c) (λ Q h. h.1) f₀ t₀ n₀ f t n d.0)
        (moved_weaken (Good S) (Both S c) (λ Q h. h.0) f t n f' t' k m)

    pub refuted_settle : (r : Outcome) → Settled S f t n f' t' k r → Refuted S c f₀ t₀ n₀ f' t' k r
    unfolding Refuted
    refuted_settle Conflict v =
        let s = settled_clash refl v in (both s.0, λ Q b h. s.1 Q b.0 (d.0.sound Q b.1 h))
    refuted_settle Stable v =
        let s = settled_good refl v in (both s.0, s.1, denies_more f f' c s.0.more d.1)

module _ {S : List (List ℕ)} (c : List ℕ) {f₀ t₀ : List ℕ} {n₀ : ℕ} {f t : List ℕ} {k : ℕ} where
  pub refuted_clash : {r : Outcome} → r ≡ Conflict → Refuted S c f₀ t₀ n₀ f t k r
      → Moved (Both S c) f₀ t₀ n₀ f t k × Clash (Both S c) t₀ n₀
  refuted_clash e v = unfold Refuted in subst (Refuted S c f₀ t₀ n₀ f t k) e v

  pub refuted_good : {r : Outcome} → r ≡ Stable → Refuted S c f₀ t₀ n₀ f t k r
      → Moved (Both S c) f₀ t₀ n₀ f t k × Good S (truth f) × Denies (truth f) c
  refuted_good e v = unfold Refuted in subst (Refuted S c f₀ t₀ n₀ f t k) e v
