-- Rule 8, w giving each variable's word of the prefix table. Assumes nothing.
use Rattle.std.specs.Prelude.{◌≡◌, Bool, true, ◌&&◌, List, [], ◌∷◌, ℕ, leb, ltb, Option, Some, None, Result, Ok, Err}
use Rattle.std.specs.List.{list_all as all}
use Rattle.prefix.specs.Prefix.{is_universal, is_existential, dependency}
use Rattle.rules.specs.Basics.{distinct}
use Rattle.rules.specs.declared.Rule.{Rule}
use Rattle.rules.specs.Rule.{number}
use Rattle.mapped.specs.Numbers.{ruled}

-- no variable twice, and none above 16384
unfoldable pub once : List ℕ → Bool
once us = all (λ u. leb u 16384) us && distinct us

-- u comes after a last variable and is not above 16384; the variables of a list do, each after the one before it
unfoldable pub follows : ℕ → ℕ → Bool
follows last u = ltb last u && leb u 16384

unfoldable pub rising : ℕ → List ℕ → Bool
rising last [] = true
rising last (u ∷ us) = follows last u && rising u us

module _ (w : ℕ → ℕ) where
  -- a universal in the dependency set of every E
  unfoldable pub under : List ℕ → ℕ → Bool
  under es u = is_universal w u && all (λ e. dependency w e u) es

  -- "Each L is a literal of a universal variable left of every E of the line, and no variable comes twice among the L."
  unfoldable pub annotates : List ℕ → List ℕ → Bool
  annotates es us = all (is_existential w) es && (once us && all (under es) us)

  -- a universal in the dependency set of e; any universal where there is no e
  unfoldable pub under_one : Option ℕ → ℕ → Bool
  under_one None u = is_universal w u
  under_one (Some e) u = dependency w e u

  -- WHAT A WALK OVER THE E LEADS TO, `end` being what their list's end is: the one that answers for all; or a refusal
  abbrev pub Walked : List ℕ → ℕ → Result (Option ℕ) Rule → Type 0
  Walked es end (Ok e) = (0 ≡ ruled 8 (all (is_existential w) es) end) × ((u : ℕ) → under_one e u ≡ under es u)
  Walked es end (Err rule) = number rule ≡ ruled 8 (all (is_existential w) es) end
