-- What a mapping line writes into the map and the values table. Assumes nothing.
use Rattle.std.specs.Prelude.{cond, List, [], ◌∷◌, ℕ, ◌+◌, ◌-◌, leb, length, set, ℤ, pos}
use Rattle.lists.specs.Lists.{is_list}
use Rattle.mapped.specs.Numbers.{numbers_at, end_of}

pub record Written : Type 0 where
  pub map : List ℤ
  pub values : List ℤ

abbrev pub written : List ℤ → List ℤ → Written
written t u = record { map = t; values = u }

-- for each copy two places of the map from place k on, its existential and the place of the annotation; of the values, one that names them
unfoldable pub copying : ℕ → List ℕ → List ℕ → ℕ → List ℤ → List ℤ → Written
copying note [] es k t u = written t u
copying note (p ∷ ps) [] k t u = written t u
copying note (p ∷ ps) (e ∷ es) k t u = copying note ps es (k + 2) (set (set t k (pos e)) (k + 1) (pos note)) (set u (p - 1) (pos k))

-- the refusal that the end of the storing is: 2 if the annotation is no list, else what the end of the copies' list is, or of the
-- existentials' if fewer variables stand in that
abbrev pub paired_end : List ℕ → ℕ → ℕ → ℕ
paired_end bs at from = cond (leb (length (numbers_at bs at)) (length (numbers_at bs from))) (end_of bs at) (end_of bs from)

unfoldable pub stored_end : List ℕ → ℕ → ℕ → ℕ → ℕ
stored_end bs at from notes = cond (is_list bs notes) (paired_end bs at from) 2
