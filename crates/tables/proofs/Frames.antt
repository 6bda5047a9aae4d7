-- Laws of what the six tables keep. Assumes nothing.
use mathlib.Core.Path.{◌≡◌}
use Prim.Native.Nat.{ℕ, ◌≤◌}
use native.Mathlib.Omega.{arith}
use lib.ListN.{length, replicate, length-replicate}
use lib.IntN.{pos}
use Rattle.rules.specs.Needs.{Places, places}
use Rattle.cells.proofs.Laws.{kept_self, kept_chain, kept_later}
use Rattle.tables.specs.Tables.{Tables, lengths_of, zeros, KeptAll}

-- lengths stay
pub same_lengths : {n : Places} {t u : Tables} → KeptAll n t u → lengths_of u ≡ lengths_of t
same_lengths k = λ i. places (k.prefix.long i) (k.matrix.long i) (k.map.long i) (k.proof.long i) (k.marks.long i) (k.values.long i)

pub all_self : (n : Places) (t : Tables) → KeptAll n t t
all_self n t = record {
  prefix = kept_self _ _;
  matrix = kept_self _ _;
  map = kept_self _ _;
  proof = kept_self _ _;
  marks = kept_self _ _;
  values = kept_self _ _;
}

-- one need is at most another, in each table
pub record Below (m n : Places) : Type 0 where
  pub prefix : m.prefix ≤ n.prefix
  pub matrix : m.matrix ≤ n.matrix
  pub map : m.map ≤ n.map
  pub proof : m.proof ≤ n.proof
  pub marks : m.marks ≤ n.marks
  pub values : m.values ≤ n.values

pub below_self : (n : Places) → Below n n
below_self n = record { prefix = omega arith; matrix = omega arith; map = omega arith; proof = omega arith; marks = omega arith; values = omega arith }

-- what is kept beyond a need, and then beyond a larger one, is kept beyond the larger one
pub all_then : {m n : Places} {t u v : Tables} → Below m n → KeptAll m t u → KeptAll n u v → KeptAll n t v
all_then b j k = record {
  prefix = kept_chain (kept_later j.prefix b.prefix) k.prefix;
  matrix = kept_chain (kept_later j.matrix b.matrix) k.matrix;
  map = kept_chain (kept_later j.map b.map) k.map;
  proof = kept_chain (kept_later j.proof b.proof) k.proof;
  marks = kept_chain (kept_later j.marks b.marks) k.marks;
  values = kept_chain (kept_later j.values b.values) k.values;
}

pub zeros_lengths : (n : Places) → lengths_of (zeros n) ≡ n
zeros_lengths n = λ i. places (z n.prefix i) (z n.matrix i) (z n.map i) (z n.proof i) (z n.marks i) (z n.values i)
  where
    z : (k : ℕ) → length (replicate k (pos 0)) ≡ k
    z k = length-replicate k (pos 0)
