-- Limits and table lengths, one parameter of the rules. Assumes nothing.
use Rattle.std.specs.Prelude.{Bool, true, ℕ, leb}
use Rattle.std.proofs.Math.Option.{Option, none, some}
use Rattle.rules.specs.Needs.{Places, fits}

-- each is none where it is set aside
pub record Limits : Type 0 where
  pub formula_bytes : Option ℕ
  pub certificate_bytes : Option ℕ
  pub highest : Option ℕ
  pub clauses : Option ℕ
  pub copies : Option ℕ
  pub indexes : Option ℕ
  pub lengths : Option Places

abbrev pub allows : Option ℕ → ℕ → Bool
allows none n = true
allows (some most) n = leb n most

abbrev pub has_room : Option Places → Places → Bool
has_room none needs = true
has_room (some lengths) needs = fits lengths needs

-- "V 0 to 4,096. C 0 to 8,192. Variables of the certificate's clauses .. 1 to 16,384"; "an index above 65,536, is refused 3" (#101); with files
-- of at most so many bytes
abbrev pub limits_with : ℕ → ℕ → Places → Limits
limits_with f c lengths = record {
  formula_bytes = some f;
  certificate_bytes = some c;
  highest = some 4096;
  clauses = some 8192;
  copies = some 16384;
  indexes = some 65536;
  lengths = some lengths;
}

-- "Each file at most 1,048,576 bytes"
abbrev pub limits : Places → Limits
limits lengths = limits_with 1048576 1048576 lengths

-- "the program below holds 16,384 bytes of formula and 65,536 of certificate, and prints refusal 1 for a longer one"
abbrev pub program_limits : Places → Limits
program_limits lengths = limits_with 16384 65536 lengths

-- limits and table lengths set aside
abbrev pub set_aside : Limits
set_aside = record { formula_bytes = none; certificate_bytes = none; highest = none; clauses = none; copies = none; indexes = none; lengths = none }
