-- A kind of certificate of which empty lines alone are accepted. Assumes nothing.
use Rattle.std.specs.Prelude.{List, [], ◌∷◌, ℕ}
use Rattle.std.proofs.Math.Option.{some}
use Rattle.rules.specs.Step.{Step, next, refuse}
use Rattle.rules.specs.CertificateLines.{State, start}
use Rattle.reading.specs.declared.Counts.{Counts}
use Rattle.reading.specs.Ends.{Counted}
use Rattle.reading.specs.Lines.{Rules, Code}

-- an empty line changes nothing; any other is malformed
abbrev pub judged : State → List ℕ → Step State
judged s [] = next s
judged s (b ∷ bs) = refuse 2 s

-- at the end no clause stands
abbrev pub refusing_rules : Rules State
refusing_rules = record { part = λ s. s; judge = λ l f s bs. judged s bs; at_end = λ s. some 14; start = start }

-- the counts are all that is carried on
abbrev pub refusing_code : Code State Counts ℕ
refusing_code = record { Shown = λ p t w f s. Counted p s; counts = λ p. p; weight = λ p. 0 }
