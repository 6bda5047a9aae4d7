-- The rules by name, their numbers, and an answer's number. "Where an answer is an enum, a definition gives this paper's number and values for
-- each of its cases, and the promises use that definition." Assumes nothing.
use Rattle.std.specs.Prelude.{ℕ, Result, Ok, Err}
use Rattle.rules.specs.declared.Rule.{Rule}
use Rattle.rules.specs.declared.Rule.TheVariants.{Overlong, Malformed, OutOfRange, BoundTwice, Unbound, WrongClauseCount, MappedTwice, BadAnnotation, Unmapped, HintCount, NoExpansion, NotImplied, NothingToDelete, NotClosed, TableFull, BadParent, IndexUsed}
use Rattle.rules.specs.declared.Refusal.{Refusal}
use Rattle.rules.specs.declared.Verdict.{Verdict}
use Rattle.rules.specs.declared.Verdict.TheVariants.{Refused}

-- THE TABLE OF NUMBERS, 1 to 15 by document 01 and two of later requests
abbrev pub number : Rule → ℕ
number Overlong = 1  -- overlong
number Malformed = 2  -- malformed
number OutOfRange = 3  -- out of range
number BoundTwice = 4  -- bound twice
number Unbound = 5  -- unbound
number WrongClauseCount = 6  -- wrong clause count
number MappedTwice = 7  -- mapped twice
number BadAnnotation = 8  -- bad annotation
number Unmapped = 9  -- unmapped
number HintCount = 10  -- hint count
number NoExpansion = 11  -- no expansion
number NotImplied = 12  -- not implied
number NothingToDelete = 13  -- nothing to delete
number NotClosed = 14  -- not closed
number TableFull = 15  -- table full
number BadParent = 16  -- bad parent
number IndexUsed = 17  -- index used

-- the number of the rule that an answer says is broken; 0 if none is
abbrev pub broken : {A : Type 0} → Result A Rule → ℕ
broken (Ok a) = 0
broken (Err rule) = number rule

-- the same of an answer that has the line too, and its line
abbrev pub broken_in : {A : Type 0} → Result A Refusal → ℕ
broken_in (Ok a) = 0
broken_in (Err r) = number r.rule

abbrev pub broken_at : {A : Type 0} → Result A Refusal → ℕ
broken_at (Ok a) = 0
broken_at (Err r) = r.line

-- the refusal by a rule that the whole file breaks
abbrev pub of_file : Rule → Refusal
of_file rule = record { rule = rule; line = 0 }

-- the verdict on two files of which this one is refused
abbrev pub refused_with : Refusal → ℕ → Verdict
refused_with r file = Refused (number r.rule) file r.line
