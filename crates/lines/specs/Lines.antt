-- Lines, tokens and numbers. Assumes nothing.
use Rattle.std.specs.Prelude.{Bool, true, false, ◌&&◌, ◌||◌, not, cond, List, [], ◌∷◌, map, ℕ, zero, suc, ◌+◌, ◌*◌, ◌-◌, eqb, get_or}
use Rattle.std.proofs.Math.Option.{Option, none, some}
use Rattle.std.specs.List.{list_all as all, filter as keep}
use Rattle.lines.specs.Lists.{is_empty}
use Rattle.lines.specs.Bytes.{is_line_end, is_blank, is_digit, is_minus}

-- one byte more in the first part
abbrev pub longer : ℕ → List (List ℕ) → List (List ℕ)
longer b [] = (b ∷ []) ∷ []
longer b (part ∷ parts) = (b ∷ part) ∷ parts

-- the parts of a list of bytes between the bytes that pass the test: one more than there are such bytes
abbrev pub split : (ℕ → Bool) → List ℕ → List (List ℕ)
split p [] = [] ∷ []
split p (b ∷ bs) = elim (p b) [ true ↦ [] ∷ split p bs | false ↦ longer b (split p bs) ]

-- "A line ends at byte 10 or at the end of the file."
abbrev pub lines_of : List ℕ → List (List ℕ)
lines_of bs = split is_line_end bs

-- "A line's number is the count of bytes 10 before it, plus 1": the bytes of the line with this number; none if there is no such line
abbrev pub line_at : ℕ → List ℕ → List ℕ
line_at n bs = elim n [ zero ↦ [] | suc i ↦ get_or (lines_of bs) i [] ]

-- "Other lines are tokens parted by blanks": the words between the blanks
abbrev pub words_of : List ℕ → List (List ℕ)
words_of bs = keep (λ w. not (is_empty w)) (split is_blank bs)

-- "A number is `0`, or a digit 1 to 9 and further digits": `07` is none
abbrev pub is_number : List ℕ → Bool
is_number [] = false
is_number (d ∷ ds) = is_digit d && all is_digit ds && (not (eqb d 48) || is_empty ds)

-- "The files write numbers in base ten": n is the value of the digits before
abbrev pub value : ℕ → List ℕ → ℕ
value n [] = n
value n (d ∷ ds) = value (n * 10 + (d - 48)) ds

-- a number; a number other than 0 with a minus before it; any other word
pub data Token : Type 0 where
  number minus : ℕ → Token
  word : List ℕ → Token

-- "with a minus before it only in a literal. `-0`, `+3` and `07` are malformed."
abbrev pub signed : List ℕ → Token
signed [] = word []
signed (b ∷ bs) = cond (is_minus b && is_number bs && not (eqb (value 0 bs) 0)) (minus (value 0 bs)) (word (b ∷ bs))

abbrev pub token_of : List ℕ → Token
token_of w = cond (is_number w) (number (value 0 w)) (signed w)

-- THE READER OF A LINE. "A line of blanks only, or whose first non-blank byte is `c`, is skipped": none; else its tokens
abbrev pub tokens_of : List (List ℕ) → Option (List Token)
tokens_of [] = none
tokens_of (w ∷ ws) = cond (eqb (get_or w 0 0) 99) none (some (map token_of (w ∷ ws)))

abbrev pub read_line : List ℕ → Option (List Token)
read_line bs = tokens_of (words_of bs)

-- THE END OF A LINE: what may stand after all that the line's form asks for, which is nothing
abbrev pub nothing_more : List Token → Bool
nothing_more ts = is_empty ts
