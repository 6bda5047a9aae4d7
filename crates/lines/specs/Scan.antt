-- Runs of bytes, tokens and numbers from a place on, as the calls of this crate read them. Assumes nothing.
use Rattle.std.specs.Prelude.{Option, None, Some, Bool, ◌&&◌, ◌||◌, not, cond, List, [], ◌∷◌, map, ℕ, suc, ◌+◌, ◌*◌, min, eqb, leb, ltb, length, take, drop, get_or}
use Rattle.lines.specs.Bytes.{is_line_end, is_blank, same_bytes}
use Rattle.lines.specs.Lines.{is_number, value, words_of, Token, number, minus, word, token_of, nothing_more}
use Rattle.lines.specs.declared.Run.{Run}
use Rattle.lines.specs.declared.Run.TheVariants.{Line, Blanks, Word}
use Rattle.lines.specs.declared.Head.{Head}

-- No number is read above this one. It is above every limit, so a number above a limit stays above it.
abbrev pub cap : ℕ
cap = 100000000

-- the bytes of a run: all but byte 10, blanks, all but blanks
abbrev pub passes : Run → ℕ → Bool
passes Line b = not (is_line_end b)
passes Blanks b = is_blank b
passes Word b = not (is_blank b)

-- how many bytes in front pass the test
unfoldable pub run : (ℕ → Bool) → List ℕ → ℕ
run p [] = 0
run p (b ∷ bs) = cond (p b) (suc (run p bs)) 0

-- the number that the bytes are, at most the cap
unfoldable pub digits_in : List ℕ → Option ℕ
digits_in ds = cond (is_number ds) (Some (min cap (value 0 ds))) None

-- The code of a number or a literal: 2v for v, 2v + 1 for -v, v at most the cap. The zero that ends a list has code 0.
abbrev pub shown : Token → Option ℕ
shown (number n) = Some (2 * min cap n)
shown (minus n) = Some (2 * min cap n + 1)
shown (word w) = None

unfoldable pub number_in : List ℕ → Option ℕ
number_in w = shown (token_of w)

-- the next word from a place on: where it starts and ends, and its bytes; no bytes if there is none
unfoldable pub start_at : List ℕ → ℕ → ℕ
start_at bs at = at + run is_blank (drop at bs)

unfoldable pub end_at : List ℕ → ℕ → ℕ
end_at bs at = start_at bs at + run (passes Word) (drop (start_at bs at) bs)

unfoldable pub word_at : List ℕ → ℕ → List ℕ
word_at bs at = take (run (passes Word) (drop (start_at bs at) bs)) (drop (start_at bs at) bs)

-- the tokens from a place on
unfoldable pub tokens_from : List ℕ → ℕ → List Token
tokens_from bs at = map token_of (words_of (drop at bs))

unfoldable pub ended_at : List ℕ → ℕ → Bool
ended_at bs at = nothing_more (tokens_from bs at)

-- the same with the place after it
abbrev pub literal_of : Token → ℕ → Option (ℕ × ℕ)
literal_of (number n) e = Some (2 * min cap n, e)
literal_of (minus n) e = Some (2 * min cap n + 1, e)
literal_of (word w) e = None

unfoldable pub literal_at : List ℕ → ℕ → Option (ℕ × ℕ)
literal_at bs at = literal_of (token_of (word_at bs at)) (end_at bs at)

unfoldable pub word_is : List ℕ → ℕ → List ℕ → Option ℕ
word_is bs at w = cond (ltb (start_at bs at) (length bs) && same_bytes (word_at bs at) w) (Some (end_at bs at)) None

-- how a line begins: it is skipped; with a word of one byte, and the place after it; with another word
unfoldable pub head_of : List ℕ → Head
head_of bs =
    cond (leb (length bs) (start_at bs 0) || eqb (get_or bs (start_at bs 0) 0) 99) Head.Skipped
    (cond (eqb (end_at bs 0) (start_at bs 0 + 1)) (Head.Letter (get_or bs (start_at bs 0) 0) (end_at bs 0)) Head.Other)
