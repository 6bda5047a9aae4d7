-- Bytes, their classes, and byte strings. Assumes nothing.
use Rattle.std.specs.Prelude.{◌≡◌, Bool, true, false, ◌&&◌, ◌||◌, cond, List, [], ◌∷◌, ℕ, zero, suc, ◌<◌, eqb, leb, ltb, get_or}
use Prim.Native.Char.{code}
use Prim.Native.String.{String, len, char_at}
use Rattle.lines.specs.declared.Class.{Class}
use Rattle.lines.specs.declared.Class.TheVariants.{Blank, LineEnd, Digit, Minus, Letter, Other}

-- THE CLASS OF A BYTE. "A line ends at byte 10 or at the end of the file. Blanks are space, tab and byte 13."
-- The digits are `0` to `9`, the letters `A` to `Z` and `a` to `z`.
unfoldable pub class_of : ℕ → Class
class_of b =
    cond (eqb b 32 || eqb b 9 || eqb b 13) Blank
    (cond (eqb b 10) LineEnd
    (cond (leb 48 b && leb b 57) Digit
    (cond (eqb b 45) Minus
    (cond ((leb 65 b && leb b 90) || (leb 97 b && leb b 122)) Letter
    Other))))

-- a class by its place in this list
abbrev pub rank : Class → ℕ
rank Blank = 0
rank LineEnd = 1
rank Digit = 2
rank Minus = 3
rank Letter = 4
rank Other = 5

-- "a constant table of 256 classes, with its rule proved once over all entries": entry b is the class of byte b
unfoldable pub Ranked : List Class → Type 0
Ranked t = (b : ℕ) → b < 256 → get_or t b Blank ≡ class_of b

-- whether b is of this class, as the entries from `low` to before `high` tell it
unfoldable pub among_entries : Class → ℕ → ℕ → ℕ → Bool
among_entries k low high b = leb low b && (ltb b high && eqb (rank (class_of b)) (rank k))

abbrev pub is_a : Class → ℕ → Bool
is_a k b = eqb (rank (class_of b)) (rank k)

abbrev pub is_blank : ℕ → Bool
is_blank = is_a Blank

abbrev pub is_line_end : ℕ → Bool
is_line_end = is_a LineEnd

abbrev pub is_digit : ℕ → Bool
is_digit = is_a Digit

abbrev pub is_minus : ℕ → Bool
is_minus = is_a Minus

-- n bytes of the text, from place i on
abbrev pub bytes_from : ℕ → ℕ → String → List ℕ
bytes_from zero i s = []
bytes_from (suc n) i s = code (char_at s i) ∷ bytes_from n (suc i) s

-- the bytes of a text of ASCII characters
abbrev pub bytes : String → List ℕ
bytes s = bytes_from (len s) 0 s

abbrev pub same_bytes : List ℕ → List ℕ → Bool
same_bytes [] [] = true
same_bytes [] (y ∷ ys) = false
same_bytes (x ∷ xs) [] = false
same_bytes (x ∷ xs) (y ∷ ys) = eqb x y && same_bytes xs ys
