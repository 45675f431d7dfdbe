-- The lines of a script and the words of a line, as lists of bytes.
use Rattle.std.specs.Prelude.{ℕ, ◌+◌, ◌-◌, ◌*◌, ◌==◌, ◌&&◌, Bool, false, if◌then◌else◌, List, [], ◌∷◌, Option, Some, None, nat_eq, nat_le, nat_lt, length, slice_index, fold, option_and_then}
use Rattle.std.specs.List.{list_all}
use Rattle.std.specs.Char.{is_ascii_digit}
use Rattle.std.specs.Cmp.Lexicographic.{pointwise}
use Rattle.std.specs.Result.{result_ok}
use Rattle.hex.specs.Hex.{decode_of}

abbrev pub newline : ℕ
newline = 10

abbrev pub space : ℕ
space = 32

abbrev pub are_same : List ℕ → List ℕ → Bool
are_same xs ys = pointwise nat_eq xs ys

abbrev pub onto_first : ℕ → List (List ℕ) → List (List ℕ)
onto_first x [] = (x ∷ []) ∷ []
onto_first x (piece ∷ pieces) = (x ∷ piece) ∷ pieces

-- the pieces round each separator: one more than there are separators
abbrev pub pieces_at : ℕ → List ℕ → List (List ℕ)
pieces_at separator [] = [] ∷ []
pieces_at separator (x ∷ xs) = if x == separator then [] ∷ pieces_at separator xs else onto_first x (pieces_at separator xs)

-- One space stands between two words.
abbrev pub words_of : List ℕ → List (List ℕ)
words_of line = pieces_at space line

-- all but the last, and the last
abbrev pub fronts : List (List ℕ) → List (List ℕ)
fronts [] = []
fronts (piece ∷ []) = []
fronts (piece ∷ next ∷ pieces) = piece ∷ fronts (next ∷ pieces)

abbrev pub last_piece : List (List ℕ) → List ℕ
last_piece [] = []
last_piece (piece ∷ []) = piece
last_piece (piece ∷ next ∷ pieces) = last_piece (next ∷ pieces)

-- the lines that a newline ends, and the bytes after the last newline
abbrev pub whole_lines : List ℕ → List (List ℕ)
whole_lines bytes = fronts (pieces_at newline bytes)

abbrev pub unfinished : List ℕ → List ℕ
unfinished bytes = last_piece (pieces_at newline bytes)

-- A number is decimal digits, without a leading zero.
abbrev pub has_leading_zero : List ℕ → Bool
has_leading_zero digits = nat_lt 1 (length digits) && (slice_index digits 0 == 48)

abbrev pub is_decimal : List ℕ → Bool
is_decimal digits =
    if length digits == 0 then false
    else if has_leading_zero digits then false
    else list_all is_ascii_digit digits

abbrev pub decimal_value : List ℕ → ℕ
decimal_value digits = fold (λ n d. n * 10 + (d - 48)) 0 digits

abbrev pub number_of : List ℕ → Option ℕ
number_of word = if is_decimal word then Some (decimal_value word) else None

-- the number of a word, where it is in a range
abbrev pub number_within : ℕ → ℕ → List ℕ → Option ℕ
number_within least most word = option_and_then (λ n. if nat_le least n && nat_le n most then Some n else None) (number_of word)

-- the bytes that a hexadecimal word spells, in either case; an empty word is none
abbrev pub bytes_of : List ℕ → Option (List ℕ)
bytes_of word = if length word == 0 then None else result_ok (decode_of word)
