-- The two forms of a 64-bit number: as a value, and as the argument of a processor.
use Rattle.std.specs.Prelude.{ℕ, ◌^◌, Bool, ◌&&◌, ◌==◌, nat_eq, nat_lt, ℤ, pos, negsuc, List, [], ◌∷◌, ◌++◌, length, take, drop, Option, Some, None, if◌then◌else◌}
use Rattle.std.specs.Int.{w64, from_be_bytes, from_le_bytes, to_be_bytes, cast_signed, cast_unsigned}
use Rattle.std.specs.Cmp.Lexicographic.{pointwise}

-- what a number value begins with: the partition hash 0, and the type fffffff8
abbrev pub number_header : List ℕ
number_header = 0 ∷ 0 ∷ 0 ∷ 0 ∷ 255 ∷ 255 ∷ 255 ∷ 248 ∷ []

-- Eight bytes follow the header, high byte first, in two's complement.
abbrev pub number_value : ℤ → List ℕ
number_value number = number_header ++ to_be_bytes w64 (cast_unsigned w64 number)

abbrev pub is_number_value : List ℕ → Bool
is_number_value bytes = pointwise nat_eq (take 8 bytes) number_header && (length bytes == 16)

-- the number in a value; none where it isn't a number value
abbrev pub number_in : List ℕ → Option ℤ
number_in bytes = if is_number_value bytes then Some (cast_signed w64 (from_be_bytes w64 (drop 8 bytes))) else None

-- the number in an argument, which has eight bytes, low byte first, in two's complement; none at another length
abbrev pub number_of_argument : List ℕ → Option ℤ
number_of_argument bytes = if length bytes == 8 then Some (cast_signed w64 (from_le_bytes w64 bytes)) else None

-- Two's complement in 64 bits goes from -2^63 to 2^63 - 1; `negsuc n` is -1 - n.
abbrev pub fits_64_bits : ℤ → Bool
fits_64_bits (pos n) = nat_lt n (2 ^ 63)
fits_64_bits (negsuc n) = nat_lt n (2 ^ 63)
