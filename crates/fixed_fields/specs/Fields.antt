-- The fixed fields of a payload: numbers and UUIDs, each at its place. A number has its low byte first.
use Rattle.std.specs.Prelude.{◌≡◌, ℕ, zero, ◌+◌, ◌*◌, ◌/◌, ◌%◌, ◌^◌, ℤ, List, ◌∷◌, ◌++◌, length, take, drop, replicate, slice_get, nat_le, if◌then◌else◌, Option, Some, None, option_map}
use Rattle.std.specs.Int.{w32, w64, to_le_bytes, from_le_bytes, cast_signed, cast_unsigned}

-- the bytes of the field of that size at a place; none where the payload ends before the field does
abbrev pub field_at : ℕ → List ℕ → ℕ → Option (List ℕ)
field_at size payload at = if nat_le (at + size) (length payload) then Some (take size (drop at payload)) else None

abbrev pub byte_at : List ℕ → ℕ → Option ℕ
byte_at payload at = slice_get payload at

-- numbers with a sign, in two's complement
abbrev pub int32_of : List ℕ → ℤ
int32_of bytes = cast_signed w32 (from_le_bytes w32 bytes)

abbrev pub int32_at : List ℕ → ℕ → Option ℤ
int32_at payload at = option_map int32_of (field_at 4 payload at)

abbrev pub int64_of : List ℕ → ℤ
int64_of bytes = cast_signed w64 (from_le_bytes w64 bytes)

abbrev pub int64_at : List ℕ → ℕ → Option ℤ
int64_at payload at = option_map int64_of (field_at 8 payload at)

-- the number of 128 bits whose high half comes first
abbrev pub joined_halves : List ℕ → ℕ
joined_halves halves = from_le_bytes w64 (take 8 halves) * 2 ^ 64 + from_le_bytes w64 (drop 8 halves)

-- A UUID is a byte and two halves. Where the byte is 0 the halves are the UUID; any other byte says that there is none.
abbrev pub uuid_of : List ℕ → Option ℕ
uuid_of (zero ∷ halves) = Some (joined_halves halves)
uuid_of bytes = None

-- none where the field isn't wholly there; `Some None` where it is, and says that there is no UUID
abbrev pub uuid_at : List ℕ → ℕ → Option (Option ℕ)
uuid_at payload at = option_map uuid_of (field_at 17 payload at)

-- The spelling of each field.

abbrev pub int32_bytes : ℤ → List ℕ
int32_bytes n = to_le_bytes w32 (cast_unsigned w32 n)

abbrev pub int64_bytes : ℤ → List ℕ
int64_bytes n = to_le_bytes w64 (cast_unsigned w64 n)

-- where there is no UUID, zeros stand for the halves
abbrev pub uuid_bytes : Option ℕ → List ℕ
uuid_bytes None = 1 ∷ replicate 16 0
uuid_bytes (Some n) = (0 ∷ to_le_bytes w64 (n / 2 ^ 64)) ++ to_le_bytes w64 (n % 2 ^ 64)

-- A value was appended: whatever comes behind it, reading at the place where it begins gives it back.
abbrev pub ReadsBack : {X : Type 0} → (List ℕ → ℕ → Option X) → List ℕ → List ℕ → X → Type 0
ReadsBack read old new value = (behind : List ℕ) → read (new ++ behind) (length old) ≡ Some value
