-- The parts of a message: numbers, marks, and bytes behind their length; how each is spelled, and how it is read at a place.
-- Reading gives the part and the place behind it, or the first fault. Where the bytes end inside a part, the fault is where that part begins.
use Rattle.std.specs.Prelude.{◌≡◌, ℕ, zero, suc, ◌+◌, ◌^◌, ◌<◌, Bool, true, false, List, [], ◌∷◌, ◌++◌, length, take, Result, Ok, Err, nat_lt, ◌==◌, All, if◌then◌else◌}
use Rattle.std.specs.Int.{Width, w32, byte_len, to_le_bytes, from_le_bytes}
use Rattle.wire_parts.specs.declared.refusal.WireRefused.{WireRefused}
use Rattle.wire_parts.specs.declared.refusal.WireRefused.TheVariants.{Short, Tag, Rest, Memory}
use Rattle.wire_parts.specs.Places.{Place, skipped}

-- Spelling. A byte and a number have their ranges, and a number has its low byte first.

abbrev pub IsByte : ℕ → Type 0
IsByte n = n < 2 ^ 8

abbrev pub AreBytes : List ℕ → Type 0
AreBytes bytes = All IsByte bytes

abbrev pub IsNumber : ℕ → Type 0
IsNumber n = n < 2 ^ 32

abbrev pub number : ℕ → List ℕ
number n = to_le_bytes w32 n

abbrev pub sized : List ℕ → List ℕ
sized bytes = number (length bytes) ++ bytes

abbrev pub mark : Bool → List ℕ
mark false = 0 ∷ []
mark true = 1 ∷ []

-- Reading.

infixl 10 ◌>>=◌
abbrev pub ◌>>=◌ : {A B : Type 0} → Result A WireRefused → (A → Result B WireRefused) → Result B WireRefused
(Ok x) >>= f = f x
(Err e) >>= f = Err e

abbrev pub first_of : ℕ → List ℕ → Result (ℕ × Place) WireRefused
first_of at [] = Err (Short at)
first_of at (byte ∷ rest) = Ok (byte, record { at = at + 1; rest = rest })

abbrev pub byte_at : Place → Result (ℕ × Place) WireRefused
byte_at p = first_of p.at p.rest

abbrev pub number_at : Width → Place → Result (ℕ × Place) WireRefused
number_at w p = if nat_lt (length p.rest) (byte_len w) then Err (Short p.at) else Ok (from_le_bytes w (take (byte_len w) p.rest), skipped (byte_len w) p)

-- the length and that many bytes, which are one part: where they end early, it is short from its length on
unfoldable pub sized_at : Place → Result (List ℕ × Place) WireRefused
sized_at p = do
  n ← number_at w32 p
  if nat_lt (length n.1.rest) n.0 then Err (Short p.at) else Ok (take n.0 n.1.rest, skipped n.0 n.1)

-- a mark at a place is 0 or 1
abbrev pub marked_by : ℕ → ℕ → Result Bool WireRefused
marked_by at zero = Ok false
marked_by at (suc zero) = Ok true
marked_by at (suc (suc byte)) = Err (Tag at)

unfoldable pub mark_at : Place → Result (Bool × Place) WireRefused
mark_at p = do
  byte ← byte_at p
  is ← marked_by p.at byte.0
  Ok (is, byte.1)

-- nothing may follow
abbrev pub end_at : Place → Result Place WireRefused
end_at p = if length p.rest == 0 then Ok p else Err (Rest p.at)

-- What the code's reader gives is what reading gives, unless memory runs out.

abbrev pub Fails : {X : Type 0} → WireRefused → Result X WireRefused → Type 0
Fails Memory read = Unit {0}
Fails e read = read ≡ Err e

abbrev pub Gives : {X Y : Type 0} → (X → Y) → Result X WireRefused → Result Y WireRefused → Type 0
Gives view (Ok x) read = read ≡ Ok (view x)
Gives view (Err e) read = Fails e read

abbrev pub IsUnlessMemory : {X : Type 0} → Result X WireRefused → Result X WireRefused → Type 0
IsUnlessMemory = Gives (λ x. x)
