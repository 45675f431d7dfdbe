-- What a refusal says of the bytes, whatever way they are read.
use Rattle.std.specs.Prelude.{◌≡◌, ℕ, ◌+◌, ◌<◌, ◌≤◌, List, ◌++◌, length, take}
use Rattle.member_wire.specs.declared.message.MemberMessage.{MemberMessage}
use Rattle.wire_parts.specs.declared.refusal.WireRefused.{WireRefused}
use Rattle.wire_parts.specs.declared.refusal.WireRefused.TheVariants.{Short, Tag, Order, Rest, Memory}
use Rattle.member_wire.specs.Spelling.{spelling, IsSpelled}

-- the bytes are a message
abbrev pub IsMessage : List ℕ → Type 0
IsMessage bytes = (m : MemberMessage) × IsSpelled m × (bytes ≡ spelling m)

-- some message begins with the bytes
abbrev pub BeginsMessage : List ℕ → Type 0
BeginsMessage front = (rest : List ℕ) × IsMessage (front ++ rest)

-- The bytes before the place begin a message, and with the one at the place they begin none.
pub record FailsAt (bytes : List ℕ) (at : ℕ) : Type 0 where
  pub within : at < length bytes
  pub before : BeginsMessage (take at bytes)
  pub there : BeginsMessage (take (at + 1) bytes) → ⊥

-- The bytes begin a message and are none: its rest is missing.
pub record EndsEarly (bytes : List ℕ) (at : ℕ) : Type 0 where
  pub within : at ≤ length bytes
  pub begins : BeginsMessage bytes
  pub ends : IsMessage bytes → ⊥

-- The bytes before the place are a message, and more follow.
pub record GoesOnAt (bytes : List ℕ) (at : ℕ) : Type 0 where
  pub within : at < length bytes
  pub before : IsMessage (take at bytes)

abbrev pub IsFirstFault : List ℕ → WireRefused → Type 0
IsFirstFault bytes (Short at) = EndsEarly bytes at
IsFirstFault bytes (Tag at) = FailsAt bytes at
IsFirstFault bytes (Order at) = FailsAt bytes at
IsFirstFault bytes (Rest at) = GoesOnAt bytes at
IsFirstFault bytes Memory = Unit {0}
