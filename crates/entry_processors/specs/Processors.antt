-- What a processor makes of an entry's value, or of none, with an argument.
use Rattle.std.specs.Prelude.{ℕ, ℤ, pos, ◌+ℤ◌, List, [], ◌++◌, length, nat_le, Option, Some, None, unwrap_or, if◌then◌else◌}
use Rattle.std.specs.Option.{option_map}
use Rattle.std.specs.Int.Signed.{lt_z, le_z}
use Rattle.entry_processors.specs.declared.processor.Outcome.{Outcome}
use Rattle.entry_processors.specs.Places.{item_at}
use Rattle.entry_processors.specs.NumberValues.{number_value, number_in, number_of_argument, fits_64_bits}

-- the rule that a processor follows
pub data ProcessorForm : Type 0 where
  Add : ProcessorForm
  AddUpTo : (limit : ℤ) → ProcessorForm
  Append : ProcessorForm
  SetIfGreater : ProcessorForm
  Clear : ProcessorForm

-- The new value is answered.
abbrev pub set_to : List ℕ → Outcome
set_to value = record { value = Some value; answer = Some value }

-- Nothing changes, and the old value is answered.
abbrev pub kept : Option (List ℕ) → Outcome
kept old = record { value = old; answer = old }

-- Nothing changes, and null is answered.
abbrev pub refused : Option (List ℕ) → Outcome
refused old = record { value = old; answer = None }

-- A value counts as the number in it, and none as 0.
abbrev pub counted : Option (List ℕ) → Option ℤ
counted None = Some (pos 0)
counted (Some value) = number_in value

-- the sum of two numbers; none where one isn't there, or where the sum leaves 64 bits
abbrev pub sum_of : Option ℤ → Option ℤ → Option ℤ
sum_of (Some a) (Some b) = if fits_64_bits (a +ℤ b) then Some (a +ℤ b) else None
sum_of None b = None
sum_of (Some a) None = None

abbrev pub at_most : ℤ → Option ℤ → Option ℤ
at_most limit (Some number) = if le_z number limit then Some number else None
at_most limit None = None

-- The number is set where there is one.
abbrev pub set_number : Option ℤ → Option (List ℕ) → Outcome
set_number (Some number) old = set_to (number_value number)
set_number None old = refused old

-- The first number, an argument's, is set where the second one, that of the value, is less.
abbrev pub set_if_greater : Option ℤ → Option ℤ → List ℕ → Outcome
set_if_greater (Some number) (Some before) old = if lt_z before number then set_to (number_value number) else kept (Some old)
set_if_greater None before old = refused (Some old)
set_if_greater (Some number) None old = refused (Some old)

-- A value of at most 1,000,000 bytes is set.
abbrev pub set_in_limit : List ℕ → Option (List ℕ) → Outcome
set_in_limit value old = if nat_le (length value) 1000000 then set_to value else refused old

abbrev pub outcome : ProcessorForm → Option (List ℕ) → List ℕ → Outcome
outcome Add old argument = set_number (sum_of (counted old) (number_of_argument argument)) old
outcome (AddUpTo limit) old argument = set_number (at_most limit (sum_of (counted old) (number_of_argument argument))) old
outcome Append old argument = set_in_limit (unwrap_or old [] ++ argument) old
outcome SetIfGreater None argument = set_number (number_of_argument argument) None
outcome SetIfGreater (Some value) argument = set_if_greater (number_of_argument argument) (number_in value) value
outcome Clear old argument = record { value = None; answer = old }

-- what the processor of a number makes; none where there is no such number
abbrev pub outcome_at : List ProcessorForm → ℤ → Option (List ℕ) → List ℕ → Option Outcome
outcome_at forms number old argument = option_map (λ form. outcome form old argument) (item_at forms number)
