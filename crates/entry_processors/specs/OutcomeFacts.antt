-- What holds of number values, of numbered lists and of every outcome.
use Rattle.std.specs.Prelude.{◌≡◌, ◌⊎◌, ◌↔◌, ℕ, ◌<◌, ◌≤◌, true, ℤ, pos, ◌≤ℤ◌, List, length, All, Option, Some, None, IfSome, IsSome}
use Rattle.entry_processors.specs.NumberValues.{number_value, number_in, fits_64_bits}
use Rattle.entry_processors.specs.Places.{item_at}
use Rattle.entry_processors.specs.Processors.{ProcessorForm, AddUpTo, outcome}

-- A number value has the number that it was made of.
abbrev pub IsReadAsSpelled : ℤ → Type 0
IsReadAsSpelled number = fits_64_bits number ≡ true → number_in (number_value number) ≡ Some number

-- Bytes that have a number are its number value.
abbrev pub IsSpelledOneWay : List ℕ → ℤ → Type 0
IsSpelledOneWay bytes number = All (λ byte. byte < 256) bytes → number_in bytes ≡ Some number → bytes ≡ number_value number

-- The numbers of a list's items go from 1 to its length.
abbrev pub IsNumberedFromOne : {T : Type 0} → List T → ℤ → Type 0
IsNumberedFromOne items number = IsSome (item_at items number) ↔ ((pos 1 ≤ℤ number) × (number ≤ℤ pos (length items)))

-- Where null is answered the value is as it was.
abbrev pub NullKeepsTheValue : ProcessorForm → Option (List ℕ) → List ℕ → Type 0
NullKeepsTheValue form old argument = (outcome form old argument).answer ≡ None → (outcome form old argument).value ≡ old

-- A number that is left is within the limit, or was there before.
abbrev pub KeepsToItsLimit : ℤ → Option (List ℕ) → List ℕ → ℤ → Type 0
KeepsToItsLimit limit old argument number =
    fits_64_bits number ≡ true → (outcome (AddUpTo limit) old argument).value ≡ Some (number_value number) → (number ≤ℤ limit) ⊎ (old ≡ Some (number_value number))

abbrev pub IsWithin : ℕ → Option (List ℕ) → Type 0
IsWithin most value = IfSome value (λ bytes. length bytes ≤ most)

-- What is left and what is answered have no more bytes than the value had, or 1,000,000.
abbrev pub StaysWithin : ProcessorForm → ℕ → Option (List ℕ) → List ℕ → Type 0
StaysWithin form most old argument =
    1000000 ≤ most → IsWithin most old → IsWithin most (outcome form old argument).value × IsWithin most (outcome form old argument).answer
