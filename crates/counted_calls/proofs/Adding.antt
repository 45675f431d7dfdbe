-- What a call of a processor that adds leaves of an entry.
use Rattle.std.proofs.Common.{◌≡◌, ℕ, ◌+◌, ◌^◌, ◌<◌, ℤ, pos, nat_lt, true, List, [], ◌∷◌, Option, Some, None, if◌then◌else◌, refl, sym, ap, ◌∙◌, subst, arith}
use Rattle.std.proofs.lemmas.Bool.Decides.{nat_tests}
use Rattle.grid_base.specs.declared.calls.MapCall.TheVariants.{ExecuteOnKey}
use Rattle.grid_base.specs.declared.names.Owner.{Owner}
use Rattle.entry_processors.specs.NumberValues.{number_value, number_of_argument}
use Rattle.entry_processors.specs.OutcomeFacts.{IsReadAsSpelled}
use Rattle.entry_processors.specs.Places.{item_at}
use Rattle.entry_processors.specs.Processors.{ProcessorForm, Add, counted, outcome, set_number, set_to, sum_of}
use Rattle.map_records.specs.declared.records.MapRecord.{MapRecord}
use Rattle.map_records.specs.MapEntries.{touched, with_outcome}
use Rattle.map_records.specs.MapTable.{after}

-- an entry that has a value or none, and neither an end nor a lock
abbrev pub plain : Option (List ℕ) → MapRecord
plain value = record { value = value; expires = None; idle = None; lock = None }

-- the number 1 as an argument
abbrev pub IsOne : List ℕ → Type 0
IsOne argument = number_of_argument argument ≡ Some (pos 1)

less_true : (m n : ℕ) → m < n → nat_lt m n ≡ true
less_true m n less = grind (arith, nat_tests)

module _ (argument : List ℕ) (is_one : IsOne argument) (n : ℕ) (fits : n + 1 < 2 ^ 63) where
  abbrev more : List ℕ
  more = number_value (pos (n + 1))

  outcome_is : (value : Option (List ℕ)) → counted value ≡ Some (pos n) → outcome Add value argument ≡ set_to more
  outcome_is value number =
      ap (λ c. set_number (sum_of c (number_of_argument argument)) value) number
      ∙ (ap (λ c. set_number (sum_of (Some (pos n)) c) value) is_one
      ∙ ap (λ b. set_number (if b then Some (pos (n + 1)) else None) value) (less_true (n + 1) (2 ^ 63) fits))

  left : (value : Option (List ℕ)) → touched (with_outcome (plain value) (Some more)) 0 ≡ plain (Some more)
  left None = refl
  left (Some old) = refl

  after_one : (forms : List ProcessorForm) (name key : List ℕ) (owner : Owner) (value : Option (List ℕ)) → counted value ≡ Some (pos n)
      → after (Add ∷ forms) (plain value) (ExecuteOnKey name key owner (pos 1) argument) 0 ≡ plain (Some more)
  after_one forms name key owner value number = ap (λ o. touched (with_outcome (plain value) o.value) 0) (outcome_is value number) ∙ left value

  -- The entry is left with the number that is one more
  pub one_more : (forms : List ProcessorForm) → item_at forms (pos 1) ≡ Some Add → (name key : List ℕ) (owner : Owner) (value : Option (List ℕ)) → counted value ≡ Some (pos n)
      → after forms (plain value) (ExecuteOnKey name key owner (pos 1) argument) 0 ≡ plain (Some more)
  one_more [] adding name key owner value number = absurd cc
  one_more (form ∷ forms) adding name key owner value number =
      let same : form ≡ Add = cc in
      subst (λ (f : ProcessorForm). after (f ∷ forms) (plain value) (ExecuteOnKey name key owner (pos 1) argument) 0 ≡ plain (Some more)) (sym same) (after_one forms name key owner value number)

  pub counted_more : ((number : ℤ) → IsReadAsSpelled number) → counted (Some more) ≡ Some (pos (n + 1))
  counted_more read = read (pos (n + 1)) (less_true (n + 1) (2 ^ 63) fits)
