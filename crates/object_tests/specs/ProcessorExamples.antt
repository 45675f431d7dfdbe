-- What processors make of values, which the definitions of `entry_processors` compute. The values are written out byte by byte.
use Rattle.std.specs.Prelude.{◌≡◌, ℕ, ◌-◌, ◌^◌, pos, negsuc, List, [], ◌∷◌, ◌++◌, length, map, replicate, cond, nat_le, Option, Some, None, refl}
use Rattle.std.proofs.Common.{ap}
use Rattle.entry_processors.specs.declared.processor.Outcome.{Outcome}
use Rattle.entry_processors.specs.Processors.{ProcessorForm, Add, AddUpTo, Append, SetIfGreater, Clear, outcome, outcome_at, set_to, refused}

-- five numbers as values

abbrev number : List ℕ → List ℕ
number digits = 0 ∷ 0 ∷ 0 ∷ 0 ∷ 255 ∷ 255 ∷ 255 ∷ 248 ∷ digits

abbrev five : List ℕ
five = number (0 ∷ 0 ∷ 0 ∷ 0 ∷ 0 ∷ 0 ∷ 0 ∷ 5 ∷ [])

abbrev seven : List ℕ
seven = number (0 ∷ 0 ∷ 0 ∷ 0 ∷ 0 ∷ 0 ∷ 0 ∷ 7 ∷ [])

abbrev thousand : List ℕ
thousand = number (0 ∷ 0 ∷ 0 ∷ 0 ∷ 0 ∷ 0 ∷ 3 ∷ 232 ∷ [])

abbrev minus_two : List ℕ
minus_two = number (255 ∷ 255 ∷ 255 ∷ 255 ∷ 255 ∷ 255 ∷ 255 ∷ 254 ∷ [])

abbrev greatest : List ℕ
greatest = number (127 ∷ 255 ∷ 255 ∷ 255 ∷ 255 ∷ 255 ∷ 255 ∷ 255 ∷ [])

abbrev text : List ℕ
text = 102 ∷ 105 ∷ 118 ∷ 101 ∷ []

-- an argument of eight bytes, the lowest first
abbrev argument : ℕ → ℕ → List ℕ
argument low next = low ∷ next ∷ replicate 6 0

abbrev argument_minus_two : List ℕ
argument_minus_two = 254 ∷ replicate 7 255

abbrev forms : List ProcessorForm
forms = Add ∷ AddUpTo (pos 1000) ∷ Append ∷ SetIfGreater ∷ Clear ∷ []

-- a processor, the value before, the argument, and the value and the answer that it gives
record Case : Type 0 where
  form : ProcessorForm
  old : Option (List ℕ)
  with : List ℕ
  gives : Outcome

abbrev kept : List ℕ → Outcome
kept value = record { value = Some value; answer = None }

abbrev cases : List Case
cases =
    record { form = Add; old = None; with = argument 5 0; gives = set_to five }
    ∷ record { form = Add; old = Some five; with = argument 2 0; gives = set_to seven }
    ∷ record { form = Add; old = Some greatest; with = argument 1 0; gives = kept greatest }
    ∷ record { form = Add; old = Some five; with = 1 ∷ 0 ∷ 0 ∷ 0 ∷ []; gives = kept five }
    ∷ record { form = Add; old = Some text; with = argument 1 0; gives = kept text }
    ∷ record { form = AddUpTo (pos 1000); old = None; with = argument 232 3; gives = set_to thousand }
    ∷ record { form = AddUpTo (pos 1000); old = Some thousand; with = argument 1 0; gives = kept thousand }
    ∷ record { form = Append; old = None; with = []; gives = set_to [] }
    ∷ record { form = Append; old = Some (97 ∷ 98 ∷ []); with = 99 ∷ []; gives = set_to (97 ∷ 98 ∷ 99 ∷ []) }
    ∷ record { form = SetIfGreater; old = None; with = argument_minus_two; gives = set_to minus_two }
    ∷ record { form = SetIfGreater; old = Some minus_two; with = argument 7 0; gives = set_to seven }
    ∷ record { form = SetIfGreater; old = Some seven; with = argument 7 0; gives = set_to seven }
    ∷ record { form = SetIfGreater; old = Some seven; with = argument 5 0; gives = set_to seven }
    ∷ record { form = SetIfGreater; old = Some seven; with = 55 ∷ []; gives = kept seven }
    ∷ record { form = Clear; old = Some five; with = []; gives = record { value = None; answer = Some five } }
    ∷ record { form = Clear; old = None; with = 120 ∷ []; gives = record { value = None; answer = None } }
    ∷ []

processors_follow_their_rules : map (λ (case : Case). outcome case.form case.old case.with) cases ≡ map (λ (case : Case). case.gives) cases
processors_follow_their_rules = refl

only_the_numbers_from_1_to_5_are_known
    : map (λ number. outcome_at forms number None []) (negsuc (2 ^ 31 - 1) ∷ negsuc 0 ∷ pos 0 ∷ pos 6 ∷ []) ≡ None ∷ None ∷ None ∷ None ∷ []
only_the_numbers_from_1_to_5_are_known = refl

the_third_appends : outcome_at forms (pos 3) (Some text) (33 ∷ []) ≡ Some (set_to (102 ∷ 105 ∷ 118 ∷ 101 ∷ 33 ∷ []))
the_third_appends = refl

-- of appending, where the new value has that many bytes
abbrev appended_at : List ℕ → List ℕ → ℕ → Outcome
appended_at old argument n = cond (nat_le n 1000000) (set_to (old ++ argument)) (refused (Some old))

a_value_of_the_most_bytes_is_set : (old argument : List ℕ) → length (old ++ argument) ≡ 1000000 → outcome Append (Some old) argument ≡ set_to (old ++ argument)
a_value_of_the_most_bytes_is_set old argument is = ap (appended_at old argument) is

one_byte_more_is_refused : (old argument : List ℕ) → length (old ++ argument) ≡ 1000001 → outcome Append (Some old) argument ≡ refused (Some old)
one_byte_more_is_refused old argument is = ap (appended_at old argument) is
