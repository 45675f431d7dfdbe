-- What holds of every outcome.
use Rattle.std.proofs.Common.{◌≡◌, ℕ, ◌≤◌, Bool, true, false, ◌⊎◌, inl, inr, ℤ, ◌+ℤ◌, ◌≤ℤ◌, List, length, Option, Some, None, if◌then◌else◌, refl, ap, sym, ◌∙◌, subst, arith}
use Rattle.std.proofs.lemmas.Bool.Decides.{nat_tests}
use Rattle.std.proofs.lemmas.Int.{ints}
use Rattle.std.specs.Prelude.{nat_le}
use Rattle.std.specs.Int.Signed.{lt_z, le_z}
use Rattle.entry_processors.specs.declared.processor.Outcome.{Outcome}
use Rattle.entry_processors.specs.NumberValues.{number_value, number_in, number_of_argument, fits_64_bits}
use Rattle.entry_processors.specs.OutcomeFacts.{IsWithin, StaysWithin, KeepsToItsLimit}
use Rattle.entry_processors.specs.Processors.{ProcessorForm, Add, AddUpTo, Append, SetIfGreater, Clear, counted, sum_of, at_most, set_number, set_if_greater, set_in_limit, set_to, refused, kept}
use Rattle.entry_processors.proofs.NumberValues.{is_read_as_spelled}

-- both parts are within
abbrev IsOutcomeWithin : ℕ → Outcome → Type 0
IsOutcomeWithin most made = IsWithin most made.value × IsWithin most made.answer

refused_within : (most : ℕ) (old : Option (List ℕ)) → IsWithin most old → IsOutcomeWithin most (refused old)
refused_within most old h = (h, tt)

number_within : (most : ℕ) (number : Option ℤ) (old : Option (List ℕ)) → 1000000 ≤ most → IsWithin most old → IsOutcomeWithin most (set_number number old)
number_within most (Some number) old big h = (omega arith, omega arith)
number_within most None old big h = (h, tt)

greater_within : (most : ℕ) (number before : Option ℤ) (old : List ℕ) → 1000000 ≤ most → IsWithin most (Some old) → IsOutcomeWithin most (set_if_greater number before old)
greater_within most (Some number) (Some before) old big h = go (lt_z before number)
  where
    go : (less : Bool) → IsOutcomeWithin most (if less then set_to (number_value number) else kept (Some old))
    go true = (omega arith, omega arith)
    go false = (h, h)
greater_within most None before old big h = (h, tt)
greater_within most (Some number) None old big h = (h, tt)

limit_within : (most : ℕ) (value : List ℕ) (old : Option (List ℕ)) → 1000000 ≤ most → IsWithin most old → IsOutcomeWithin most (set_in_limit value old)
limit_within most value old big h = go (nat_le (length value) 1000000) refl
  where
    go : (fits : Bool) → nat_le (length value) 1000000 ≡ fits → IsOutcomeWithin most (if fits then set_to value else refused old)
    go true e = let small : length value ≤ most = grind (arith, nat_tests) in (small, small)
    go false e = (h, tt)

pub stays_within : (form : ProcessorForm) (most : ℕ) (old : Option (List ℕ)) (argument : List ℕ) → StaysWithin form most old argument
stays_within Add most old argument big h = number_within most _ old big h
stays_within (AddUpTo limit) most old argument big h = number_within most _ old big h
stays_within Append most old argument big h = limit_within most _ old big h
stays_within SetIfGreater most None argument big h = number_within most _ None big h
stays_within SetIfGreater most (Some value) argument big h = greater_within most (number_of_argument argument) (number_in value) value big h
stays_within Clear most old argument big h = (tt, h)

-- a sum that is there fits, and is within the limit
limited : (limit : ℤ) (sum : Option ℤ) (number : ℤ) → at_most limit sum ≡ Some number → (number ≤ℤ limit) × (sum ≡ Some number)
limited limit None number e = cc
limited limit (Some sum) number e = go (le_z sum limit) refl
  where
    go : (within : Bool) → le_z sum limit ≡ within → (number ≤ℤ limit) × (Some sum ≡ Some number)
    go true is = let same : Some sum ≡ Some number = rw is at e in let equal : sum ≡ number = cc in (subst (λ n. n ≤ℤ limit) equal (grind (arith, ints)), same)
    go false is = let none : None ≡ Some number = rw is at e in cc

fitting : (a b : Option ℤ) (number : ℤ) → sum_of a b ≡ Some number → fits_64_bits number ≡ true
fitting None b number e = cc
fitting (Some a) None number e = cc
fitting (Some a) (Some b) number e = go (fits_64_bits (a +ℤ b)) refl
  where
    go : (fits : Bool) → fits_64_bits (a +ℤ b) ≡ fits → fits_64_bits number ≡ true
    go true is = let same : Some (a +ℤ b) ≡ Some number = rw is at e in let equal : a +ℤ b ≡ number = cc in ap fits_64_bits (sym equal) ∙ is
    go false is = let none : None ≡ Some number = rw is at e in cc

one_number : (m n : ℤ) → fits_64_bits m ≡ true → fits_64_bits n ≡ true → number_value m ≡ number_value n → m ≡ n
one_number m n m_fits n_fits e =
    let same : Some m ≡ Some n = sym (is_read_as_spelled m m_fits) ∙ ap number_in e ∙ is_read_as_spelled n n_fits in cc

kept_to : (limit : ℤ) (sum : Option ℤ) (old : Option (List ℕ)) (number : ℤ) → ((n : ℤ) → sum ≡ Some n → fits_64_bits n ≡ true) → fits_64_bits number ≡ true → (made : Option ℤ) → at_most limit sum ≡ made → (set_number made old).value ≡ Some (number_value number) → (number ≤ℤ limit) ⊎ (old ≡ Some (number_value number))
kept_to limit sum old number fits number_fits None is e = inr e
kept_to limit sum old number fits number_fits (Some n) is e =
    let both = limited limit sum n is in
    let values : number_value n ≡ number_value number = cc in
    inl (subst (λ n. n ≤ℤ limit) (one_number n number (fits n both.1) number_fits values) both.0)

pub keeps_to_its_limit : (limit : ℤ) (old : Option (List ℕ)) (argument : List ℕ) (number : ℤ) → KeepsToItsLimit limit old argument number
keeps_to_its_limit limit old argument number fits e =
    let sum = sum_of (counted old) (number_of_argument argument) in
    kept_to limit sum old number (fitting (counted old) (number_of_argument argument)) fits (at_most limit sum) refl e
