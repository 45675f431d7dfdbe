-- Worked examples, which the definitions compute.
use Rattle.std.specs.Prelude.{◌≡◌, ℕ, List, [], ◌∷◌, true, false, Some, None, refl}
use Rattle.grid_base.specs.declared.calls.Answer.TheVariants.{Flag, Number, Maybe}
use Rattle.grid_base.specs.declared.calls.QueueCall.TheVariants.{Offer, Poll, Peek, Size, RemainingCapacity, Clear}
use Rattle.queue_records.specs.declared.queues.QueueStep.TheVariants.{Same, Pop, Clear as ClearAll}
use Rattle.queue_records.specs.Queues.{answer, after, step, length_told}

abbrev name : List ℕ
name = 113 ∷ []

abbrev one : List ℕ
one = 1 ∷ []

abbrev two : List ℕ
two = 2 ∷ []

-- offers

an_offer_goes_to_the_back : after (one ∷ []) (Offer name two) 2 ≡ one ∷ two ∷ []
an_offer_goes_to_the_back = refl

an_offer_below_the_capacity_is_taken : answer (one ∷ []) (Offer name two) 2 ≡ Flag true
an_offer_below_the_capacity_is_taken = refl

a_full_queue_takes_no_offer : answer (one ∷ []) (Offer name two) 1 ≡ Flag false
a_full_queue_takes_no_offer = refl

a_refused_offer_changes_nothing : after (one ∷ []) (Offer name two) 1 ≡ one ∷ []
a_refused_offer_changes_nothing = refl

a_capacity_of_0_refuses_every_offer : answer [] (Offer name one) 0 ≡ Flag false
a_capacity_of_0_refuses_every_offer = refl

a_capacity_of_0_makes_no_step : step [] (Offer name one) 0 ≡ Same
a_capacity_of_0_makes_no_step = refl

-- the front

a_poll_answers_the_front : answer (one ∷ two ∷ []) (Poll name) 2 ≡ Maybe (Some one)
a_poll_answers_the_front = refl

a_poll_takes_the_front_away : after (one ∷ two ∷ []) (Poll name) 2 ≡ two ∷ []
a_poll_takes_the_front_away = refl

a_poll_of_nothing_is_null : answer [] (Poll name) 2 ≡ Maybe None
a_poll_of_nothing_is_null = refl

a_poll_of_nothing_makes_no_step : step [] (Poll name) 2 ≡ Same
a_poll_of_nothing_makes_no_step = refl

the_last_value_goes_by_a_pop : step (one ∷ []) (Poll name) 2 ≡ Pop
the_last_value_goes_by_a_pop = refl

a_peek_leaves_the_front : after (one ∷ []) (Peek name) 2 ≡ one ∷ []
a_peek_leaves_the_front = refl

-- the length

a_size_is_the_length : answer (one ∷ two ∷ []) (Size name) 1 ≡ Number 2
a_size_is_the_length = refl

a_longer_queue_than_its_capacity_has_no_room : answer (one ∷ two ∷ []) (RemainingCapacity name) 1 ≡ Number 0
a_longer_queue_than_its_capacity_has_no_room = refl

the_capacity_less_the_length_remains : answer (one ∷ two ∷ []) (RemainingCapacity name) 10 ≡ Number 8
the_capacity_less_the_length_remains = refl

the_greatest_number_is_told : length_told 4294967295 ≡ Number 4294967295
the_greatest_number_is_told = refl

a_length_past_32_bits_is_told_as_their_greatest_number : length_told 4294967296 ≡ Number 4294967295
a_length_past_32_bits_is_told_as_their_greatest_number = refl

-- clearing

a_clear_empties : after (one ∷ two ∷ []) (Clear name) 2 ≡ []
a_clear_empties = refl

a_clear_is_a_step : step (one ∷ two ∷ []) (Clear name) 2 ≡ ClearAll
a_clear_is_a_step = refl

a_clear_of_nothing_makes_no_step : step [] (Clear name) 2 ≡ Same
a_clear_of_nothing_makes_no_step = refl
