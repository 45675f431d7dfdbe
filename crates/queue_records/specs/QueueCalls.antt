-- Calls on one queue, one after the other.
use Rattle.std.specs.Prelude.{◌≡◌, ◌↔◌, ℕ, ◌≤◌, ◌<◌, ◌^◌, List, [], ◌∷◌, ◌++◌, length, take, if◌then◌else◌}
use Rattle.grid_base.specs.declared.calls.Answer.TheVariants.{Number}
use Rattle.grid_base.specs.declared.calls.QueueCall.{QueueCall}
use Rattle.grid_base.specs.declared.calls.QueueCall.TheVariants.{Offer, Poll, Size, Clear}
use Rattle.queue_records.specs.declared.queues.QueueStep.TheVariants.{Same}
use Rattle.queue_records.specs.Queues.{has_room, answer, after, step, stepped}

-- the values that a call puts into a queue
abbrev pub put_in : List (List ℕ) → QueueCall → ℕ → List (List ℕ)
put_in items (Offer name value) capacity = if has_room items capacity then value ∷ [] else []
put_in items _ capacity = []

-- the values that a call takes away: a poll the first, a clear all
abbrev pub taken_away : List (List ℕ) → QueueCall → List (List ℕ)
taken_away items (Poll name) = take 1 items
taken_away items (Clear name) = items
taken_away items _ = []

abbrev pub after_all : List (List ℕ) → List QueueCall → ℕ → List (List ℕ)
after_all items [] capacity = items
after_all items (call ∷ calls) capacity = after_all (after items call capacity) calls capacity

abbrev pub all_put_in : List (List ℕ) → List QueueCall → ℕ → List (List ℕ)
all_put_in items [] capacity = []
all_put_in items (call ∷ calls) capacity = put_in items call capacity ++ all_put_in (after items call capacity) calls capacity

abbrev pub all_taken_away : List (List ℕ) → List QueueCall → ℕ → List (List ℕ)
all_taken_away items [] capacity = []
all_taken_away items (call ∷ calls) capacity = taken_away items call ++ all_taken_away (after items call capacity) calls capacity

-- What is taken away, and then what is left, is what there was at first, and then what was put in, in this order.
abbrev pub FirstInFirstOut : List (List ℕ) → List QueueCall → ℕ → Type 0
FirstInFirstOut items calls capacity =
    all_taken_away items calls capacity ++ after_all items calls capacity ≡ items ++ all_put_in items calls capacity

-- No calls make a queue longer than the capacity.
abbrev pub StaysWithin : List (List ℕ) → List QueueCall → ℕ → Type 0
StaysWithin items calls capacity = length items ≤ capacity → length (after_all items calls capacity) ≤ capacity

-- The step of a call makes the list after it.
abbrev pub LeadsToTheListAfter : List (List ℕ) → QueueCall → ℕ → Type 0
LeadsToTheListAfter items call capacity = stepped items call (step items call capacity) ≡ after items call capacity

-- A call makes no step exactly where it changes nothing.
abbrev pub StepsWhereItChanges : List (List ℕ) → QueueCall → ℕ → Type 0
StepsWhereItChanges items call capacity = (step items call capacity ≡ Same) ↔ (after items call capacity ≡ items)

-- A size is the length, up to the greatest number of 32 bits.
abbrev pub SizeIsTheLength : List (List ℕ) → List ℕ → ℕ → Type 0
SizeIsTheLength items name capacity = length items < 2 ^ 32 → answer items (Size name) capacity ≡ Number (length items)
