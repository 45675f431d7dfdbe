-- A queue as one thread sees it: a list of values, the front first.
use Rattle.std.specs.Prelude.{ℕ, ◌-◌, ◌^◌, Bool, nat_lt, min, List, [], ◌∷◌, ◌++◌, length, drop, Option, Some, None, if◌then◌else◌}
use Rattle.grid_base.specs.declared.calls.Answer.{Answer}
use Rattle.grid_base.specs.declared.calls.Answer.TheVariants.{Void, Flag, Number, Maybe}
use Rattle.grid_base.specs.declared.calls.QueueCall.{QueueCall}
use Rattle.grid_base.specs.declared.calls.QueueCall.TheVariants.{Offer, Poll, Peek, Size, RemainingCapacity, Clear}
use Rattle.queue_records.specs.declared.queues.QueueStep.{QueueStep}
use Rattle.queue_records.specs.declared.queues.QueueStep.TheVariants.{Same, Push, Pop, Clear as ClearAll}

-- There is room for one more while the length is below the capacity.
abbrev pub has_room : List (List ℕ) → ℕ → Bool
has_room items capacity = nat_lt (length items) capacity

abbrev pub front : List (List ℕ) → Option (List ℕ)
front [] = None
front (item ∷ items) = Some item

-- a length as an answer, which has 32 bits and stops at their greatest number
abbrev pub length_told : ℕ → Answer
length_told n = Number (min n (2 ^ 32 - 1))

abbrev pub answer : List (List ℕ) → QueueCall → ℕ → Answer
answer items (Offer name value) capacity = Flag (has_room items capacity)
answer items (Poll name) capacity = Maybe (front items)
answer items (Peek name) capacity = Maybe (front items)
answer items (Size name) capacity = length_told (length items)
answer items (RemainingCapacity name) capacity = Number (capacity - length items)
answer items (Clear name) capacity = Void

abbrev pub after : List (List ℕ) → QueueCall → ℕ → List (List ℕ)
after items (Offer name value) capacity = if has_room items capacity then items ++ value ∷ [] else items
after items (Poll name) capacity = drop 1 items
after items (Peek name) capacity = items
after items (Size name) capacity = items
after items (RemainingCapacity name) capacity = items
after items (Clear name) capacity = []

-- A poll and a clear take something away where there is something.
abbrev pub unless_empty : List (List ℕ) → QueueStep → QueueStep
unless_empty [] step = Same
unless_empty (item ∷ items) step = step

-- how a call changes a queue
abbrev pub step : List (List ℕ) → QueueCall → ℕ → QueueStep
step items (Offer name value) capacity = if has_room items capacity then Push else Same
step items (Poll name) capacity = unless_empty items Pop
step items (Clear name) capacity = unless_empty items ClearAll
step items _ capacity = Same

-- An offer brings a value.
abbrev pub brought : QueueCall → List (List ℕ)
brought (Offer name value) = value ∷ []
brought _ = []

-- what a step of a call makes of a queue
abbrev pub stepped : List (List ℕ) → QueueCall → QueueStep → List (List ℕ)
stepped items call Same = items
stepped items call Push = items ++ brought call
stepped items call Pop = drop 1 items
stepped items call ClearAll = []
