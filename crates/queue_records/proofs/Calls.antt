-- What calls on one queue put in, take away and leave.
use Rattle.std.proofs.Common.{◌≡◌, ℕ, ◌≤◌, ◌<◌, Bool, true, false, List, [], ◌∷◌, ◌++◌, length, take, drop, refl, ap, sym, ◌∙◌, append_assoc, length-append, arith}
use Rattle.std.proofs.lemmas.Bool.Decides.{nat_tests}
use Rattle.std.proofs.lemmas.List.{append-nil, take-append-drop}
use Rattle.std.specs.Prelude.{◌↔◌, nat_lt, if◌then◌else◌}
use Rattle.grid_base.specs.declared.calls.QueueCall.{QueueCall}
use Rattle.grid_base.specs.declared.calls.QueueCall.TheVariants.{Offer, Poll, Peek, Size, RemainingCapacity, Clear}
use Rattle.queue_records.specs.declared.queues.QueueStep.TheVariants.{Same, Push}
use Rattle.queue_records.specs.Queues.{has_room, after}
use Rattle.queue_records.specs.QueueCalls.{put_in, taken_away, after_all, all_put_in, all_taken_away, FirstInFirstOut, StaysWithin, StepsWhereItChanges}

-- one call

offered : (items : List (List ℕ)) (value : List ℕ) (room : Bool) → (if room then items ++ value ∷ [] else items) ≡ items ++ (if room then value ∷ [] else [])
offered items value true = refl
offered items value false = sym (append-nil items)

polled : (items : List (List ℕ)) → take 1 items ++ drop 1 items ≡ items ++ []
polled items = take-append-drop 1 items ∙ sym (append-nil items)

in_order : (items : List (List ℕ)) (call : QueueCall) (capacity : ℕ) → taken_away items call ++ after items call capacity ≡ items ++ put_in items call capacity
in_order items (Offer name value) capacity = offered items value (has_room items capacity)
in_order items (Poll name) capacity = polled items
in_order items (Peek name) capacity = sym (append-nil items)
in_order items (Size name) capacity = sym (append-nil items)
in_order items (RemainingCapacity name) capacity = sym (append-nil items)
in_order items (Clear name) capacity = refl

-- calls one after the other

joined : (away more left items stays new newer : List (List ℕ)) → more ++ left ≡ stays ++ newer → away ++ stays ≡ items ++ new → (away ++ more) ++ left ≡ items ++ (new ++ newer)
joined away more left items stays new newer later first =
    append_assoc away more left ∙ ap (λ rest. away ++ rest) later ∙ sym (append_assoc away stays newer) ∙ ap (λ front. front ++ newer) first ∙ append_assoc items new newer

pub first_in_first_out : (items : List (List ℕ)) (calls : List QueueCall) (capacity : ℕ) → FirstInFirstOut items calls capacity
first_in_first_out items [] capacity = sym (append-nil items)
first_in_first_out items (call ∷ calls) capacity =
    let left = after items call capacity in
    joined (taken_away items call) (all_taken_away left calls capacity) (after_all left calls capacity) items left (put_in items call capacity) (all_put_in left calls capacity)
    (first_in_first_out left calls capacity) (in_order items call capacity)

-- the length

offer_within : (items : List (List ℕ)) (value : List ℕ) (capacity : ℕ) (room : Bool) → nat_lt (length items) capacity ≡ room → length items ≤ capacity → length (if room then items ++ value ∷ [] else items) ≤ capacity
offer_within items value capacity true e within = let less : length items < capacity = grind (arith, nat_tests) in omega (arith, length-append items (value ∷ []))
offer_within items value capacity false e within = within

stays_after : (items : List (List ℕ)) (call : QueueCall) (capacity : ℕ) → length items ≤ capacity → length (after items call capacity) ≤ capacity
stays_after items (Offer name value) capacity within = offer_within items value capacity (has_room items capacity) refl within
stays_after [] (Poll name) capacity within = within
stays_after (item ∷ items) (Poll name) capacity within = omega arith
stays_after items (Peek name) capacity within = within
stays_after items (Size name) capacity within = within
stays_after items (RemainingCapacity name) capacity within = within
stays_after items (Clear name) capacity within = omega arith

pub stays_within : (items : List (List ℕ)) (calls : List QueueCall) (capacity : ℕ) → StaysWithin items calls capacity
stays_within items [] capacity within = within
stays_within items (call ∷ calls) capacity within = stays_within (after items call capacity) calls capacity (stays_after items call capacity within)

-- the step

longer : (items : List (List ℕ)) (value : List ℕ) → items ++ value ∷ [] ≡ items → ⊥
longer items value e = let lengths = ap length e in omega (arith, lengths, length-append items (value ∷ []))

offer_steps : (items : List (List ℕ)) (value : List ℕ) (room : Bool) → ((if room then Push else Same) ≡ Same) ↔ ((if room then items ++ value ∷ [] else items) ≡ items)
offer_steps items value true = (λ e. cc, λ e. absurd (longer items value e))
offer_steps items value false = (λ e. refl, λ e. refl)

pub steps_where_it_changes : (items : List (List ℕ)) (call : QueueCall) (capacity : ℕ) → StepsWhereItChanges items call capacity
steps_where_it_changes items (Offer name value) capacity = offer_steps items value (has_room items capacity)
steps_where_it_changes [] (Poll name) capacity = (λ e. refl, λ e. refl)
steps_where_it_changes (item ∷ items) (Poll name) capacity = (λ e. cc, λ e. let lengths = ap length e in absurd (omega (arith, lengths)))
steps_where_it_changes items (Peek name) capacity = (λ e. refl, λ e. refl)
steps_where_it_changes items (Size name) capacity = (λ e. refl, λ e. refl)
steps_where_it_changes items (RemainingCapacity name) capacity = (λ e. refl, λ e. refl)
steps_where_it_changes [] (Clear name) capacity = (λ e. refl, λ e. refl)
steps_where_it_changes (item ∷ items) (Clear name) capacity = (λ e. cc, λ e. cc)
