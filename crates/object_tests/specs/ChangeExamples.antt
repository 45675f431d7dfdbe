-- Effects and changes of calls, which the definitions of `call_engine` compute.
use Rattle.std.specs.Prelude.{◌≡◌, ℕ, ℤ, pos, List, [], ◌∷◌, replicate, true, false, Option, Some, None, refl}
use Rattle.grid_base.specs.declared.calls.Answer.TheVariants.{Maybe, KeyLocked}
use Rattle.grid_base.specs.declared.calls.Change.{Change}
use Rattle.grid_base.specs.declared.calls.GridCall.{GridCall}
use Rattle.grid_base.specs.declared.calls.GridCall.TheVariants as call
use Rattle.grid_base.specs.declared.calls.MapCall.TheVariants.{Put, Get, TryLock, ExecuteOnKey}
use Rattle.grid_base.specs.declared.calls.QueueCall.{QueueCall}
use Rattle.grid_base.specs.declared.calls.QueueCall.TheVariants.{Offer, Poll, Clear}
use Rattle.grid_base.specs.declared.names.ClientKey.TheVariants.{Known}
use Rattle.grid_base.specs.declared.names.Owner.{Owner}
use Rattle.entry_processors.specs.Processors.{Add}
use Rattle.key_locks.specs.declared.locks.Lock.{Lock}
use Rattle.map_records.specs.declared.records.MapRecord.{MapRecord}
use Rattle.map_records.specs.MapEntries.{empty_entry}
use Rattle.object_store.specs.declared.effects.Effect.{Effect}
use Rattle.object_store.specs.declared.effects.Effect.TheVariants as effect
use Rattle.object_store.specs.Records.{Record, Map, Queue}
use Rattle.call_engine.specs.Calls.{Settings, answer, after}
use Rattle.call_engine.specs.Changes.{change_on}
use Rattle.call_engine.specs.Effects.{effect_on}

-- one processor, and two values in a queue
abbrev settings : Settings
settings = record { forms = Add ∷ []; capacity = 2 }

abbrev m : List ℕ
m = 109 ∷ []

abbrev k : List ℕ
k = 107 ∷ []

abbrev q : List ℕ
q = 113 ∷ []

abbrev v : List ℕ
v = 118 ∷ []

abbrev owner : ℕ → Owner
owner client = record { client = Known client; thread = pos 1 }

abbrev put : ℕ → ℤ → GridCall
put client ttl = call.Map (Put m k (owner client) v ttl)

abbrev get : GridCall
get = call.Map (Get m k (owner 7))

abbrev entry : Option ℕ → MapRecord
entry expires = record { value = Some v; expires = expires; idle = None; lock = None }

abbrev change : Option (List ℕ) → Option (List ℕ) → Change
change old new = record { name = m; key = k; old = old; new = new; expired = false }

-- entries

a_put_sets_the_entry : effect_on settings (Map empty_entry) (put 7 (pos 1000)) 5000 ≡ Some (effect.SetEntry m k (entry (Some 6000)))
a_put_sets_the_entry = refl

it_is_a_change_of_the_value : change_on settings (Map empty_entry) (put 7 (pos 1000)) 5000 ≡ Some (change None (Some v))
it_is_a_change_of_the_value = refl

an_equal_value_with_another_expiry_is_an_effect : effect_on settings (Map (entry None)) (put 7 (pos 1000)) 5000 ≡ Some (effect.SetEntry m k (entry (Some 6000)))
an_equal_value_with_another_expiry_is_an_effect = refl

and_no_change_of_the_value : change_on settings (Map (entry None)) (put 7 (pos 1000)) 5000 ≡ None
and_no_change_of_the_value = refl

a_get_has_no_effect : effect_on settings (Map (entry (Some 6000))) get 5999 ≡ None
a_get_has_no_effect = refl

nor_is_it_a_change : change_on settings (Map (entry (Some 6000))) get 5999 ≡ None
nor_is_it_a_change = refl

a_get_drops_what_has_expired : effect_on settings (Map (entry (Some 6000))) get 6000 ≡ Some (effect.DropEntry m k)
a_get_drops_what_has_expired = refl

that_is_told_as_an_expiry : change_on settings (Map (entry (Some 6000))) get 6000 ≡ Some (record (change (Some v) None) { expired = true })
that_is_told_as_an_expiry = refl

abbrev lock_of : ℕ → Option Lock
lock_of client = Some (record { owner = owner client; count = 1; until = None })

abbrev locked : MapRecord
locked = record empty_entry { lock = lock_of 8 }

a_lock_is_set : effect_on settings (Map empty_entry) (call.Map (TryLock m k (owner 8) (pos 0))) 0 ≡ Some (effect.SetEntry m k locked)
a_lock_is_set = refl

who_is_kept_out_has_no_effect : effect_on settings (Map locked) (put 7 (pos 0)) 0 ≡ None
who_is_kept_out_has_no_effect = refl

and_is_told_so : answer settings (Map locked) (put 7 (pos 0)) 0 ≡ KeyLocked
and_is_told_so = refl

a_locked_entry_is_set_with_its_lock : effect_on settings (Map locked) (put 8 (pos 0)) 0 ≡ Some (effect.SetEntry m k (record (entry None) { lock = lock_of 8 }))
a_locked_entry_is_set_with_its_lock = refl

-- the number 5 as a value
abbrev five : List ℕ
five = 0 ∷ 0 ∷ 0 ∷ 0 ∷ 255 ∷ 255 ∷ 255 ∷ 248 ∷ 0 ∷ 0 ∷ 0 ∷ 0 ∷ 0 ∷ 0 ∷ 0 ∷ 5 ∷ []

a_processor_answers_its_value : answer settings (Map empty_entry) (call.Map (ExecuteOnKey m k (owner 7) (pos 1) (5 ∷ replicate 7 0))) 0 ≡ Maybe (Some five)
a_processor_answers_its_value = refl

-- queues

abbrev one : List ℕ
one = 97 ∷ []

abbrev two : List ℕ
two = 98 ∷ []

-- what calls on a queue are answered, one after the other, and their effects
abbrev effects : List (List ℕ) → List QueueCall → List (Option Effect)
effects items [] = []
effects items (c ∷ cs) = effect_on settings (Queue items) (call.Queue c) 0 ∷ effects (items_after (after settings (Queue items) (call.Queue c) 0)) cs
  where
    items_after : Record → List (List ℕ)
    items_after (Queue left) = left
    items_after (Map kept) = []

queues_are_first_in_first_out
    : effects [] (Offer q one ∷ Offer q two ∷ Offer q v ∷ Poll q ∷ Clear q ∷ Poll q ∷ Clear q ∷ [])
    ≡ Some (effect.Push q one) ∷ Some (effect.Push q two) ∷ None ∷ Some (effect.Pop q) ∷ Some (effect.Clear q) ∷ None ∷ None ∷ []
queues_are_first_in_first_out = refl

a_poll_answers_the_front : answer settings (Queue (one ∷ two ∷ [])) (call.Queue (Poll q)) 0 ≡ Maybe (Some one)
a_poll_answers_the_front = refl

no_call_on_a_queue_changes_a_value : change_on settings (Queue (one ∷ [])) (call.Queue (Poll q)) 0 ≡ None
no_call_on_a_queue_changes_a_value = refl
