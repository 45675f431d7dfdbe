-- The calls that wait at one member of one partition, in order of arrival.
use Rattle.std.specs.Prelude.{◌≡◌, ℕ, ◌+◌, ◌^◌, Bool, false, ◌||◌, ◌==◌, nat_le, ℤ, pos, negsuc, List, All, Option, Some, None, if◌then◌else◌}
use Rattle.key_locks.specs.Ends.{has_ended}
use Rattle.object_store.specs.Partitions.{Partition}
use Rattle.call_engine.specs.Calls.{Settings}
use Rattle.call_engine.specs.Readiness.{is_ready, Wish, wish_of}
use Rattle.wait_sets.specs.declared.waiter.Waiter.{Waiter}

-- A timeout below 0 never ends. Another ends at now plus it, and never where that passes what a moment can be
abbrev pub deadline_of : ℕ → ℤ → Option ℕ
deadline_of now (negsuc n) = None
deadline_of now (pos timeout) = if nat_le (2 ^ 64) (now + timeout) then None else Some (now + timeout)

-- its deadline, if it has one, is at most that moment
abbrev pub is_due : ℕ → Waiter → Bool
is_due now waiter = has_ended waiter.deadline now

-- its plain call would be answered as it wishes, by what is kept
abbrev pub is_ready_now : Settings → Partition → ℕ → Waiter → Bool
is_ready_now settings s now waiter = is_ready settings s waiter.request now

-- it is ready, or due
abbrev pub is_its_turn : Settings → Partition → ℕ → Waiter → Bool
is_its_turn settings s now waiter = is_ready_now settings s now waiter || is_due now waiter

abbrev pub NoneIsDue : ℕ → List Waiter → Type 0
NoneIsDue now waiters = All (λ waiter. is_due now waiter ≡ false) waiters

abbrev pub is_of : ℕ → Waiter → Bool
is_of conn waiter = waiter.request.id.conn == conn

-- what it wishes: by that alone is it ready or not
abbrev pub wish : Waiter → Wish
wish waiter = wish_of waiter.request.call
