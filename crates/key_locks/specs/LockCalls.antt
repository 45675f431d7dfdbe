-- Calls on one lock, one after the other.
use Rattle.std.specs.Prelude.{◌≡◌, ℕ, ◌≤◌, ◌<◌, true, false, List, [], ◌∷◌, ◌++◌, map, length, replicate, All, Option, Some, None, IfSome}
use Rattle.grid_base.specs.declared.names.Owner.{Owner}
use Rattle.key_locks.specs.declared.locks.Lock.{Lock}
use Rattle.key_locks.specs.Locks.{is_same_owner, is_held_by, may_write, after_try_lock, after_unlock}

pub data LockCall : Type 0 where
  TryLock : (owner : Owner) (until : Option ℕ) → LockCall
  Unlock : (owner : Owner) → LockCall

abbrev pub caller_of : LockCall → Owner
caller_of (TryLock owner until) = owner
caller_of (Unlock owner) = owner

abbrev pub after_call : Option Lock → LockCall → Option Lock
after_call lock (TryLock owner until) = after_try_lock lock owner until
after_call lock (Unlock owner) = after_unlock lock owner

abbrev pub after_calls : Option Lock → List LockCall → Option Lock
after_calls lock [] = lock
after_calls lock (call ∷ calls) = after_calls (after_call lock call) calls

-- what is left of a free lock that an owner takes with these ends, one after the other, and unlocks so many times
abbrev pub taken_and_released : Owner → List (Option ℕ) → ℕ → Option Lock
taken_and_released owner ends unlocks = after_calls None (map (TryLock owner) ends ++ replicate unlocks (Unlock owner))

-- A lock that was taken so many times is free after as many unlocks.
abbrev pub FreeAfterAsMany : Owner → List (Option ℕ) → Type 0
FreeAfterAsMany owner ends = length ends ≤ 2147483647 → taken_and_released owner ends (length ends) ≡ None

-- After fewer unlocks its owner still has it.
abbrev pub HeldAfterFewer : Owner → List (Option ℕ) → ℕ → Type 0
HeldAfterFewer owner ends unlocks = length ends ≤ 2147483647 → unlocks < length ends → is_held_by (taken_and_released owner ends unlocks) owner ≡ true

-- Calls of others leave a lock as it is.
abbrev pub StaysUnderOthers : Lock → List LockCall → Type 0
StaysUnderOthers lock calls = All (λ call. is_same_owner lock.owner (caller_of call) ≡ false) calls → after_calls (Some lock) calls ≡ Some lock

-- Two who may both write a locked key are one.
abbrev pub HasOneWriter : Lock → Type 0
HasOneWriter lock = (a b : Owner) → may_write (Some lock) a ≡ true → may_write (Some lock) b ≡ true → a ≡ b

-- a count that a lock can have
pub record IsCounted (lock : Lock) : Type 0 where
  pub at_least_once : 1 ≤ lock.count
  pub within_limit : lock.count ≤ 2147483647

-- However a free key is locked and unlocked, its lock keeps to the limits of a count.
abbrev pub StaysCounted : List LockCall → Type 0
StaysCounted calls = IfSome (after_calls None calls) IsCounted
