-- What calls on one lock leave.
use Rattle.std.proofs.Common.{◌≡◌, ◌+◌, ◌-◌, ◌≤◌, ◌<◌, ℕ, zero, suc, Bool, true, false, ◌&&◌, List, [], ◌∷◌, ◌++◌, map, length, replicate, Option, Some, None, IfSome, refl, ap, sym, ◌∙◌, arith}
use Rattle.std.proofs.lemmas.Bool.Decides.{nat_tests}
use Rattle.std.proofs.lemmas.List.Elements.{All-head, All-tail}
use Rattle.std.specs.Prelude.{nat_lt, nat_le, if◌then◌else◌}
use Rattle.grid_base.specs.declared.names.Owner.{Owner}
use Rattle.key_locks.specs.declared.locks.Lock.{Lock}
use Rattle.key_locks.specs.Locks.{is_same_owner, is_held_by}
use Rattle.key_locks.specs.LockCalls.{LockCall, TryLock, Unlock, caller_of, after_call, after_calls, taken_and_released, FreeAfterAsMany, HeldAfterFewer, StaysUnderOthers, HasOneWriter, IsCounted, StaysCounted}
use Rattle.key_locks.proofs.Owners.{same_owner, own_owner}

-- calls of others

other_leaves : (lock : Lock) (call : LockCall) → is_same_owner lock.owner (caller_of call) ≡ false → after_call (Some lock) call ≡ Some lock
other_leaves lock (TryLock owner until) e = rw e refl
other_leaves lock (Unlock owner) e = rw e refl

pub stays_under_others : (lock : Lock) (calls : List LockCall) → StaysUnderOthers lock calls
stays_under_others lock [] h = refl
stays_under_others lock (call ∷ calls) h =
    ap (λ after. after_calls after calls) (other_leaves lock call (All-head IsOther call calls h)) ∙ stays_under_others lock calls (All-tail IsOther call calls h)
  where
    IsOther : LockCall → Type 0
    IsOther other = is_same_owner lock.owner (caller_of other) ≡ false

pub has_one_writer : (lock : Lock) → HasOneWriter lock
has_one_writer lock a b first second = sym (same_owner lock.owner a first) ∙ same_owner lock.owner b second

-- the count

counted_lock : (owner : Owner) (until : Option ℕ) (lock : Lock) (same below : Bool) → (nat_lt lock.count 2147483647 ≡ below) → IsCounted lock → IfSome (if same && below then Some (record lock { count = lock.count + 1; until = until }) else Some lock) IsCounted
counted_lock owner until lock true true e h = let less : lock.count < 2147483647 = grind (arith, nat_tests) in record { at_least_once = omega arith; within_limit = omega arith }
counted_lock owner until lock true false e h = h
counted_lock owner until lock false below e h = h

counted_unlock : (lock : Lock) (same least : Bool) → (nat_le lock.count 1 ≡ least) → IsCounted lock → IfSome (if same then (if least then None else Some (record lock { count = lock.count - 1 })) else Some lock) IsCounted
counted_unlock lock true true e h = tt
counted_unlock lock true false e h = let more : 1 < lock.count = grind (arith, nat_tests) in let within = h.within_limit in record { at_least_once = omega arith; within_limit = omega arith }
counted_unlock lock false least e h = h

counted_on : (lock : Option Lock) (call : LockCall) → IfSome lock IsCounted → IfSome (after_call lock call) IsCounted
counted_on None (TryLock owner until) h = record { at_least_once = omega arith; within_limit = omega arith }
counted_on None (Unlock owner) h = tt
counted_on (Some lock) (TryLock owner until) h = counted_lock owner until lock (is_same_owner lock.owner owner) (nat_lt lock.count 2147483647) refl h
counted_on (Some lock) (Unlock owner) h = counted_unlock lock (is_same_owner lock.owner owner) (nat_le lock.count 1) refl h

counted_from : (lock : Option Lock) (calls : List LockCall) → IfSome lock IsCounted → IfSome (after_calls lock calls) IsCounted
counted_from lock [] h = h
counted_from lock (call ∷ calls) h = counted_from (after_call lock call) calls (counted_on lock call h)

pub stays_counted : (calls : List LockCall) → StaysCounted calls
stays_counted calls = counted_from None calls tt

-- taken and released

abbrev held : Owner → Option ℕ → ℕ → Option Lock
held owner until count = Some (record { owner = owner; count = count; until = until })

calls_append : (lock : Option Lock) (first second : List LockCall) → after_calls lock (first ++ second) ≡ after_calls (after_calls lock first) second
calls_append lock [] second = refl
calls_append lock (call ∷ first) second = calls_append (after_call lock call) first second

taken_once : (owner : Owner) (before until : Option ℕ) (count : ℕ) → count < 2147483647 → after_call (held owner before count) (TryLock owner until) ≡ held owner until (count + 1)
taken_once owner before until count less =
    let test : nat_lt count 2147483647 ≡ true = grind (arith, nat_tests) in
    rw (own_owner owner, test) refl

last_end : Option ℕ → List (Option ℕ) → Option ℕ
last_end before [] = before
last_end before (until ∷ ends) = last_end until ends

taken : (owner : Owner) (before : Option ℕ) (ends : List (Option ℕ)) (count : ℕ) → count + length ends ≤ 2147483647 → after_calls (held owner before count) (map (TryLock owner) ends) ≡ held owner (last_end before ends) (count + length ends)
unfolding last_end
taken owner before [] count fits = let e : count + 0 ≡ count = omega arith in rw e refl
taken owner before (until ∷ ends) count fits =
    let more : count + suc (length ends) ≡ (count + 1) + length ends = omega arith in
    let first = taken_once owner before until count (omega arith) in
    rw more (ap (λ lock. after_calls lock (map (TryLock owner) ends)) first ∙ taken owner until ends (count + 1) (omega arith))

released_once : (owner : Owner) (until : Option ℕ) (count : ℕ) → after_call (held owner until (suc (suc count))) (Unlock owner) ≡ held owner until (suc count)
released_once owner until count =
    let test : nat_le (suc (suc count)) 1 ≡ false = grind (arith, nat_tests) in
    let less : suc (suc count) - 1 ≡ suc count = omega arith in
    rw (own_owner owner, test, less) refl

released_last : (owner : Owner) (until : Option ℕ) → after_call (held owner until 1) (Unlock owner) ≡ None
released_last owner until = rw (own_owner owner) refl

released : (owner : Owner) (until : Option ℕ) (count : ℕ) → after_calls (held owner until (suc count)) (replicate (suc count) (Unlock owner)) ≡ None
released owner until zero = released_last owner until
released owner until (suc count) =
    ap (λ lock. after_calls lock (replicate (suc count) (Unlock owner))) (released_once owner until count) ∙ released owner until count

held_still : (owner : Owner) (until : Option ℕ) (count unlocks : ℕ) → unlocks < count → is_held_by (after_calls (held owner until count) (replicate unlocks (Unlock owner))) owner ≡ true
held_still owner until count zero less = own_owner owner
held_still owner until zero (suc unlocks) less = absurd (omega arith)
held_still owner until (suc zero) (suc unlocks) less = absurd (omega arith)
held_still owner until (suc (suc count)) (suc unlocks) less =
    ap (λ lock. is_held_by (after_calls lock (replicate unlocks (Unlock owner))) owner) (released_once owner until count) ∙ held_still owner until (suc count) unlocks (omega arith)

-- the lock after it was taken at least once
after_taking : (owner : Owner) (until : Option ℕ) (ends : List (Option ℕ)) (unlocks : ℕ) → suc (length ends) ≤ 2147483647 → taken_and_released owner (until ∷ ends) unlocks ≡ after_calls (held owner (last_end until ends) (suc (length ends))) (replicate unlocks (Unlock owner))
after_taking owner until ends unlocks fits =
    let count : suc (length ends) ≡ 1 + length ends = omega arith in
    let all = taken owner until ends 1 (omega arith) in
    rw count (calls_append (held owner until 1) (map (TryLock owner) ends) (replicate unlocks (Unlock owner)) ∙ ap (λ lock. after_calls lock (replicate unlocks (Unlock owner))) all)

pub free_after_as_many : (owner : Owner) (ends : List (Option ℕ)) → FreeAfterAsMany owner ends
free_after_as_many owner [] fits = refl
free_after_as_many owner (until ∷ ends) fits =
    after_taking owner until ends (suc (length ends)) fits ∙ released owner (last_end until ends) (length ends)

pub held_after_fewer : (owner : Owner) (ends : List (Option ℕ)) (unlocks : ℕ) → HeldAfterFewer owner ends unlocks
held_after_fewer owner [] unlocks fits fewer = absurd (omega arith)
held_after_fewer owner (until ∷ ends) unlocks fits fewer =
    ap (λ lock. is_held_by lock owner) (after_taking owner until ends unlocks fits) ∙ held_still owner (last_end until ends) (suc (length ends)) unlocks fewer
