-- Locks and the ends of leases, which the definitions of `key_locks` compute.
use Rattle.std.specs.Prelude.{◌≡◌, ℕ, ◌-◌, ◌^◌, pos, negsuc, [], ◌∷◌, map, true, false, Option, Some, None, refl}
use Rattle.grid_base.specs.declared.names.ClientKey.TheVariants.{Known, OfConn}
use Rattle.grid_base.specs.declared.names.Owner.{Owner}
use Rattle.key_locks.specs.declared.locks.Lock.{Lock}
use Rattle.key_locks.specs.Ends.{end_of}
use Rattle.key_locks.specs.Locks.{holder_of, is_held_by, may_write, may_lock, cleaned}
use Rattle.key_locks.specs.LockCalls.{TryLock, Unlock, after_calls}

-- thread 1 of the clients 7 and 8, another thread of client 7, and one of a connection 7

abbrev seven : Owner
seven = record { client = Known 7; thread = pos 1 }

abbrev eight : Owner
eight = record { client = Known 8; thread = pos 1 }

abbrev another_thread : Owner
another_thread = record { client = Known 7; thread = negsuc 0 }

abbrev connection : Owner
connection = record { client = OfConn 7; thread = pos 1 }

abbrev lock_of : ℕ → Option ℕ → Option Lock
lock_of count until = Some (record { owner = seven; count = count; until = until })

a_lock_taken_twice_and_released_once_still_blocks_others
    : map (may_write (after_calls None (TryLock seven None ∷ TryLock seven None ∷ Unlock seven ∷ []))) (seven ∷ eight ∷ another_thread ∷ connection ∷ [])
    ≡ true ∷ false ∷ false ∷ false ∷ []
a_lock_taken_twice_and_released_once_still_blocks_others = refl

others_neither_take_nor_release_it : after_calls (lock_of 1 None) (TryLock eight (Some 9) ∷ Unlock eight ∷ []) ≡ lock_of 1 None
others_neither_take_nor_release_it = refl

others_are_told_who_has_it : holder_of (lock_of 1 None) ≡ Some seven
others_are_told_who_has_it = refl

it_is_free_after_as_many_unlocks : after_calls (lock_of 2 None) (Unlock seven ∷ Unlock seven ∷ []) ≡ None
it_is_free_after_as_many_unlocks = refl

nobody_holds_a_free_one : is_held_by None seven ≡ false
nobody_holds_a_free_one = refl

a_count_stops_at_its_limit : map (λ count. may_lock (lock_of count (Some 9)) seven) (2147483646 ∷ 2147483647 ∷ []) ≡ true ∷ false ∷ []
a_count_stops_at_its_limit = refl

a_full_count_stays : after_calls (lock_of 2147483647 (Some 9)) (TryLock seven None ∷ []) ≡ lock_of 2147483647 (Some 9)
a_full_count_stays = refl

a_lease_ends_at_its_moment : map (λ now. may_write (cleaned (lock_of 1 (end_of 5000 (pos 1000))) now) eight) (5999 ∷ 6000 ∷ []) ≡ false ∷ true ∷ []
a_lease_ends_at_its_moment = refl

some_spans_never_end : map (end_of 5) (pos 0 ∷ negsuc 0 ∷ negsuc (2 ^ 63 - 1) ∷ []) ≡ None ∷ None ∷ None ∷ []
some_spans_never_end = refl

an_end_is_a_moment_of_64_bits
    : map (λ now. end_of now (pos 1)) (5 ∷ (2 ^ 64 - 2) ∷ (2 ^ 64 - 1) ∷ []) ≡ Some 6 ∷ Some (2 ^ 64 - 1) ∷ None ∷ []
an_end_is_a_moment_of_64_bits = refl

the_longest_span_may_pass_it : end_of (2 ^ 64 - 1) (pos (2 ^ 63 - 1)) ≡ None
the_longest_span_may_pass_it = refl
