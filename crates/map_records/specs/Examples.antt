-- Worked examples, which the definitions compute.
use Rattle.std.specs.Prelude.{◌≡◌, ℕ, ◌-◌, ◌^◌, ℤ, pos, negsuc, List, [], ◌∷◌, replicate, false, Option, Some, None, refl}
use Rattle.grid_base.specs.declared.calls.Answer.TheVariants.{Flag, Maybe, KeyLocked, NotOwner, UnknownProcessor}
use Rattle.grid_base.specs.declared.names.ClientKey.TheVariants.{Known}
use Rattle.grid_base.specs.declared.names.Owner.{Owner}
use Rattle.entry_processors.specs.NumberValues.{number_value}
use Rattle.entry_processors.specs.Processors.{ProcessorForm, Add, AddUpTo, Append, SetIfGreater, Clear}
use Rattle.key_locks.specs.declared.locks.Lock.{Lock}
use Rattle.grid_base.specs.declared.calls.MapCall.{MapCall}
use Rattle.grid_base.specs.declared.calls.MapCall.TheVariants.{Put, PutIfAbsent, Get, ContainsKey, Remove, Replace, ReplaceIfSame, RemoveIfSame, TryLock, Unlock, IsLocked, ForceUnlock, ExecuteOnKey, PutMaxIdle}
use Rattle.map_records.specs.declared.records.Idle.{Idle}
use Rattle.map_records.specs.declared.records.MapRecord.{MapRecord}
use Rattle.map_records.specs.MapEntries.{empty_entry}
use Rattle.map_records.specs.MapTable.{answer, after}

-- the map, its key, and two values

abbrev m : List ℕ
m = 109 ∷ []

abbrev k : List ℕ
k = 107 ∷ []

abbrev v : List ℕ
v = 118 ∷ []

abbrev w : List ℕ
w = 119 ∷ []

-- clients 7 and 8, with thread 1 each

abbrev seven : Owner
seven = record { client = Known 7; thread = pos 1 }

abbrev eight : Owner
eight = record { client = Known 8; thread = pos 1 }

abbrev forms : List ProcessorForm
forms = Add ∷ AddUpTo (pos 1000) ∷ Append ∷ SetIfGreater ∷ Clear ∷ []

-- entries

abbrev entry : List ℕ → Option ℕ → Option Idle → Option Lock → MapRecord
entry value expires idle lock = record { value = Some value; expires = expires; idle = idle; lock = lock }

abbrev idle : ℕ → ℕ → Option Idle
idle span end = Some (record { span = span; end = end })

abbrev lock_of : Owner → ℕ → Option ℕ → Option Lock
lock_of owner count until = Some (record { owner = owner; count = count; until = until })

abbrev locked : Option Lock → MapRecord
locked lock = record empty_entry { lock = lock }

-- calls of client 7 on the key

abbrev put : List ℕ → ℤ → MapCall
put value ttl = Put m k seven value ttl

abbrev get : MapCall
get = Get m k seven

abbrev execute : ℤ → List ℕ → MapCall
execute number argument = ExecuteOnKey m k seven number argument

-- times to live

a_time_to_live_ends_at_now_plus_it : after forms empty_entry (put v (pos 1000)) 5000 ≡ entry v (Some 6000) None None
a_time_to_live_ends_at_now_plus_it = refl

one_of_0_never_ends : after forms empty_entry (put v (pos 0)) 5000 ≡ entry v None None None
one_of_0_never_ends = refl

one_below_0_never_ends : after forms empty_entry (put v (negsuc 0)) 5000 ≡ entry v None None None
one_below_0_never_ends = refl

one_ends_at_the_last_moment : after forms empty_entry (put v (pos 1)) (2 ^ 64 - 2) ≡ entry v (Some (2 ^ 64 - 1)) None None
one_ends_at_the_last_moment = refl

one_past_the_last_moment_never_ends : after forms empty_entry (put v (pos 1)) (2 ^ 64 - 1) ≡ entry v None None None
one_past_the_last_moment_never_ends = refl

a_value_stands_before_its_expiry : answer forms (entry v (Some 6000) None None) get 5999 ≡ Maybe (Some v)
a_value_stands_before_its_expiry = refl

a_value_has_expired_at_its_expiry : answer forms (entry v (Some 6000) None None) get 6000 ≡ Maybe None
a_value_has_expired_at_its_expiry = refl

a_get_removes_what_has_expired : after forms (entry v (Some 6000) None None) get 6000 ≡ empty_entry
a_get_removes_what_has_expired = refl

-- writes

a_put_answers_the_old_value : answer forms (entry v None None None) (put w (pos 0)) 5 ≡ Maybe (Some v)
a_put_answers_the_old_value = refl

a_put_of_an_equal_value_is_no_change : after forms (entry v None None None) (put v (pos 0)) 5 ≡ entry v None None None
a_put_of_an_equal_value_is_no_change = refl

a_put_over_an_expired_value_answers_null : answer forms (entry v (Some 6000) None None) (put w (pos 0)) 6000 ≡ Maybe None
a_put_over_an_expired_value_answers_null = refl

a_put_takes_the_idle_span_away : after forms (entry v None (idle 500 1500) None) (put w (pos 0)) 1000 ≡ entry w None None None
a_put_takes_the_idle_span_away = refl

a_put_if_absent_keeps_a_value : after forms (entry v (Some 6000) None None) (PutIfAbsent m k seven w (pos 0)) 5 ≡ entry v (Some 6000) None None
a_put_if_absent_keeps_a_value = refl

a_put_if_absent_sets_over_an_expired_value : after forms (entry v (Some 6000) None None) (PutIfAbsent m k seven w (pos 0)) 6000 ≡ entry w None None None
a_put_if_absent_sets_over_an_expired_value = refl

a_remove_keeps_the_lock : after forms (entry v (Some 6000) (idle 500 1500) (lock_of seven 1 None)) (Remove m k seven) 5 ≡ locked (lock_of seven 1 None)
a_remove_keeps_the_lock = refl

a_replace_keeps_the_expiry : after forms (entry v (Some 6000) None None) (Replace m k seven w) 5 ≡ entry w (Some 6000) None None
a_replace_keeps_the_expiry = refl

a_replace_of_nothing_changes_nothing : after forms empty_entry (Replace m k seven w) 5 ≡ empty_entry
a_replace_of_nothing_changes_nothing = refl

a_replace_of_nothing_answers_null : answer forms empty_entry (Replace m k seven w) 5 ≡ Maybe None
a_replace_of_nothing_answers_null = refl

an_equal_value_is_replaced : after forms (entry v (Some 6000) None None) (ReplaceIfSame m k seven v w) 5 ≡ entry w (Some 6000) None None
an_equal_value_is_replaced = refl

another_value_stays : answer forms (entry v None None None) (ReplaceIfSame m k seven w w) 5 ≡ Flag false
another_value_stays = refl

no_value_equals_none : answer forms empty_entry (RemoveIfSame m k seven []) 5 ≡ Flag false
no_value_equals_none = refl

an_equal_value_is_removed : after forms (entry v (Some 6000) None None) (RemoveIfSame m k seven v) 5 ≡ empty_entry
an_equal_value_is_removed = refl

-- locks

a_lock_is_taken_without_a_value : after forms empty_entry (TryLock m k seven (pos 0)) 5 ≡ locked (lock_of seven 1 None)
a_lock_is_taken_without_a_value = refl

a_lock_that_is_taken_again_has_the_new_end : after forms (locked (lock_of seven 1 (Some 9))) (TryLock m k seven (pos 1000)) 5 ≡ locked (lock_of seven 2 (Some 1005))
a_lock_that_is_taken_again_has_the_new_end = refl

a_count_stops_at_its_limit : answer forms (locked (lock_of seven 2147483647 None)) (TryLock m k seven (pos 0)) 5 ≡ Flag false
a_count_stops_at_its_limit = refl

a_full_count_stays : after forms (locked (lock_of seven 2147483647 None)) (TryLock m k seven (pos 9)) 5 ≡ locked (lock_of seven 2147483647 None)
a_full_count_stays = refl

anothers_lock_is_not_taken : answer forms (locked (lock_of seven 1 None)) (TryLock m k eight (pos 0)) 5 ≡ Flag false
anothers_lock_is_not_taken = refl

an_ended_lease_is_taken : after forms (locked (lock_of seven 2 (Some 5))) (TryLock m k eight (pos 0)) 5 ≡ locked (lock_of eight 1 None)
an_ended_lease_is_taken = refl

anothers_write_is_kept_out : answer forms (entry v None None (lock_of seven 1 None)) (Put m k eight w (pos 0)) 5 ≡ KeyLocked
anothers_write_is_kept_out = refl

a_lease_keeps_out_before_its_end : answer forms (locked (lock_of seven 1 (Some 6000))) (Put m k eight w (pos 0)) 5999 ≡ KeyLocked
a_lease_keeps_out_before_its_end = refl

an_ended_lease_keeps_nobody_out : answer forms (locked (lock_of seven 1 (Some 6000))) (Put m k eight w (pos 0)) 6000 ≡ Maybe None
an_ended_lease_keeps_nobody_out = refl

an_ended_lease_is_removed : after forms (locked (lock_of seven 1 (Some 6000))) get 6000 ≡ empty_entry
an_ended_lease_is_removed = refl

a_read_needs_no_lock : answer forms (entry v None None (lock_of seven 1 None)) (Get m k eight) 5 ≡ Maybe (Some v)
a_read_needs_no_lock = refl

the_owner_writes : after forms (entry v None None (lock_of seven 1 None)) (put w (pos 0)) 5 ≡ entry w None None (lock_of seven 1 None)
the_owner_writes = refl

a_value_expires_while_its_key_is_locked : after forms (entry v (Some 6000) None (lock_of seven 1 None)) (Get m k eight) 6000 ≡ locked (lock_of seven 1 None)
a_value_expires_while_its_key_is_locked = refl

a_call_that_is_kept_out_removes_what_has_expired : after forms (entry v (Some 6000) None (lock_of seven 1 None)) (Put m k eight w (pos 0)) 6000 ≡ locked (lock_of seven 1 None)
a_call_that_is_kept_out_removes_what_has_expired = refl

anothers_unlock_is_refused : answer forms (locked (lock_of seven 1 None)) (Unlock m k eight) 5 ≡ NotOwner
anothers_unlock_is_refused = refl

no_lock_is_nobodys : answer forms empty_entry (Unlock m k seven) 5 ≡ NotOwner
no_lock_is_nobodys = refl

an_unlock_counts_one_less : after forms (locked (lock_of seven 2 None)) (Unlock m k seven) 5 ≡ locked (lock_of seven 1 None)
an_unlock_counts_one_less = refl

the_last_unlock_frees_the_key : after forms (locked (lock_of seven 1 None)) (Unlock m k seven) 5 ≡ empty_entry
the_last_unlock_frees_the_key = refl

a_forced_unlock_frees_the_key : after forms (locked (lock_of seven 2 None)) (ForceUnlock m k) 5 ≡ empty_entry
a_forced_unlock_frees_the_key = refl

-- processors

a_processor_sets_a_value_that_never_ends : after forms empty_entry (execute (pos 1) (5 ∷ replicate 7 0)) 5 ≡ entry (number_value (pos 5)) None None None
a_processor_sets_a_value_that_never_ends = refl

a_processor_keeps_the_expiry : after forms (entry (number_value (pos 5)) (Some 6000) None None) (execute (pos 1) (2 ∷ replicate 7 0)) 5 ≡ entry (number_value (pos 7)) (Some 6000) None None
a_processor_keeps_the_expiry = refl

a_sum_past_its_limit_answers_null : answer forms (entry (number_value (pos 1000)) None None None) (execute (pos 2) (1 ∷ replicate 7 0)) 5 ≡ Maybe None
a_sum_past_its_limit_answers_null = refl

a_sum_past_its_limit_changes_nothing : after forms (entry (number_value (pos 1000)) None None None) (execute (pos 2) (1 ∷ replicate 7 0)) 5 ≡ entry (number_value (pos 1000)) None None None
a_sum_past_its_limit_changes_nothing = refl

a_sum_past_64_bits_changes_nothing : after forms (entry (number_value (pos (2 ^ 63 - 1))) None None None) (execute (pos 1) (1 ∷ replicate 7 0)) 5 ≡ entry (number_value (pos (2 ^ 63 - 1))) None None None
a_sum_past_64_bits_changes_nothing = refl

a_clear_removes_the_value : after forms (entry v (Some 6000) (idle 500 1500) None) (execute (pos 5) []) 5 ≡ empty_entry
a_clear_removes_the_value = refl

a_clear_answers_the_value : answer forms (entry v None None None) (execute (pos 5) []) 5 ≡ Maybe (Some v)
a_clear_answers_the_value = refl

an_unknown_processor_comes_before_the_lock : answer forms (entry v None None (lock_of eight 1 None)) (execute (pos 6) []) 5 ≡ UnknownProcessor
an_unknown_processor_comes_before_the_lock = refl

a_known_one_is_kept_out : answer forms (entry v None None (lock_of eight 1 None)) (execute (pos 5) []) 5 ≡ KeyLocked
a_known_one_is_kept_out = refl

number_0_is_unknown : answer forms empty_entry (execute (pos 0) []) 5 ≡ UnknownProcessor
number_0_is_unknown = refl

an_unknown_processor_meets_an_expired_value : after forms (entry v (Some 6000) None None) (execute (pos 6) []) 6000 ≡ empty_entry
an_unknown_processor_meets_an_expired_value = refl

-- idle spans

an_idle_span_begins_now : after forms empty_entry (PutMaxIdle m k seven v (pos 0) (pos 500)) 1000 ≡ entry v None (idle 500 1500) None
an_idle_span_begins_now = refl

a_max_idle_of_0_is_none : after forms empty_entry (PutMaxIdle m k seven v (pos 0) (pos 0)) 1000 ≡ entry v None None None
a_max_idle_of_0_is_none = refl

an_idle_end_stops_at_the_last_moment : after forms empty_entry (PutMaxIdle m k seven v (pos 0) (pos 500)) (2 ^ 64 - 1) ≡ entry v None (idle 500 (2 ^ 64 - 1)) None
an_idle_end_stops_at_the_last_moment = refl

at_the_last_moment_it_has_ended : answer forms (entry v None (idle 500 (2 ^ 64 - 1)) None) get (2 ^ 64 - 1) ≡ Maybe None
at_the_last_moment_it_has_ended = refl

a_get_touches : after forms (entry v None (idle 500 1500) None) get 1400 ≡ entry v None (idle 500 1900) None
a_get_touches = refl

a_look_whether_there_is_a_value_touches : after forms (entry v None (idle 500 1900) None) (ContainsKey m k seven) 1899 ≡ entry v None (idle 500 2399) None
a_look_whether_there_is_a_value_touches = refl

an_unused_value_goes_at_its_idle_end : after forms (entry v None (idle 500 2399) None) get 2399 ≡ empty_entry
an_unused_value_goes_at_its_idle_end = refl

a_replace_keeps_the_span : after forms (entry v None (idle 500 1500) None) (Replace m k seven w) 1400 ≡ entry w None (idle 500 1900) None
a_replace_keeps_the_span = refl

a_replace_that_finds_another_value_touches : after forms (entry v None (idle 500 1500) None) (ReplaceIfSame m k seven w w) 1400 ≡ entry v None (idle 500 1900) None
a_replace_that_finds_another_value_touches = refl

a_put_if_absent_that_finds_a_value_touches : after forms (entry v None (idle 500 1500) None) (PutIfAbsent m k seven w (pos 0)) 1400 ≡ entry v None (idle 500 1900) None
a_put_if_absent_that_finds_a_value_touches = refl

a_processor_that_answers_null_touches : after forms (entry v None (idle 500 1500) None) (execute (pos 1) []) 1400 ≡ entry v None (idle 500 1900) None
a_processor_that_answers_null_touches = refl

a_look_at_the_lock_touches_nothing : after forms (entry v None (idle 500 1500) None) (IsLocked m k) 1400 ≡ entry v None (idle 500 1500) None
a_look_at_the_lock_touches_nothing = refl

locking_touches_nothing : after forms (entry v None (idle 500 1500) None) (TryLock m k seven (pos 0)) 1400 ≡ entry v None (idle 500 1500) (lock_of seven 1 None)
locking_touches_nothing = refl

a_call_that_is_kept_out_touches_nothing : after forms (entry v None (idle 500 1500) (lock_of seven 1 None)) (Put m k eight w (pos 0)) 1400 ≡ entry v None (idle 500 1500) (lock_of seven 1 None)
a_call_that_is_kept_out_touches_nothing = refl

an_unknown_processor_touches_nothing : after forms (entry v None (idle 500 1500) None) (execute (pos 6) []) 1400 ≡ entry v None (idle 500 1500) None
an_unknown_processor_touches_nothing = refl
