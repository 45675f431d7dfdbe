-- Worked examples, which the definitions compute.
use Rattle.std.specs.Prelude.{◌≡◌, ℕ, pos, negsuc, List, [], ◌∷◌, ◌++◌, replicate, Ok, Err, refl}
use Rattle.std.specs.Str.{is_utf8, chars}
use lib.Utf8.{encode}
use Rattle.grid_base.specs.declared.names.ClientKey.TheVariants.{Known}
use Rattle.grid_base.specs.declared.names.Owner.{Owner}
use Rattle.grid_base.specs.declared.calls.MapCall.TheVariants.{Put, Set, PutIfAbsent, Get, ContainsKey, Remove, Delete, Replace, ReplaceIfSame, RemoveIfSame, TryLock, Unlock, IsLocked, ForceUnlock, ExecuteOnKey, PutMaxIdle, SetMaxIdle}
use Rattle.grid_base.specs.declared.refusal.CallRefused.TheVariants.{UnknownType, BadCall}
use Rattle.frame_codec.specs.declared.frames.Frame.{Frame}
use Rattle.message_frames.specs.declared.message.Message.{Message}
use Rattle.map_codecs.specs.Calls.{map_call_of}
use Rattle.map_codecs.specs.SpelledCalls.{call_message}

abbrev frame : ℕ → List ℕ → Frame
frame flags payload = record { flags = flags; payload = payload }

-- calls by thread 1 of client 7, on the map `m`
abbrev caller : Owner
caller = record { client = Known 7; thread = pos 1 }

abbrev name : List ℕ
name = 109 ∷ []

abbrev key : List ℕ
key = 0 ∷ 0 ∷ 0 ∷ 5 ∷ 255 ∷ 255 ∷ 255 ∷ 245 ∷ 107 ∷ []

abbrev value : List ℕ
value = 118 ∷ []

abbrev other : List ℕ
other = 119 ∷ []

-- a message of that method, with the correlation 2 and the partition 5
abbrev message : ℕ → List ℕ → List Frame → Message
message method fields frames = record { frames = frame 0xC000 (0 ∷ method ∷ 1 ∷ 0 ∷ 2 ∷ replicate 7 0 ++ 5 ∷ 0 ∷ 0 ∷ 0 ∷ [] ++ fields) ∷ frames }

abbrev thread : List ℕ
thread = 1 ∷ replicate 7 0

-- a number of eight bytes
abbrev number : ℕ → List ℕ
number low = low ∷ replicate 7 0

-- the frames behind the first
abbrev keyed : List Frame
keyed = frame 0 name ∷ frame 0x2000 key ∷ []

abbrev valued : List Frame
valued = frame 0 name ∷ frame 0 key ∷ frame 0x2000 value ∷ []

-- ---- each call

a_put_is_read : map_call_of (Known 7) (message 0x01 (thread ++ number 3) valued) ≡ Ok (Put name key caller value (pos 3))
unfolding map_call_of is_utf8 chars encode
a_put_is_read = refl

a_get_is_read : map_call_of (Known 7) (message 0x02 thread keyed) ≡ Ok (Get name key caller)
unfolding map_call_of is_utf8 chars encode
a_get_is_read = refl

a_remove_is_read : map_call_of (Known 7) (message 0x03 thread keyed) ≡ Ok (Remove name key caller)
unfolding map_call_of is_utf8 chars encode
a_remove_is_read = refl

a_replace_is_read : map_call_of (Known 7) (message 0x04 thread valued) ≡ Ok (Replace name key caller value)
unfolding map_call_of is_utf8 chars encode
a_replace_is_read = refl

a_replace_if_same_is_read : map_call_of (Known 7) (message 0x05 thread (frame 0 name ∷ frame 0 key ∷ frame 0 other ∷ frame 0x2000 value ∷ [])) ≡ Ok (ReplaceIfSame name key caller other value)
unfolding map_call_of is_utf8 chars encode
a_replace_if_same_is_read = refl

a_contains_key_is_read : map_call_of (Known 7) (message 0x06 thread keyed) ≡ Ok (ContainsKey name key caller)
unfolding map_call_of is_utf8 chars encode
a_contains_key_is_read = refl

a_remove_if_same_is_read : map_call_of (Known 7) (message 0x08 thread valued) ≡ Ok (RemoveIfSame name key caller value)
unfolding map_call_of is_utf8 chars encode
a_remove_if_same_is_read = refl

a_delete_is_read : map_call_of (Known 7) (message 0x09 thread keyed) ≡ Ok (Delete name key caller)
unfolding map_call_of is_utf8 chars encode
a_delete_is_read = refl

a_put_if_absent_is_read : map_call_of (Known 7) (message 0x0e (thread ++ replicate 8 255) valued) ≡ Ok (PutIfAbsent name key caller value (negsuc 0))
unfolding map_call_of is_utf8 chars encode
a_put_if_absent_is_read = refl

a_set_is_read : map_call_of (Known 7) (message 0x0f (thread ++ number 0) valued) ≡ Ok (Set name key caller value (pos 0))
unfolding map_call_of is_utf8 chars encode
a_set_is_read = refl

a_try_for_a_lock_is_read : map_call_of (Known 7) (message 0x11 (thread ++ number 9) keyed) ≡ Ok (TryLock name key caller (pos 9))
unfolding map_call_of is_utf8 chars encode
a_try_for_a_lock_is_read = refl

an_is_locked_is_read : map_call_of (Known 7) (message 0x12 [] keyed) ≡ Ok (IsLocked name key)
unfolding map_call_of is_utf8 chars encode
an_is_locked_is_read = refl

an_unlock_is_read : map_call_of (Known 7) (message 0x13 thread keyed) ≡ Ok (Unlock name key caller)
unfolding map_call_of is_utf8 chars encode
an_unlock_is_read = refl

-- the processor 258 with the argument of one byte, 7
an_execute_on_key_is_read : map_call_of (Known 7) (message 0x2e thread (frame 0 name ∷ frame 0 (2 ∷ 1 ∷ 0 ∷ 0 ∷ 7 ∷ []) ∷ frame 0x2000 key ∷ [])) ≡ Ok (ExecuteOnKey name key caller (pos 258) (7 ∷ []))
unfolding map_call_of is_utf8 chars encode
an_execute_on_key_is_read = refl

a_force_unlock_is_read : map_call_of (Known 7) (message 0x33 [] keyed) ≡ Ok (ForceUnlock name key)
unfolding map_call_of is_utf8 chars encode
a_force_unlock_is_read = refl

a_put_max_idle_is_read : map_call_of (Known 7) (message 0x60 (thread ++ number 3 ++ number 4) valued) ≡ Ok (PutMaxIdle name key caller value (pos 3) (pos 4))
unfolding map_call_of is_utf8 chars encode
a_put_max_idle_is_read = refl

a_set_max_idle_is_read : map_call_of (Known 7) (message 0x61 (thread ++ number 3 ++ number 4) valued) ≡ Ok (SetMaxIdle name key caller value (pos 3) (pos 4))
unfolding map_call_of is_utf8 chars encode
a_set_max_idle_is_read = refl

-- ---- as a client sends them

a_put_is_sent_so : call_message (pos 2) (pos 5) (Put name key caller value (pos 3)) [] [] ≡ message 0x01 (thread ++ number 3) valued
a_put_is_sent_so = refl

an_execute_on_key_is_sent_so : call_message (pos 2) (pos 5) (ExecuteOnKey name key caller (pos 258) (7 ∷ [])) [] [] ≡ message 0x2e thread (frame 0 name ∷ frame 0 (2 ∷ 1 ∷ 0 ∷ 0 ∷ 7 ∷ []) ∷ frame 0x2000 key ∷ [])
an_execute_on_key_is_sent_so = refl

-- ---- other messages

further_bytes_and_frames_are_ignored : map_call_of (Known 7) (message 0x02 (thread ++ 255 ∷ []) (frame 0 name ∷ frame 0 key ∷ frame 0x2400 (7 ∷ []) ∷ [])) ≡ Ok (Get name key caller)
unfolding map_call_of is_utf8 chars encode
further_bytes_and_frames_are_ignored = refl

a_time_to_live_is_wholly_there : map_call_of (Known 7) (message 0x01 (thread ++ replicate 7 0) valued) ≡ Err BadCall
unfolding map_call_of is_utf8 chars encode
a_time_to_live_is_wholly_there = refl

a_null_is_no_value : map_call_of (Known 7) (message 0x04 thread (frame 0 name ∷ frame 0 key ∷ frame 0x2400 value ∷ [])) ≡ Err BadCall
unfolding map_call_of is_utf8 chars encode
a_null_is_no_value = refl

a_key_has_eight_bytes : map_call_of (Known 7) (message 0x02 thread (frame 0 name ∷ frame 0x2000 (replicate 7 1) ∷ [])) ≡ Err BadCall
unfolding map_call_of is_utf8 chars encode
a_key_has_eight_bytes = refl

a_name_is_a_text : map_call_of (Known 7) (message 0x02 thread (frame 0 (255 ∷ []) ∷ frame 0x2000 key ∷ [])) ≡ Err BadCall
unfolding map_call_of is_utf8 chars encode
a_name_is_a_text = refl

a_processor_has_four_bytes : map_call_of (Known 7) (message 0x2e thread (frame 0 name ∷ frame 0 (2 ∷ 1 ∷ 0 ∷ []) ∷ frame 0x2000 key ∷ [])) ≡ Err BadCall
unfolding map_call_of is_utf8 chars encode
a_processor_has_four_bytes = refl

another_type_is_unknown : map_call_of (Known 7) (message 0x07 thread keyed) ≡ Err UnknownType
unfolding map_call_of
another_type_is_unknown = refl
