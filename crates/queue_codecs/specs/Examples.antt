-- Worked examples, which the definitions compute.
use Rattle.std.specs.Prelude.{◌≡◌, ℕ, pos, List, [], ◌∷◌, ◌++◌, replicate, Ok, Err, refl}
use Rattle.std.specs.Str.{is_utf8, chars}
use lib.Utf8.{encode}
use Rattle.grid_base.specs.declared.calls.QueueCall.TheVariants.{Offer, Poll, Peek, Size, RemainingCapacity, Clear}
use Rattle.grid_base.specs.declared.refusal.CallRefused.TheVariants.{UnknownType, BadCall}
use Rattle.frame_codec.specs.declared.frames.Frame.{Frame}
use Rattle.message_frames.specs.declared.message.Message.{Message}
use Rattle.queue_codecs.specs.Calls.{queue_call_of}
use Rattle.queue_codecs.specs.SpelledCalls.{call_message}

abbrev frame : ℕ → List ℕ → Frame
frame flags payload = record { flags = flags; payload = payload }

-- the queue `q`
abbrev name : List ℕ
name = 113 ∷ []

abbrev value : List ℕ
value = 118 ∷ []

-- a message of that method in a partition, with the correlation 2
abbrev message : ℕ → List ℕ → List Frame → Message
message method partition frames = record { frames = frame 0xC000 (0 ∷ method ∷ 3 ∷ 0 ∷ 2 ∷ replicate 7 0 ++ partition) ∷ frames }

abbrev partition_5 : List ℕ
partition_5 = 5 ∷ 0 ∷ 0 ∷ 0 ∷ []

abbrev named : List Frame
named = frame 0x2000 name ∷ []

-- ---- each call

an_offer_is_read : queue_call_of (message 0x01 partition_5 (frame 0 name ∷ frame 0x2000 value ∷ [])) ≡ Ok (Offer name value)
unfolding queue_call_of is_utf8 chars encode
an_offer_is_read = refl

a_size_is_read : queue_call_of (message 0x03 partition_5 named) ≡ Ok (Size name)
unfolding queue_call_of is_utf8 chars encode
a_size_is_read = refl

a_poll_is_read : queue_call_of (message 0x05 partition_5 named) ≡ Ok (Poll name)
unfolding queue_call_of is_utf8 chars encode
a_poll_is_read = refl

a_peek_is_read : queue_call_of (message 0x07 partition_5 named) ≡ Ok (Peek name)
unfolding queue_call_of is_utf8 chars encode
a_peek_is_read = refl

a_clear_is_read : queue_call_of (message 0x0f partition_5 named) ≡ Ok (Clear name)
unfolding queue_call_of is_utf8 chars encode
a_clear_is_read = refl

a_remaining_capacity_is_read : queue_call_of (message 0x13 partition_5 named) ≡ Ok (RemainingCapacity name)
unfolding queue_call_of is_utf8 chars encode
a_remaining_capacity_is_read = refl

-- ---- as a client sends them

an_offer_is_sent_so : call_message (pos 2) 5 (Offer name value) [] [] ≡ message 0x01 partition_5 (frame 0 name ∷ frame 0x2000 value ∷ [])
an_offer_is_sent_so = refl

-- ---- other messages

further_bytes_and_frames_are_ignored : queue_call_of (message 0x05 (partition_5 ++ 7 ∷ []) (frame 0 name ∷ frame 0x2400 [] ∷ [])) ≡ Ok (Poll name)
unfolding queue_call_of is_utf8 chars encode
further_bytes_and_frames_are_ignored = refl

partition_270_is_the_last : queue_call_of (message 0x05 (14 ∷ 1 ∷ 0 ∷ 0 ∷ []) named) ≡ Ok (Poll name)
unfolding queue_call_of is_utf8 chars encode
partition_270_is_the_last = refl

there_is_no_partition_271 : queue_call_of (message 0x05 (15 ∷ 1 ∷ 0 ∷ 0 ∷ []) named) ≡ Err BadCall
unfolding queue_call_of is_utf8 chars encode
there_is_no_partition_271 = refl

there_is_none_below_0 : queue_call_of (message 0x05 (replicate 4 255) named) ≡ Err BadCall
unfolding queue_call_of is_utf8 chars encode
there_is_none_below_0 = refl

an_offer_has_a_value : queue_call_of (message 0x01 partition_5 named) ≡ Err BadCall
unfolding queue_call_of is_utf8 chars encode
an_offer_has_a_value = refl

a_name_is_a_text : queue_call_of (message 0x05 partition_5 (frame 0x2000 (255 ∷ []) ∷ [])) ≡ Err BadCall
unfolding queue_call_of is_utf8 chars encode
a_name_is_a_text = refl

another_type_is_unknown : queue_call_of (message 0x02 partition_5 named) ≡ Err UnknownType
unfolding queue_call_of
another_type_is_unknown = refl
