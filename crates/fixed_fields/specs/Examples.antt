-- Worked examples, which the definitions compute.
use Rattle.std.specs.Prelude.{◌≡◌, ℕ, ◌+◌, ◌^◌, true, pos, negsuc, List, [], ◌∷◌, ◌++◌, replicate, Some, None, Ok, Err, refl}
use Rattle.std.specs.Str.{is_utf8, chars}
use Rattle.grid_base.specs.declared.calls.Answer.TheVariants.{Flag, Number, Maybe, KeyLocked}
use Rattle.frame_codec.specs.declared.frames.Frame.{Frame}
use Rattle.fixed_fields.specs.declared.refusal.FieldRefused.TheVariants.{NoFrame, NotUtf8}
use Rattle.fixed_fields.specs.Fields.{byte_at, int32_at, int64_at, uuid_at, uuid_bytes}
use Rattle.fixed_fields.specs.Replies.{reply_bytes}
use Rattle.fixed_fields.specs.Frames.{next_nullable, next_data, next_text, next_structure}

-- numbers

the_low_byte_comes_first : int32_at (0 ∷ 1 ∷ 2 ∷ 0 ∷ 0 ∷ []) 1 ≡ Some (pos 513)
the_low_byte_comes_first = refl

all_ones_are_minus_one : int64_at (replicate 8 255) 0 ≡ Some (negsuc 0)
all_ones_are_minus_one = refl

the_payload_ends_within_the_number : int32_at (1 ∷ 2 ∷ 0 ∷ 0 ∷ []) 1 ≡ None
the_payload_ends_within_the_number = refl

no_place_wraps_around : byte_at (1 ∷ 2 ∷ []) (2 ^ 64) ≡ None
no_place_wraps_around = refl

-- UUIDs

the_high_half_comes_first : uuid_at (0 ∷ 1 ∷ replicate 7 0 ++ 7 ∷ replicate 7 0) 0 ≡ Some (Some (2 ^ 64 + 7))
the_high_half_comes_first = refl

any_byte_but_0_says_that_there_is_none : uuid_at (2 ∷ replicate 16 9) 0 ≡ Some None
any_byte_but_0_says_that_there_is_none = refl

no_uuid_has_17_bytes_too : uuid_at (1 ∷ replicate 15 0) 0 ≡ None
no_uuid_has_17_bytes_too = refl

zeros_stand_for_no_uuid : uuid_bytes None ≡ 1 ∷ 0 ∷ 0 ∷ 0 ∷ 0 ∷ 0 ∷ 0 ∷ 0 ∷ 0 ∷ 0 ∷ 0 ∷ 0 ∷ 0 ∷ 0 ∷ 0 ∷ 0 ∷ 0 ∷ []
zeros_stand_for_no_uuid = refl

-- frames

abbrev pub frame : ℕ → List ℕ → Frame
frame flags payload = record { flags = flags; payload = payload }

abbrev pub plain_frame : Frame
plain_frame = frame 0 (100 ∷ [])

abbrev pub null_frame : Frame
null_frame = frame 0x0400 (100 ∷ [])

abbrev pub begin_frame : Frame
begin_frame = frame 0x1000 []

abbrev pub end_frame : Frame
end_frame = frame 0x0800 []

abbrev pub frame_of_both : Frame
frame_of_both = frame 0x1800 []

data_is_the_payload : next_data (plain_frame ∷ []) ≡ Ok (100 ∷ [])
data_is_the_payload = refl

the_payload_of_a_null_is_ignored : next_nullable (null_frame ∷ []) ≡ Ok None
the_payload_of_a_null_is_ignored = refl

a_null_is_no_data : next_data (null_frame ∷ plain_frame ∷ []) ≡ Err NoFrame
a_null_is_no_data = refl

an_end_frame_is_no_data : next_data (end_frame ∷ plain_frame ∷ []) ≡ Err NoFrame
an_end_frame_is_no_data = refl

the_final_flag_changes_nothing : next_data (frame 0x2000 (7 ∷ []) ∷ []) ≡ Ok (7 ∷ [])
the_final_flag_changes_nothing = refl

a_lone_continuation_byte_is_no_text : next_text (frame 0 (0x80 ∷ []) ∷ []) ≡ Err NotUtf8
unfolding is_utf8 chars
a_lone_continuation_byte_is_no_text = refl

-- structures

the_end_of_the_nested_one_is_passed_over : next_structure (begin_frame ∷ begin_frame ∷ end_frame ∷ plain_frame ∷ end_frame ∷ null_frame ∷ []) ≡ Ok (null_frame ∷ [])
the_end_of_the_nested_one_is_passed_over = refl

one_end_is_missing : next_structure (begin_frame ∷ begin_frame ∷ end_frame ∷ plain_frame ∷ []) ≡ Err NoFrame
one_end_is_missing = refl

a_frame_with_both_flags_opens : next_structure (begin_frame ∷ frame_of_both ∷ end_frame ∷ end_frame ∷ []) ≡ Ok []
a_frame_with_both_flags_opens = refl

a_plain_frame_is_no_structure : next_structure (plain_frame ∷ begin_frame ∷ end_frame ∷ []) ≡ Err NoFrame
a_plain_frame_is_no_structure = refl

-- answers

abbrev correlation_2 : List ℕ
correlation_2 = 2 ∷ replicate 7 0

a_null_answers_a_put : reply_bytes 0x010100 (pos 2) (Maybe None) ≡ 19 ∷ 0 ∷ 0 ∷ 0 ∷ 0 ∷ 192 ∷ 1 ∷ 1 ∷ 1 ∷ 0 ∷ correlation_2 ++ 0 ∷ 6 ∷ 0 ∷ 0 ∷ 0 ∷ 0 ∷ 36 ∷ []
a_null_answers_a_put = refl

a_value_answers_a_get : reply_bytes 0x010200 (pos 2) (Maybe (Some (118 ∷ []))) ≡ 19 ∷ 0 ∷ 0 ∷ 0 ∷ 0 ∷ 192 ∷ 1 ∷ 2 ∷ 1 ∷ 0 ∷ correlation_2 ++ 0 ∷ 7 ∷ 0 ∷ 0 ∷ 0 ∷ 0 ∷ 32 ∷ 118 ∷ []
a_value_answers_a_get = refl

a_flag_is_a_byte : reply_bytes 0x010500 (pos 2) (Flag true) ≡ 20 ∷ 0 ∷ 0 ∷ 0 ∷ 0 ∷ 224 ∷ 1 ∷ 5 ∷ 1 ∷ 0 ∷ correlation_2 ++ 0 ∷ 1 ∷ []
a_flag_is_a_byte = refl

a_number_has_four_bytes : reply_bytes 0x030300 (pos 2) (Number 258) ≡ 23 ∷ 0 ∷ 0 ∷ 0 ∷ 0 ∷ 224 ∷ 1 ∷ 3 ∷ 3 ∷ 0 ∷ correlation_2 ++ 0 ∷ 2 ∷ 1 ∷ 0 ∷ 0 ∷ []
a_number_has_four_bytes = refl

an_error_has_type_0 : reply_bytes 0x010100 (pos 2) KeyLocked ≡ 31 ∷ 0 ∷ 0 ∷ 0 ∷ 0 ∷ 224 ∷ replicate 4 0 ++ correlation_2 ++ 0 ∷ 11 ∷ 0 ∷ 0 ∷ 0 ∷ replicate 8 0
an_error_has_type_0 = refl
