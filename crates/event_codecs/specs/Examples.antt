-- Worked examples, which the definitions compute.
use Rattle.std.specs.Prelude.{◌≡◌, ℕ, pos, true, false, List, [], ◌∷◌, ◌++◌, replicate, Some, None, Ok, Err, refl}
use Rattle.std.specs.Int.{w32, to_le_bytes}
use Rattle.std.specs.Str.{is_utf8, chars}
use lib.Utf8.{encode}
use Rattle.grid_base.specs.declared.calls.Change.{Change}
use Rattle.grid_base.specs.declared.refusal.CallRefused.TheVariants.{UnknownType, BadCall}
use Rattle.frame_codec.specs.Laws.{spelled}
use Rattle.frame_codec.specs.declared.frames.Frame.{Frame}
use Rattle.fixed_fields.specs.Spelled.{request_head}
use Rattle.message_frames.specs.declared.message.Message.{Message}
use Rattle.partition_table.specs.Rows.{eligible_member}
use Rattle.partition_table.specs.declared.Row.{Row}
use Rattle.event_codecs.specs.Events.{event_of, entry_kind, invalidation_kind, rows_kind}
use Rattle.event_codecs.specs.Writing.{frame, kind_of_change, entry_frames, invalidation_frames, rows_frames}
use Rattle.event_codecs.specs.declared.events.ClientEvent.TheVariants.{Entry, Rows}
use Rattle.event_codecs.specs.declared.seen.SeenRow.{SeenRow}

-- ---- what is written

abbrev key : List ℕ
key = 0 ∷ 0 ∷ 0 ∷ 5 ∷ 255 ∷ 255 ∷ 255 ∷ 245 ∷ 107 ∷ []

abbrev v : List ℕ
v = 118 ∷ []

abbrev w : List ℕ
w = 119 ∷ []

-- the map `m`
abbrev m : List ℕ
m = 109 ∷ []

-- the value at the key changes from `v` to `w`, which is an update also where `v` had expired
abbrev update : Change
update = record { name = m; key = key; old = Some v; new = Some w; expired = true }

an_update_has_kind_4 : kind_of_change update ≡ 4
an_update_has_kind_4 = refl

a_first_value_has_kind_1 : kind_of_change (record update { old = None }) ≡ 1
a_first_value_has_kind_1 = refl

an_expired_value_has_kind_16 : kind_of_change (record update { new = None }) ≡ 16
an_expired_value_has_kind_16 = refl

a_removed_value_has_kind_2 : kind_of_change (record update { new = None; expired = false }) ≡ 2
a_removed_value_has_kind_2 = refl

abbrev keyed : List ℕ
keyed = 15 ∷ 0 ∷ 0 ∷ 0 ∷ 0 ∷ 0 ∷ key

-- the correlation 6 and the partition 5
abbrev placed : List ℕ
placed = 6 ∷ replicate 7 0 ++ 5 ∷ 0 ∷ 0 ∷ 0 ∷ []

an_update_is_written_so : spelled (entry_frames (pos 6) 5 update true)
    ≡ (26 ∷ 0 ∷ 0 ∷ 0 ∷ 0 ∷ 194 ∷ 2 ∷ 25 ∷ 1 ∷ 0 ∷ placed) ++ (4 ∷ 0 ∷ 0 ∷ 0 ∷ keyed) ++ (7 ∷ 0 ∷ 0 ∷ 0 ∷ 0 ∷ 0 ∷ w) ++ (7 ∷ 0 ∷ 0 ∷ 0 ∷ 0 ∷ 32 ∷ v)
an_update_is_written_so = refl

without_values_both_are_null : spelled (entry_frames (pos 6) 5 update false)
    ≡ (26 ∷ 0 ∷ 0 ∷ 0 ∷ 0 ∷ 194 ∷ 2 ∷ 25 ∷ 1 ∷ 0 ∷ placed) ++ (4 ∷ 0 ∷ 0 ∷ 0 ∷ keyed) ++ (6 ∷ 0 ∷ 0 ∷ 0 ∷ 0 ∷ 4 ∷ []) ++ (6 ∷ 0 ∷ 0 ∷ 0 ∷ 0 ∷ 36 ∷ [])
without_values_both_are_null = refl

an_invalidation_is_written_so : spelled (invalidation_frames (pos 6) 5 1 3 m v)
    ≡ (30 ∷ 0 ∷ 0 ∷ 0 ∷ 0 ∷ 194 ∷ 2 ∷ 63 ∷ 1 ∷ 0 ∷ placed) ++ (1 ∷ 0 ∷ 0 ∷ 0 ∷ 3 ∷ 0 ∷ 0 ∷ 0 ∷ [])
    ++ (7 ∷ 0 ∷ 0 ∷ 0 ∷ 0 ∷ 0 ∷ m) ++ (7 ∷ 0 ∷ 0 ∷ 0 ∷ 0 ∷ 32 ∷ v)
an_invalidation_is_written_so = refl

-- partition 5 in version 2, led by member 2 with member 0 for its backup
abbrev row : Row
row = record { version = 2; reset = 0; lost = false; members = eligible_member 2 ∷ eligible_member 0 ∷ [] }

rows_are_written_so : spelled (rows_frames (pos 9) ((5, row) ∷ []))
    ≡ (22 ∷ 0 ∷ 0 ∷ 0 ∷ 0 ∷ 194 ∷ 3 ∷ 3 ∷ 0 ∷ 0 ∷ 9 ∷ replicate 7 0 ++ replicate 4 255) ++ (6 ∷ 0 ∷ 0 ∷ 0 ∷ 0 ∷ 16 ∷ [])
    ++ (18 ∷ 0 ∷ 0 ∷ 0 ∷ 0 ∷ 0 ∷ 5 ∷ 0 ∷ 0 ∷ 0 ∷ 2 ∷ 0 ∷ 0 ∷ 0 ∷ 0 ∷ 2 ∷ 2 ∷ 0 ∷ []) ++ (6 ∷ 0 ∷ 0 ∷ 0 ∷ 0 ∷ 40 ∷ [])
rows_are_written_so = refl

-- ---- what is read

-- a message of that type, with the correlation 6 and the partition 5
abbrev message : ℕ → List ℕ → List Frame → Message
message kind fields frames = record { frames = frame 0xC200 (request_head kind (pos 6) (pos 5) ++ fields) ∷ frames }

abbrev four : List ℕ
four = to_le_bytes w32 4

a_value_may_be_null : event_of (message entry_kind four (frame 0 key ∷ frame 0 w ∷ frame 0x2400 v ∷ [])) ≡ Ok (Entry (pos 6) (pos 5) (pos 4) key (Some w) None)
unfolding event_of
a_value_may_be_null = refl

a_key_may_not : event_of (message entry_kind four (frame 0x0400 key ∷ frame 0 w ∷ frame 0x2000 v ∷ [])) ≡ Err BadCall
unfolding event_of
a_key_may_not = refl

a_key_has_eight_bytes : event_of (message entry_kind four (frame 0 (replicate 7 1) ∷ frame 0 w ∷ frame 0x2000 v ∷ [])) ≡ Err BadCall
unfolding event_of
a_key_has_eight_bytes = refl

further_bytes_and_frames_are_ignored : event_of (message entry_kind (four ++ 7 ∷ []) (frame 0 key ∷ frame 0 w ∷ frame 0 v ∷ frame 0x1000 [] ∷ []))
    ≡ Ok (Entry (pos 6) (pos 5) (pos 4) key (Some w) (Some v))
unfolding event_of
further_bytes_and_frames_are_ignored = refl

a_number_is_wholly_there : event_of (message invalidation_kind (four ++ replicate 3 0) (frame 0 m ∷ frame 0x2000 key ∷ [])) ≡ Err BadCall
unfolding event_of
a_number_is_wholly_there = refl

a_name_is_a_text : event_of (message invalidation_kind (four ++ four) (frame 0 (255 ∷ []) ∷ frame 0x2000 key ∷ [])) ≡ Err BadCall
unfolding event_of is_utf8 chars encode
a_name_is_a_text = refl

-- a frame of partition 5 in version 4, lost, without members
abbrev lost_row : List ℕ
lost_row = 5 ∷ 0 ∷ 0 ∷ 0 ∷ 4 ∷ 0 ∷ 0 ∷ 0 ∷ 1 ∷ 0 ∷ []

abbrev lost : SeenRow
lost = record { partition = 5; version = 4; lost = true; members = [] }

-- a list of frames that hold these bytes
abbrev list : List Frame → List Frame
list inside = frame 0x1000 [] ∷ inside ++ frame 0x2800 [] ∷ []

rows_may_state_any_partition : event_of (message rows_kind [] (list (frame 0 lost_row ∷ []))) ≡ Ok (Rows (pos 6) (lost ∷ []))
unfolding event_of
rows_may_state_any_partition = refl

there_may_be_no_rows : event_of (message rows_kind [] (list [])) ≡ Ok (Rows (pos 6) [])
unfolding event_of
there_may_be_no_rows = refl

a_list_is_ended : event_of (message rows_kind [] (frame 0x1000 [] ∷ frame 0x2000 lost_row ∷ [])) ≡ Err BadCall
unfolding event_of
a_list_is_ended = refl

-- a frame with both flags of structures begins a list, and ends none
a_list_has_no_other_in_it : event_of (message rows_kind [] (frame 0x1800 [] ∷ frame 0x1800 [] ∷ frame 0x0800 [] ∷ frame 0x2800 [] ∷ [])) ≡ Err BadCall
unfolding event_of
a_list_has_no_other_in_it = refl

a_row_is_not_null : event_of (message rows_kind [] (list (frame 0x0400 lost_row ∷ []))) ≡ Err BadCall
unfolding event_of
a_row_is_not_null = refl

a_row_has_as_many_members_as_it_says : event_of (message rows_kind [] (list (frame 0 (lost_row ++ 2 ∷ []) ∷ []))) ≡ Err BadCall
unfolding event_of
a_row_has_as_many_members_as_it_says = refl

partition_271_is_none : event_of (message rows_kind [] (list (frame 0 (15 ∷ 1 ∷ 0 ∷ 0 ∷ 4 ∷ 0 ∷ 0 ∷ 0 ∷ 1 ∷ 0 ∷ []) ∷ []))) ≡ Err BadCall
unfolding event_of
partition_271_is_none = refl

a_mark_is_0_or_1 : event_of (message rows_kind [] (list (frame 0 (5 ∷ 0 ∷ 0 ∷ 0 ∷ 4 ∷ 0 ∷ 0 ∷ 0 ∷ 2 ∷ 0 ∷ []) ∷ []))) ≡ Err BadCall
unfolding event_of
a_mark_is_0_or_1 = refl

another_type_is_unknown : event_of (message 0x011903 four (frame 0 key ∷ frame 0 w ∷ frame 0x2000 v ∷ [])) ≡ Err UnknownType
unfolding event_of
another_type_is_unknown = refl
