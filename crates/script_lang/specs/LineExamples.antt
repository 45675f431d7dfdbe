-- Worked examples of lines, which the definitions compute.
use Rattle.std.specs.Prelude.{◌≡◌, ℕ, true, false, List, [], ◌∷◌, Result, Ok, Err, codes, refl}
use Rattle.hex.specs.Hex.{decode_pairs}
use Rattle.script_lang.specs.Lines.{line_of}
use Rattle.script_lang.specs.declared.line.Line.{Line}
use Rattle.script_lang.specs.declared.line.Line.TheVariants.{Grid, OpenConn, Arrive, Clock, Deliver, Lose, Repeat, Flow, FlowAll, Resend, Crash, Detect, Move, Join, Handover, Advance, Reopen, Rebalance, Dump, Links, Trail, Near, NearGet, NearFeed, Masters, Told, MasterDeliver, MasterLose, MasterResend, MasterFlow, Comment, End}
use Rattle.script_lang.specs.declared.refusal.LineWhy.{LineWhy}
use Rattle.script_lang.specs.declared.refusal.LineWhy.TheVariants.{Word, NoGrid, Count, Number, Hex}

-- the first line of a script, and a later one in a grid of one member
abbrev first_line : List ℕ → Result Line LineWhy
first_line text = line_of true 0 text

abbrev later_line : List ℕ → Result Line LineWhy
later_line text = line_of false 1 text

-- a later line in a grid of three members
abbrev line_of_three : List ℕ → Result Line LineWhy
line_of_three text = line_of false 3 text

-- the lines

a_grid_is_made : first_line (codes "grid 1 0 10") ≡ Ok (Grid 1 0 10)
a_grid_is_made = refl

a_queue_may_have_no_value : first_line (codes "grid 1 0 0") ≡ Ok (Grid 1 0 0)
a_queue_may_have_no_value = refl

a_queue_may_have_many_values : first_line (codes "grid 1 0 2147483647") ≡ Ok (Grid 1 0 2147483647)
a_queue_may_have_many_values = refl

a_grid_has_many_members : first_line (codes "grid 3 1 10") ≡ Ok (Grid 3 1 10)
a_grid_has_many_members = refl

a_grid_may_have_more_backups_than_members : first_line (codes "grid 1 6 10") ≡ Ok (Grid 1 6 10)
a_grid_may_have_more_backups_than_members = refl

a_client_connects : later_line (codes "open 63 0") ≡ Ok (OpenConn 63 0)
a_client_connects = refl

bytes_arrive : later_line (codes "bytes 0 43503200fF") ≡ Ok (Arrive 0 (67 ∷ 80 ∷ 50 ∷ 0 ∷ 255 ∷ []))
unfolding decode_pairs
bytes_arrive = refl

a_clock_is_set : later_line (codes "clock 0 1500") ≡ Ok (Clock 0 1500)
a_clock_is_set = refl

a_clock_shows_64_bits : later_line (codes "clock 0 18446744073709551615") ≡ Ok (Clock 0 18446744073709551615)
a_clock_shows_64_bits = refl

a_message_is_delivered : line_of_three (codes "deliver 270 0 2 7") ≡ Ok (Deliver 270 0 2 7)
a_message_is_delivered = refl

a_link_ends_at_the_service : later_line (codes "lose 0 0 1 18446744073709551615") ≡ Ok (Lose 0 0 1 18446744073709551615)
a_link_ends_at_the_service = refl

a_link_begins_at_the_service : line_of_three (codes "repeat 0 3 1 0") ≡ Ok (Repeat 0 3 1 0)
a_link_begins_at_the_service = refl

one_partition_flows : later_line (codes "flow 270 1000") ≡ Ok (Flow 270 1000)
one_partition_flows = refl

all_partitions_flow : later_line (codes "flow all 1") ≡ Ok (FlowAll 1)
all_partitions_flow = refl

the_service_sends_again : line_of_three (codes "resend 0 3") ≡ Ok (Resend 0 3)
the_service_sends_again = refl

a_member_crashes : line_of_three (codes "crash 2") ≡ Ok (Crash 2)
a_member_crashes = refl

a_crash_is_told : line_of_three (codes "detect 2") ≡ Ok (Detect 2)
a_crash_is_told = refl

a_partition_is_moved : line_of_three (codes "move 0 1 2") ≡ Ok (Move 0 1 2)
a_partition_is_moved = refl

a_member_joins : line_of_three (codes "join 0 2") ≡ Ok (Join 0 2)
a_member_joins = refl

a_partition_is_handed_over : line_of_three (codes "handover 0 1 2") ≡ Ok (Handover 0 1 2)
a_partition_is_handed_over = refl

a_move_goes_on : line_of_three (codes "advance 270") ≡ Ok (Advance 270)
a_move_goes_on = refl

a_partition_is_opened_again : line_of_three (codes "reopen 270") ≡ Ok (Reopen 270)
a_partition_is_opened_again = refl

primaries_are_planned : later_line (codes "rebalance 0") ≡ Ok (Rebalance 0)
primaries_are_planned = refl

primaries_are_dealt_out : later_line (codes "rebalance 271") ≡ Ok (Rebalance 271)
primaries_are_dealt_out = refl

a_part_is_printed : later_line (codes "dump 270 0") ≡ Ok (Dump 270 0)
a_part_is_printed = refl

messages_in_flight_are_printed : later_line (codes "links 270") ≡ Ok (Links 270)
messages_in_flight_are_printed = refl

a_history_is_printed : later_line (codes "trail 270") ≡ Ok (Trail 270)
a_history_is_printed = refl

a_near_cache_is_kept : later_line (codes "near 63 6D 100000") ≡ Ok (Near 63 (109 ∷ []) 100000)
unfolding decode_pairs
a_near_cache_is_kept = refl

a_key_is_looked_up : later_line (codes "nearget 0 00ff") ≡ Ok (NearGet 0 (0 ∷ 255 ∷ []))
unfolding decode_pairs
a_key_is_looked_up = refl

a_near_cache_is_fed : later_line (codes "nearfeed 0 1000000") ≡ Ok (NearFeed 0 1000000)
a_near_cache_is_fed = refl

masters_are_made : later_line (codes "masters") ≡ Ok Masters
masters_are_made = refl

a_member_is_told_of_a_crash : line_of_three (codes "told 2 0") ≡ Ok (Told 2 0)
a_member_is_told_of_a_crash = refl

a_message_between_masters_is_delivered : line_of_three (codes "mdeliver 270 0 2 7") ≡ Ok (MasterDeliver 270 0 2 7)
a_message_between_masters_is_delivered = refl

a_message_between_masters_is_lost : line_of_three (codes "mlose 0 3 1 18446744073709551615") ≡ Ok (MasterLose 0 3 1 18446744073709551615)
a_message_between_masters_is_lost = refl

a_master_sends_again : line_of_three (codes "mresend 270 2") ≡ Ok (MasterResend 270 2)
a_master_sends_again = refl

masters_flow : later_line (codes "mflow 270 1000") ≡ Ok (MasterFlow 270 1000)
masters_flow = refl

the_script_ends : later_line (codes "end") ≡ Ok End
the_script_ends = refl

a_comment_says_nothing : later_line (codes "# the first client") ≡ Ok Comment
a_comment_says_nothing = refl

a_comment_needs_no_space : later_line (codes "#") ≡ Ok Comment
a_comment_needs_no_space = refl

-- an unknown first word comes first

a_comment_is_no_first_line : first_line (codes "# x") ≡ Err Word
a_comment_is_no_first_line = refl

an_empty_line_has_no_word : later_line [] ≡ Err Word
an_empty_line_has_no_word = refl

an_unknown_word_comes_before_the_count : later_line (codes "opens 0 0 0") ≡ Err Word
an_unknown_word_comes_before_the_count = refl

a_word_has_no_capitals : later_line (codes "END") ≡ Err Word
a_word_has_no_capitals = refl

a_line_begins_with_no_space : later_line (codes " end") ≡ Err Word
a_line_begins_with_no_space = refl

-- then a grid's line that is not the first, or another first line

the_first_line_makes_the_grid : first_line (codes "end") ≡ Err NoGrid
the_first_line_makes_the_grid = refl

masters_come_behind_the_grid : first_line (codes "masters") ≡ Err NoGrid
masters_come_behind_the_grid = refl

a_grid_is_made_once : later_line (codes "grid 1 0 10") ≡ Err NoGrid
a_grid_is_made_once = refl

a_second_grid_comes_before_the_count : later_line (codes "grid 1") ≡ Err NoGrid
a_second_grid_comes_before_the_count = refl

-- then the number of words

the_count_comes_before_the_numbers : later_line (codes "open 64") ≡ Err Count
the_count_comes_before_the_numbers = refl

no_line_ends_with_a_space : later_line (codes "end ") ≡ Err Count
no_line_ends_with_a_space = refl

bytes_want_a_word : later_line (codes "bytes 0") ≡ Err Count
bytes_want_a_word = refl

one_space_stands_between_words : later_line (codes "open  0 0") ≡ Err Count
one_space_stands_between_words = refl

a_plan_wants_its_steps : later_line (codes "rebalance") ≡ Err Count
a_plan_wants_its_steps = refl

masters_stand_alone : later_line (codes "masters 0") ≡ Err Count
masters_stand_alone = refl

-- then the words from left to right

a_connection_is_below_64 : later_line (codes "open 64 0") ≡ Err Number
a_connection_is_below_64 = refl

the_first_word_is_looked_at_first : later_line (codes "open 64 x") ≡ Err Number
the_first_word_is_looked_at_first = refl

a_number_has_no_leading_zero : later_line (codes "open 00 0") ≡ Err Number
a_number_has_no_leading_zero = refl

a_number_has_no_sign : later_line (codes "open +1 0") ≡ Err Number
a_number_has_no_sign = refl

a_member_is_one_of_the_grid : later_line (codes "open 0 1") ≡ Err Number
a_member_is_one_of_the_grid = refl

a_moment_has_64_bits : later_line (codes "clock 0 18446744073709551616") ≡ Err Number
a_moment_has_64_bits = refl

only_a_member_has_a_clock : later_line (codes "clock 1 0") ≡ Err Number
only_a_member_has_a_clock = refl

only_a_member_has_a_part : later_line (codes "dump 0 1") ≡ Err Number
only_a_member_has_a_part = refl

a_number_comes_before_the_bytes : later_line (codes "bytes 64 zz") ≡ Err Number
a_number_comes_before_the_bytes = refl

bytes_are_digits : later_line (codes "bytes 0 zz") ≡ Err Hex
unfolding decode_pairs
bytes_are_digits = refl

a_byte_has_two_digits : later_line (codes "bytes 0 012") ≡ Err Hex
unfolding decode_pairs
a_byte_has_two_digits = refl

some_byte_arrives : later_line (codes "bytes 0 ") ≡ Err Hex
some_byte_arrives = refl

the_bytes_come_before_a_later_number : later_line (codes "near 0 zz 0") ≡ Err Hex
unfolding decode_pairs
the_bytes_come_before_a_later_number = refl

a_partition_is_below_271 : later_line (codes "trail 271") ≡ Err Number
a_partition_is_below_271 = refl

a_flow_makes_1000_deliveries_at_most : later_line (codes "flow all 1001") ≡ Err Number
a_flow_makes_1000_deliveries_at_most = refl

only_a_flow_goes_through_all : later_line (codes "trail all") ≡ Err Number
only_a_flow_goes_through_all = refl

a_plan_has_271_steps_at_most : later_line (codes "rebalance 272") ≡ Err Number
a_plan_has_271_steps_at_most = refl

steps_are_numbered : later_line (codes "rebalance all") ≡ Err Number
steps_are_numbered = refl

a_place_has_64_bits : later_line (codes "lose 0 0 1 18446744073709551616") ≡ Err Number
a_place_has_64_bits = refl

the_service_does_not_crash : line_of_three (codes "crash 3") ≡ Err Number
the_service_does_not_crash = refl

only_a_member_gets_a_partition : line_of_three (codes "handover 0 1 3") ≡ Err Number
only_a_member_gets_a_partition = refl

a_link_ends_in_the_grid : line_of_three (codes "deliver 0 0 4 0") ≡ Err Number
a_link_ends_in_the_grid = refl

a_flow_makes_a_delivery : later_line (codes "flow all 0") ≡ Err Number
a_flow_makes_a_delivery = refl

a_grid_has_8_members_at_most : first_line (codes "grid 9 0 10") ≡ Err Number
a_grid_has_8_members_at_most = refl

a_grid_has_6_backups_at_most : first_line (codes "grid 8 7 10") ≡ Err Number
a_grid_has_6_backups_at_most = refl

a_near_cache_has_an_entry : later_line (codes "near 0 6d 0") ≡ Err Number
unfolding decode_pairs
a_near_cache_has_an_entry = refl

a_near_cache_has_100000_entries_at_most : later_line (codes "near 0 6d 100001") ≡ Err Number
unfolding decode_pairs
a_near_cache_has_100000_entries_at_most = refl

a_near_cache_is_fed_a_byte : later_line (codes "nearfeed 0 0") ≡ Err Number
a_near_cache_is_fed_a_byte = refl

the_service_is_told_of_no_crash : line_of_three (codes "told 3 0") ≡ Err Number
the_service_is_told_of_no_crash = refl

only_a_member_is_a_master : line_of_three (codes "mresend 0 3") ≡ Err Number
only_a_member_is_a_master = refl

masters_flow_in_one_partition : later_line (codes "mflow all 1") ≡ Err Number
masters_flow_in_one_partition = refl
