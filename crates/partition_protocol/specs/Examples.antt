-- Worked examples, which the definitions compute. Members are numbered from 0, and the service has the number after the last.
-- On partition 5 of three members with one backup, member 2 leads and member 0 is its backup.
use Rattle.std.specs.Prelude.{◌≡◌, ℕ, zero, suc, ◌+◌, length, true, false, not, ◌&&◌, ◌==◌, List, [], ◌∷◌, ◌++◌, map, refl}
use Rattle.grid_base.specs.Objects.{Object}
use Rattle.partition_protocol.specs.Messages.{Message, Bridge, Packet}
use Rattle.partition_protocol.specs.Took.{Adopted, Synced, Applied, Bridged, Acked, Frozen, Joined, Drained, Already, Gap, Other, Stale}
use Rattle.partition_protocol.specs.Node.{Held}
use Rattle.partition_protocol.specs.Execution.{PartitionLost, WrongTarget, Migrating}
use Rattle.partition_protocol.specs.Service.{NotIdle, Lost, NotThere, NotLost, NoMember}
use Rattle.partition_protocol.specs.History.{Entry, Called, Reset}
use Rattle.partition_protocol.specs.World.{World, start, trail}
use Rattle.partition_protocol.specs.Links.{link}
use Rattle.partition_protocol.specs.Events.{Event, Call, Deliver, Lose, Repeat, Resend, Crash, Detect, BeginMove, BeginJoin, BeginHandover, Advance, Reopen, Outcome, Done, HeldAt, ReleasedAt, Refused, TookMessage, RowMadeAt, MoveIsRefused, ReopenIsRefused, happens, run}

-- a register: a call above 0 writes that number, and 0 reads. Each answers what was there
abbrev pub register : Object ℕ ℕ
register = record {
  empty = 0;
  reply = λ s c now. s ∷ [];
  after = λ s c now. elim (c == 0) [ true ↦ s | false ↦ c ];
  changes = λ s c now. not (c == 0) && not (c == s);
}

-- the partition after these events
abbrev pub after : World ℕ → List (Event ℕ) → World ℕ
after w es = run register w es

-- the outcome of each event
abbrev pub outcomes : World ℕ → List (Event ℕ) → List Outcome
outcomes w [] = []
outcomes w (e ∷ es) = let h = happens register w e in h.outcome ∷ outcomes h.world es

-- the calls that were answered, by number
abbrev pub answered : World ℕ → List ℕ
answered w = map (λ (h : Held). h.number) w.released

-- an entry of a trail: a call's number with what it replied, or the version of a reopening
pub data Line : Type 0 where
  Replied : (number : ℕ) (reply : List ℕ) → Line
  Reopened : (version : ℕ) → Line

-- an entry as it is printed
abbrev pub line : Entry ℕ → Line
line (Called x) = Replied x.number x.reply
line (Reset r) = Reopened r

-- the trail as it is printed
abbrev pub printed : World ℕ → List Line
printed w = map line (trail w)

-- the messages on a link
abbrev pub messages : ℕ → ℕ → World ℕ → List Message
messages f t w = map (λ (p : Packet). p.message) (link f t w.packets)

-- backups

a_write_waits_for_its_backup : outcomes (start 5 3 1) (Call 2 0 0 7 0 ∷ Deliver 2 0 0 ∷ Deliver 0 2 0 ∷ []) ≡ HeldAt 1 ∷ TookMessage Applied ∷ TookMessage Acked ∷ []
a_write_waits_for_its_backup = refl

an_acknowledged_write_is_answered : answered (after (start 5 3 1) (Call 2 0 0 7 0 ∷ Deliver 2 0 0 ∷ Deliver 0 2 0 ∷ [])) ≡ 0 ∷ []
an_acknowledged_write_is_answered = refl

a_read_of_an_unacknowledged_write_waits : outcomes (start 5 3 1) (Call 2 0 0 7 0 ∷ Call 2 1 1 0 0 ∷ []) ≡ HeldAt 1 ∷ HeldAt 1 ∷ []
a_read_of_an_unacknowledged_write_waits = refl

an_effect_past_a_gap_is_not_applied : outcomes (start 5 3 1) (Call 2 0 0 7 0 ∷ Call 2 0 1 8 0 ∷ Lose 2 0 0 ∷ Deliver 2 0 0 ∷ []) ≡ HeldAt 1 ∷ HeldAt 2 ∷ Done ∷ TookMessage Gap ∷ []
an_effect_past_a_gap_is_not_applied = refl

a_lost_effect_is_sent_again : outcomes (start 5 3 1) (Call 2 0 0 7 0 ∷ Lose 2 0 0 ∷ Resend 2 ∷ Deliver 2 0 0 ∷ Deliver 0 2 0 ∷ []) ≡ HeldAt 1 ∷ Done ∷ Done ∷ TookMessage Applied ∷ TookMessage Acked ∷ []
a_lost_effect_is_sent_again = refl

-- the primary crashes

-- member 2 writes and reads, and crashes before its backup has the write
abbrev pub unreplicated_write : List (Event ℕ)
unreplicated_write = Call 2 0 0 7 0 ∷ Call 2 1 1 0 0 ∷ Crash 2 ∷ Detect 2 ∷ Deliver 3 0 0 ∷ Deliver 2 0 0 ∷ Call 0 2 2 0 0 ∷ []

a_write_that_no_backup_has_goes_with_its_primary : outcomes (start 5 3 1) unreplicated_write ≡ HeldAt 1 ∷ HeldAt 1 ∷ Done ∷ RowMadeAt 2 ∷ TookMessage Adopted ∷ TookMessage Other ∷ ReleasedAt 0 ∷ []
a_write_that_no_backup_has_goes_with_its_primary = refl

so_does_the_read_that_saw_it : printed (after (start 5 3 1) unreplicated_write) ≡ Replied 2 (0 ∷ []) ∷ []
so_does_the_read_that_saw_it = refl

-- member 2 crashes after its backup has the write, and the acknowledgement is lost
abbrev pub replicated_write : List (Event ℕ)
replicated_write = Call 2 0 0 7 0 ∷ Deliver 2 0 0 ∷ Lose 0 2 0 ∷ Crash 2 ∷ Detect 2 ∷ Deliver 3 0 0 ∷ Call 0 1 1 0 0 ∷ []

a_write_that_the_backup_has_is_read_after_its_promotion : outcomes (start 5 3 1) replicated_write ≡ HeldAt 1 ∷ TookMessage Applied ∷ Done ∷ Done ∷ RowMadeAt 2 ∷ TookMessage Adopted ∷ ReleasedAt 1 ∷ []
a_write_that_the_backup_has_is_read_after_its_promotion = refl

it_stands_in_the_trail : printed (after (start 5 3 1) replicated_write) ≡ Replied 0 (0 ∷ []) ∷ Replied 1 (7 ∷ []) ∷ []
it_stands_in_the_trail = refl

-- of two backups, the one that is not promoted has two effects
abbrev pub one_backup_ahead : List (Event ℕ)
one_backup_ahead = Call 2 0 0 7 0 ∷ Call 2 0 1 8 0 ∷ Deliver 2 1 0 ∷ Deliver 2 1 0 ∷ Crash 2 ∷ Detect 2 ∷ Deliver 3 0 0 ∷ Deliver 0 1 0 ∷ []

a_backup_ahead_of_the_new_primary_is_synced_back : outcomes (start 5 3 2) one_backup_ahead ≡ HeldAt 1 ∷ HeldAt 2 ∷ TookMessage Applied ∷ TookMessage Applied ∷ Done ∷ RowMadeAt 2 ∷ TookMessage Adopted ∷ TookMessage Synced ∷ []
a_backup_ahead_of_the_new_primary_is_synced_back = refl

what_only_it_had_is_gone : printed (after (start 5 3 2) one_backup_ahead) ≡ []
what_only_it_had_is_gone = refl

-- a backup crashes, and the primary goes on in a new row

-- the write is acknowledged once and once more, and member 1, the other backup, crashes
abbrev pub a_backup_is_lost : List (Event ℕ)
a_backup_is_lost = Call 2 0 0 7 0 ∷ Deliver 2 0 0 ∷ Repeat 0 2 0 ∷ Deliver 0 2 0 ∷ Crash 1 ∷ Detect 1 ∷ Deliver 3 2 0 ∷ []

an_acknowledgement_of_an_earlier_version_does_not_count : outcomes (start 5 3 2) (a_backup_is_lost ++ Deliver 0 2 0 ∷ Deliver 2 0 0 ∷ Deliver 0 2 0 ∷ [])
    ≡ HeldAt 1 ∷ TookMessage Applied ∷ Done ∷ TookMessage Acked ∷ Done ∷ RowMadeAt 2 ∷ TookMessage Adopted ∷ TookMessage Stale ∷ TookMessage Bridged ∷ TookMessage Acked ∷ []
an_acknowledgement_of_an_earlier_version_does_not_count = refl

a_backup_that_was_heard_is_sent_a_bridge : messages 2 0 (after (start 5 3 2) a_backup_is_lost)
    ≡ Bridge (record { version = 2; reset = 0; lost = false; members = record { member = 2; eligible = true } ∷ record { member = 0; eligible = true } ∷ [] }) 1 1 ∷ []
a_backup_that_was_heard_is_sent_a_bridge = refl

-- a move from member 2 to member 1: the joiner is synced, the source freezes and drains, and the joiner leads

-- up to the word that the joiner has the contents
abbrev pub joining : List (Event ℕ)
joining = BeginMove 2 1 ∷ Deliver 3 2 0 ∷ Deliver 3 0 0 ∷ Deliver 3 1 0 ∷ Deliver 2 0 0 ∷ Deliver 2 1 0 ∷ Deliver 0 2 0 ∷ Deliver 1 2 0 ∷ Deliver 2 3 0 ∷ []

-- a write, the freeze, and a write that comes too late
abbrev pub freezing : List (Event ℕ)
freezing = Call 2 0 0 7 0 ∷ Advance ∷ Deliver 3 2 0 ∷ Call 2 0 1 8 0 ∷ []

-- the first write reaches both backups and is acknowledged
abbrev pub draining : List (Event ℕ)
draining = Deliver 2 0 0 ∷ Deliver 2 1 0 ∷ Deliver 0 2 0 ∷ Deliver 1 2 0 ∷ Deliver 2 3 0 ∷ []

-- the row in which the joiner leads reaches all
abbrev pub leading : List (Event ℕ)
leading = Advance ∷ Call 1 1 2 0 0 ∷ Deliver 3 1 0 ∷ Call 1 1 3 0 0 ∷ Deliver 3 0 0 ∷ Deliver 1 0 0 ∷ Deliver 0 1 0 ∷ Deliver 3 2 0 ∷ Call 2 0 4 9 0 ∷ []

a_joiner_is_synced_before_it_is_eligible : outcomes (start 5 3 1) joining
    ≡ RowMadeAt 2 ∷ TookMessage Adopted ∷ TookMessage Adopted ∷ TookMessage Adopted ∷ TookMessage Synced ∷ TookMessage Synced ∷ TookMessage Acked ∷ TookMessage Acked ∷ TookMessage Joined ∷ []
a_joiner_is_synced_before_it_is_eligible = refl

a_frozen_source_refuses_calls_and_answers_those_before : outcomes (after (start 5 3 1) joining) (freezing ++ draining)
    ≡ HeldAt 1 ∷ Done ∷ TookMessage Frozen ∷ Refused (Migrating 2) ∷ TookMessage Applied ∷ TookMessage Applied ∷ TookMessage Acked ∷ TookMessage Acked ∷ TookMessage Drained ∷ []
a_frozen_source_refuses_calls_and_answers_those_before = refl

the_joiner_leads_once_the_source_is_drained : outcomes (after (start 5 3 1) (joining ++ freezing ++ draining)) leading
    ≡ RowMadeAt 3 ∷ Refused (WrongTarget 2) ∷ TookMessage Adopted ∷ HeldAt 1 ∷ TookMessage Adopted ∷ TookMessage Synced ∷ TookMessage Acked ∷ TookMessage Adopted ∷ Refused (WrongTarget 3) ∷ []
the_joiner_leads_once_the_source_is_drained = refl

it_reads_what_the_source_answered : printed (after (start 5 3 1) (joining ++ freezing ++ draining ++ leading)) ≡ Replied 0 (0 ∷ []) ∷ Replied 3 (7 ∷ []) ∷ []
it_reads_what_the_source_answered = refl

-- a member crashes while the source is frozen

-- the target crashes, and the source adopts the row without it
abbrev pub thawing : List (Event ℕ)
thawing = Crash 1 ∷ Detect 1 ∷ Deliver 3 2 0 ∷ Deliver 2 0 0 ∷ Deliver 2 0 0 ∷ Deliver 2 0 0 ∷ Deliver 0 2 0 ∷ Deliver 0 2 0 ∷ Deliver 0 2 0 ∷ []

where_the_target_crashes_the_source_thaws : outcomes (after (start 5 3 1) (joining ++ freezing)) thawing
    ≡ Done ∷ RowMadeAt 3 ∷ TookMessage Adopted ∷ TookMessage Applied ∷ TookMessage Already ∷ TookMessage Bridged ∷ TookMessage Stale ∷ TookMessage Stale ∷ TookMessage Acked ∷ []
where_the_target_crashes_the_source_thaws = refl

a_thawed_source_answers : answered (after (start 5 3 1) (joining ++ freezing ++ thawing)) ≡ 0 ∷ []
a_thawed_source_answers = refl

where_the_source_crashes_its_write_stays_if_the_next_primary_has_it : printed (after (start 5 3 1) (joining ++ freezing ++ Deliver 2 0 0 ∷ Crash 2 ∷ Detect 2 ∷ Deliver 3 0 0 ∷ [])) ≡ Replied 0 (0 ∷ []) ∷ []
where_the_source_crashes_its_write_stays_if_the_next_primary_has_it = refl

and_otherwise_it_is_gone : printed (after (start 5 3 1) (joining ++ freezing ++ Crash 2 ∷ Detect 2 ∷ Deliver 3 0 0 ∷ [])) ≡ []
and_otherwise_it_is_gone = refl

where_both_crash_two_rows_are_made : outcomes (after (start 5 3 1) (joining ++ freezing)) (Crash 1 ∷ Crash 2 ∷ Detect 2 ∷ Detect 1 ∷ []) ≡ Done ∷ Done ∷ RowMadeAt 3 ∷ RowMadeAt 4 ∷ []
where_both_crash_two_rows_are_made = refl

-- a joiner is never promoted before it holds what was answered

-- a write is answered, and member 1 is to join
abbrev pub answered_write : List (Event ℕ)
answered_write = Call 2 0 0 7 0 ∷ Deliver 2 0 0 ∷ Deliver 0 2 0 ∷ BeginJoin 1 ∷ []

-- member 1 knows the row in which it joins, but hasn't the contents, and the two members that have them crash
abbrev pub joiner_alone : List (Event ℕ)
joiner_alone = answered_write ++ Deliver 3 1 0 ∷ Crash 2 ∷ Detect 2 ∷ Crash 0 ∷ Detect 0 ∷ Deliver 3 1 0 ∷ Deliver 3 1 0 ∷ Call 1 1 1 0 0 ∷ []

a_joiner_without_the_contents_is_not_promoted : outcomes (start 5 3 1) joiner_alone
    ≡ HeldAt 1 ∷ TookMessage Applied ∷ TookMessage Acked ∷ RowMadeAt 2 ∷ TookMessage Adopted ∷ Done ∷ RowMadeAt 3 ∷ Done ∷ RowMadeAt 4 ∷ TookMessage Adopted ∷ TookMessage Adopted ∷ Refused (PartitionLost 4) ∷ []
a_joiner_without_the_contents_is_not_promoted = refl

-- here the contents reach it, and then the same members crash
abbrev pub joiner_synced : List (Event ℕ)
joiner_synced =
    answered_write ++ Deliver 3 2 0 ∷ Deliver 3 1 0 ∷ Deliver 2 1 0 ∷ Deliver 1 2 0 ∷ Deliver 2 3 0 ∷ Crash 2 ∷ Detect 2 ∷ Crash 0 ∷ Detect 0
    ∷ Deliver 3 1 0 ∷ Deliver 3 1 0 ∷ Call 1 1 1 0 0 ∷ []

a_joiner_with_the_contents_is_promoted : outcomes (start 5 3 1) joiner_synced
    ≡ HeldAt 1 ∷ TookMessage Applied ∷ TookMessage Acked ∷ RowMadeAt 2 ∷ TookMessage Adopted ∷ TookMessage Adopted ∷ TookMessage Synced ∷ TookMessage Acked ∷ TookMessage Joined
    ∷ Done ∷ RowMadeAt 3 ∷ Done ∷ RowMadeAt 4 ∷ TookMessage Adopted ∷ TookMessage Adopted ∷ ReleasedAt 1 ∷ []
a_joiner_with_the_contents_is_promoted = refl

and_reads_what_was_answered : printed (after (start 5 3 1) joiner_synced) ≡ Replied 0 (0 ∷ []) ∷ Replied 1 (7 ∷ []) ∷ []
and_reads_what_was_answered = refl

-- of two members and no backup
where_only_a_joiner_remains_the_partition_is_lost : outcomes (start 5 2 0) (BeginMove 1 0 ∷ Crash 1 ∷ Detect 1 ∷ Call 0 0 0 0 0 ∷ Deliver 2 0 0 ∷ Deliver 2 0 0 ∷ Call 0 0 1 0 0 ∷ BeginMove 0 1 ∷ [])
    ≡ RowMadeAt 2 ∷ Done ∷ RowMadeAt 3 ∷ Refused (WrongTarget 1) ∷ TookMessage Adopted ∷ TookMessage Adopted ∷ Refused (PartitionLost 3) ∷ MoveIsRefused Lost ∷ []
where_only_a_joiner_remains_the_partition_is_lost = refl

-- handovers

an_eligible_backup_takes_over : outcomes (start 5 3 1) (BeginHandover 2 0 ∷ Advance ∷ Deliver 3 2 0 ∷ Deliver 2 3 0 ∷ Advance ∷ Deliver 3 0 0 ∷ Deliver 3 2 0 ∷ Call 0 0 0 0 0 ∷ Call 2 0 1 1 0 ∷ [])
    ≡ Done ∷ Done ∷ TookMessage Frozen ∷ TookMessage Drained ∷ RowMadeAt 2 ∷ TookMessage Adopted ∷ TookMessage Adopted ∷ ReleasedAt 0 ∷ Refused (WrongTarget 2) ∷ []
an_eligible_backup_takes_over = refl

one_that_is_not_there_or_while_a_move_is_under_way_does_not : outcomes (start 5 3 1) (BeginHandover 2 1 ∷ BeginMove 2 1 ∷ BeginHandover 2 0 ∷ []) ≡ MoveIsRefused NotThere ∷ RowMadeAt 2 ∷ MoveIsRefused NotIdle ∷ []
one_that_is_not_there_or_while_a_move_is_under_way_does_not = refl

-- a lost partition is reopened empty

-- the only member with contents crashes, and the partition goes on with the other
abbrev pub reopening : List (Event ℕ)
reopening = Call 1 0 0 7 0 ∷ Crash 1 ∷ Detect 1 ∷ Reopen ∷ Call 0 1 1 0 0 ∷ Deliver 2 0 1 ∷ Call 0 1 2 0 0 ∷ []

a_lost_partition_is_reopened_and_one_that_is_not_lost_stays : outcomes (start 5 2 0) (reopening ++ Deliver 2 0 0 ∷ Reopen ∷ [])
    ≡ ReleasedAt 1 ∷ Done ∷ RowMadeAt 2 ∷ RowMadeAt 3 ∷ Refused (WrongTarget 1) ∷ TookMessage Adopted ∷ ReleasedAt 0 ∷ TookMessage Stale ∷ ReopenIsRefused NotLost ∷ []
a_lost_partition_is_reopened_and_one_that_is_not_lost_stays = refl

it_is_reopened_empty : printed (after (start 5 2 0) reopening) ≡ Replied 0 (0 ∷ []) ∷ Reopened 3 ∷ Replied 2 (0 ∷ []) ∷ []
it_is_reopened_empty = refl

with_no_member_left_it_is_not_reopened : outcomes (start 5 1 0) (Crash 0 ∷ Detect 0 ∷ Reopen ∷ []) ≡ Done ∷ RowMadeAt 2 ∷ ReopenIsRefused NoMember ∷ []
with_no_member_left_it_is_not_reopened = refl

-- a primary catches a backup up by 64 effects at most

-- calls that write k + 1, k + 2 and so on
abbrev pub writes : ℕ → ℕ → List (Event ℕ)
writes zero k = []
writes (suc n) k = Call 2 0 k (k + 1) 0 ∷ writes n (k + 1)

-- so many effects are lost
abbrev pub losses : ℕ → List (Event ℕ)
losses zero = []
losses (suc n) = Lose 2 0 0 ∷ losses n

-- how many messages are sent again to a backup that lost so many effects
abbrev pub sent_after_losses : ℕ → ℕ
sent_after_losses n = length (messages 2 0 (after (start 5 3 1) (writes n 0 ++ losses n ++ Resend 2 ∷ [])))

sixty_four_lost_effects_are_sent_again : sent_after_losses 64 ≡ 64
sixty_four_lost_effects_are_sent_again = refl

with_one_more_the_contents_are_sent_whole : sent_after_losses 65 ≡ 1
with_one_more_the_contents_are_sent_whole = refl

-- what is seen of a run: the outcomes, the calls that were answered and the calls of the trail, by number. A reset stands there as 0

-- the three in one
pub record Seen : Type 0 where
  pub outcomes : List Outcome
  pub answered : List ℕ
  pub trail : List ℕ

-- a reset as 0
abbrev pub number_or_reset : Entry ℕ → ℕ
number_or_reset (Called x) = x.number
number_or_reset (Reset r) = 0

-- what is seen of a run
abbrev pub seen : World ℕ → List (Event ℕ) → Seen
seen w es = let u = after w es in record { outcomes = outcomes w es; answered = answered u; trail = map number_or_reset (trail u) }
