-- Messages between members, which the definitions of `member_wire` compute: their bytes are those that an independent program writes.
use Rattle.std.specs.Prelude.{◌≡◌, ℕ, true, false, List, [], ◌∷◌, ◌++◌, map, Ok, Err, refl}
use Rattle.partition_table.specs.declared.RowMember.{RowMember}
use Rattle.partition_table.specs.declared.Row.{Row}
use Rattle.wire_parts.specs.declared.refusal.WireRefused.{WireRefused}
use Rattle.wire_parts.specs.declared.refusal.WireRefused.TheVariants.{Short, Tag, Order, Rest}
use Rattle.wire_parts.specs.Parts.{sized_at, mark_at}
use Rattle.member_wire.specs.declared.message.MemberMessage.{MemberMessage}
use Rattle.member_wire.specs.declared.message.MemberMessage.TheVariants.{NewRow, Sync, Effect, Ack, Joined, Freeze, Frozen, Bridge}
use Rattle.member_wire.specs.Spelling.{spelling}
use Rattle.member_wire.specs.Reading.{member_at, members_at, row_at, row_message_at, sync_at, effect_at, ack_at, joined_at, freeze_at, frozen_at, bridge_at, message_at, reading}

abbrev may : ℕ → RowMember
may member = record { member = member; eligible = true }

abbrev later : ℕ → RowMember
later member = record { member = member; eligible = false }

abbrev row_of : ℕ → List RowMember → Row
row_of version members = record { version = version; reset = 0; lost = false; members = members }

-- a number below 256 in four bytes, the lowest first
abbrev four : ℕ → List ℕ
four byte = byte ∷ 0 ∷ 0 ∷ 0 ∷ []

-- what an effect of 20 bytes has: that the entry of `m` at a key goes
abbrev effect : List ℕ
effect = 2 ∷ 1 ∷ 1 ∷ 0 ∷ 0 ∷ 0 ∷ 109 ∷ 9 ∷ 0 ∷ 0 ∷ 0 ∷ 0 ∷ 0 ∷ 0 ∷ 26 ∷ 255 ∷ 255 ∷ 255 ∷ 245 ∷ 98 ∷ []

-- one message of each kind, with its bytes
abbrev messages : List (MemberMessage × List ℕ)
messages =
    (NewRow (row_of 3 (may 1 ∷ may 2 ∷ may 4 ∷ later 0 ∷ [])), 1 ∷ four 3 ++ four 0 ++ 0 ∷ 4 ∷ 1 ∷ 1 ∷ 2 ∷ 1 ∷ 4 ∷ 1 ∷ 0 ∷ 0 ∷ [])
    ∷ (Sync (row_of 6 (may 0 ∷ later 1 ∷ [])) 4 [], 2 ∷ four 6 ++ four 0 ++ (0 ∷ 2 ∷ 0 ∷ 1 ∷ 1 ∷ 0 ∷ []) ++ four 4 ++ four 0)
    ∷ (Effect 3 6 effect, 3 ∷ four 3 ++ four 6 ++ four 20 ++ effect)
    ∷ (Ack 1 3, 4 ∷ four 1 ++ four 3)
    ∷ (Joined 2 1, 5 ∷ four 2 ++ 1 ∷ [])
    ∷ (Freeze 1, 6 ∷ four 1)
    ∷ (Frozen 2, 7 ∷ four 2)
    ∷ (Bridge (row_of 4 (may 0 ∷ may 2 ∷ later 3 ∷ [])) 3 7, 8 ∷ four 4 ++ four 0 ++ (0 ∷ 3 ∷ 0 ∷ 1 ∷ 2 ∷ 1 ∷ 3 ∷ 0 ∷ []) ++ four 3 ++ four 7)
    ∷ []

messages_are_spelled : map (λ (case : MemberMessage × List ℕ). spelling case.0) messages ≡ map (λ (case : MemberMessage × List ℕ). case.1) messages
messages_are_spelled = refl

messages_are_read : map (λ (case : MemberMessage × List ℕ). reading case.1) messages ≡ map (λ (case : MemberMessage × List ℕ). Ok case.0) messages
unfolding sized_at mark_at member_at members_at row_at row_message_at sync_at effect_at ack_at joined_at freeze_at frozen_at bridge_at message_at reading
messages_are_read = refl

abbrev Refused : List (List ℕ × WireRefused) → Type 0
Refused cases = map (λ (case : List ℕ × WireRefused). reading case.0) cases ≡ map (λ (case : List ℕ × WireRefused). Err case.1) cases

-- nothing, a kind that there is not, a number that ends early, bytes after the message, and bytes that end before their length says
a_refusal_names_the_first_place_that_fails : Refused
    (([], Short 0)
    ∷ (9 ∷ [], Tag 0)
    ∷ (4 ∷ four 1 ++ 3 ∷ 0 ∷ 0 ∷ [], Short 5)
    ∷ (6 ∷ four 1 ++ 0 ∷ [], Rest 5)
    ∷ (3 ∷ four 1 ++ four 1 ++ four 2 ++ 255 ∷ [], Short 9)
    ∷ [])
unfolding sized_at mark_at member_at members_at row_at row_message_at sync_at effect_at ack_at joined_at freeze_at frozen_at bridge_at message_at reading
a_refusal_names_the_first_place_that_fails = refl

-- a row of version 2 up to its lost mark
abbrev row_begun : List ℕ
row_begun = 1 ∷ four 2 ++ four 0

-- a lost mark that there is not, a count of a lost row, of one that isn't lost and of nine members, one twice, and an eligible mark
a_row_is_refused_where_it_fails : Refused
    ((row_begun ++ 2 ∷ [], Tag 9)
    ∷ (row_begun ++ 1 ∷ 1 ∷ 0 ∷ 1 ∷ [], Order 10)
    ∷ (row_begun ++ 0 ∷ 0 ∷ [], Order 10)
    ∷ (row_begun ++ 0 ∷ 9 ∷ [], Order 10)
    ∷ (row_begun ++ 0 ∷ 2 ∷ 3 ∷ 1 ∷ 3 ∷ [], Order 13)
    ∷ (row_begun ++ 0 ∷ 2 ∷ 3 ∷ 2 ∷ [], Tag 12)
    ∷ [])
unfolding sized_at mark_at member_at members_at row_at row_message_at sync_at effect_at ack_at joined_at freeze_at frozen_at bridge_at message_at reading
a_row_is_refused_where_it_fails = refl
