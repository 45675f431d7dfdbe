-- Reading a message from left to right: the message and the place behind it, or the first fault.
use Rattle.std.specs.Prelude.{ℕ, zero, suc, Bool, not, List, [], ◌∷◌, ◌++◌, map, Option, Some, None, Result, Ok, Err, if◌then◌else◌}
use Rattle.std.specs.Int.{w32}
use Rattle.partition_table.specs.declared.Row.{Row}
use Rattle.partition_table.specs.declared.RowMember.{RowMember}
use Rattle.partition_table.specs.Rows.{is_among, number_of}
use Rattle.member_wire.specs.declared.message.MemberMessage.{MemberMessage}
use Rattle.member_wire.specs.declared.message.MemberMessage.TheVariants as said
use Rattle.wire_parts.specs.declared.refusal.WireRefused.{WireRefused}
use Rattle.wire_parts.specs.declared.refusal.WireRefused.TheVariants.{Tag, Order}
use Rattle.member_wire.specs.declared.kind.Kind.{Kind}
use Rattle.member_wire.specs.declared.kind.Kind.TheVariants as kinds
use Rattle.member_wire.specs.Kinds.{kind_of}
use Rattle.wire_parts.specs.Places.{Place, start}
use Rattle.member_wire.specs.Spelling.{is_count}
use Rattle.wire_parts.specs.Parts.{◌>>=◌, byte_at, number_at, sized_at, mark_at, end_at}

-- a byte that has to pass a test, and is out of order where it doesn't
abbrev pub fitting_at : (ℕ → Bool) → Place → Result (ℕ × Place) WireRefused
fitting_at fits p = do
  byte ← byte_at p
  if fits byte.0 then Ok byte else Err (Order p.at)

-- no member stands twice in a row
abbrev pub is_new : List RowMember → ℕ → Bool
is_new listed member = not (is_among (map number_of listed) member)

-- the next member of a row that has these already
unfoldable pub member_at : List RowMember → Place → Result (RowMember × Place) WireRefused
member_at listed p = do
  member ← fitting_at (is_new listed) p
  eligible ← mark_at member.1
  Ok (record { member = member.0; eligible = eligible.0 }, eligible.1)

-- so many more members of a row that has these already
unfoldable pub members_at : List RowMember → ℕ → Place → Result (List RowMember × Place) WireRefused
members_at listed zero p = Ok (listed, p)
members_at listed (suc count) p = do
  member ← member_at listed p
  members_at (listed ++ member.0 ∷ []) count member.1

unfoldable pub row_at : Place → Result (Row × Place) WireRefused
row_at p = do
  version ← number_at w32 p
  reset ← number_at w32 version.1
  lost ← mark_at reset.1
  count ← fitting_at (is_count lost.0) lost.1
  members ← members_at [] count.0 count.1
  Ok (record { version = version.0; reset = reset.0; lost = lost.0; members = members.0 }, members.1)

unfoldable pub row_message_at : Place → Result (MemberMessage × Place) WireRefused
row_message_at p = do
  row ← row_at p
  Ok (said.NewRow row.0, row.1)

unfoldable pub sync_at : Place → Result (MemberMessage × Place) WireRefused
sync_at p = do
  row ← row_at p
  count ← number_at w32 row.1
  snapshot ← sized_at count.1
  Ok (said.Sync row.0 count.0 snapshot.0, snapshot.1)

unfoldable pub effect_at : Place → Result (MemberMessage × Place) WireRefused
effect_at p = do
  version ← number_at w32 p
  number ← number_at w32 version.1
  effect ← sized_at number.1
  Ok (said.Effect version.0 number.0 effect.0, effect.1)

unfoldable pub ack_at : Place → Result (MemberMessage × Place) WireRefused
ack_at p = do
  version ← number_at w32 p
  count ← number_at w32 version.1
  Ok (said.Ack version.0 count.0, count.1)

unfoldable pub joined_at : Place → Result (MemberMessage × Place) WireRefused
joined_at p = do
  version ← number_at w32 p
  member ← byte_at version.1
  Ok (said.Joined version.0 member.0, member.1)

unfoldable pub freeze_at : Place → Result (MemberMessage × Place) WireRefused
freeze_at p = do
  version ← number_at w32 p
  Ok (said.Freeze version.0, version.1)

unfoldable pub frozen_at : Place → Result (MemberMessage × Place) WireRefused
frozen_at p = do
  version ← number_at w32 p
  Ok (said.Frozen version.0, version.1)

unfoldable pub bridge_at : Place → Result (MemberMessage × Place) WireRefused
bridge_at p = do
  row ← row_at p
  base ← number_at w32 row.1
  count ← number_at w32 base.1
  Ok (said.Bridge row.0 base.0 count.0, count.1)

-- the kind of a message, whose byte has to be that of one
abbrev pub known_kind : ℕ → Option Kind → Place → Result (Kind × Place) WireRefused
known_kind at None p = Err (Tag at)
known_kind at (Some kind) p = Ok (kind, p)

abbrev pub kind_at : Place → Result (Kind × Place) WireRefused
kind_at p = do
  byte ← byte_at p
  known_kind p.at (kind_of byte.0) byte.1

abbrev pub fields_at : Kind → Place → Result (MemberMessage × Place) WireRefused
fields_at kinds.NewRow p = row_message_at p
fields_at kinds.Sync p = sync_at p
fields_at kinds.Effect p = effect_at p
fields_at kinds.Ack p = ack_at p
fields_at kinds.Joined p = joined_at p
fields_at kinds.Freeze p = freeze_at p
fields_at kinds.Frozen p = frozen_at p
fields_at kinds.Bridge p = bridge_at p

unfoldable pub message_at : Place → Result (MemberMessage × Place) WireRefused
message_at p = do
  kind ← kind_at p
  fields_at kind.0 kind.1

-- the message that the bytes are, all of them
unfoldable pub reading : List ℕ → Result MemberMessage WireRefused
reading bytes = do
  message ← message_at (start bytes)
  end ← end_at message.1
  Ok message.0
