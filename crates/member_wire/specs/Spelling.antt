-- The one spelling of each message, and which messages have one.
use Rattle.std.specs.Prelude.{ℕ, Bool, true, false, ◌&&◌, ◌==◌, nat_lt, nat_le, List, [], ◌∷◌, ◌++◌, length, IsTrue}
use Rattle.std.specs.List.{flat_map, AllByRecursion}
use Rattle.partition_table.specs.declared.Row.{Row}
use Rattle.partition_table.specs.declared.RowMember.{RowMember}
use Rattle.partition_table.specs.RowFacts.{HasDistinctMembers}
use Rattle.member_wire.specs.declared.message.MemberMessage.{MemberMessage}
use Rattle.member_wire.specs.declared.message.MemberMessage.TheVariants as said
use Rattle.member_wire.specs.declared.kind.Kind.{Kind}
use Rattle.member_wire.specs.declared.kind.Kind.TheVariants as kinds
use Rattle.member_wire.specs.Kinds.{kind_byte}
use Rattle.member_wire.specs.declared.message.TheConstants.{MAX_MEMBERS}
use Rattle.wire_parts.specs.Parts.{IsByte, IsNumber, number, sized, mark}

abbrev pub member_bytes : RowMember → List ℕ
member_bytes r = r.member ∷ mark r.eligible

-- a row's version, its reset, its lost mark, how many members it has, and each of them
abbrev pub row_bytes : Row → List ℕ
row_bytes row = number row.version ++ number row.reset ++ mark row.lost ++ (length row.members ∷ flat_map member_bytes row.members)

abbrev pub kind_of_message : MemberMessage → Kind
kind_of_message (said.NewRow row) = kinds.NewRow
kind_of_message (said.Sync row count snapshot) = kinds.Sync
kind_of_message (said.Effect version number' effect) = kinds.Effect
kind_of_message (said.Ack version count) = kinds.Ack
kind_of_message (said.Joined version member) = kinds.Joined
kind_of_message (said.Freeze version) = kinds.Freeze
kind_of_message (said.Frozen version) = kinds.Frozen
kind_of_message (said.Bridge row base count) = kinds.Bridge

abbrev pub field_bytes : MemberMessage → List ℕ
field_bytes (said.NewRow row) = row_bytes row
field_bytes (said.Sync row count snapshot) = row_bytes row ++ number count ++ sized snapshot
field_bytes (said.Effect version number' effect) = number version ++ number number' ++ sized effect
field_bytes (said.Ack version count) = number version ++ number count
field_bytes (said.Joined version member) = number version ++ member ∷ []
field_bytes (said.Freeze version) = number version
field_bytes (said.Frozen version) = number version
field_bytes (said.Bridge row base count) = row_bytes row ++ number base ++ number count

-- a message's kind, and then its fields
abbrev pub spelling : MemberMessage → List ℕ
spelling m = kind_byte (kind_of_message m) ∷ field_bytes m

-- What has a spelling: numbers within their ranges, and rows of 1 to 8 members, each once, or lost and of none.

-- a lost row has no members, and another row has 1 to 8
abbrev pub is_count : Bool → ℕ → Bool
is_count true count = count == 0
is_count false count = nat_lt 0 count && nat_le count MAX_MEMBERS

pub record IsSpelledRow (row : Row) : Type 0 where
  pub version : IsNumber row.version
  pub reset : IsNumber row.reset
  pub count : IsTrue (is_count row.lost (length row.members))
  pub members : AllByRecursion (λ (r : RowMember). IsByte r.member) row.members
  pub distinct : HasDistinctMembers row

abbrev pub IsSpelled : MemberMessage → Type 0
IsSpelled (said.NewRow row) = IsSpelledRow row
IsSpelled (said.Sync row count snapshot) = IsSpelledRow row × IsNumber count × IsNumber (length snapshot)
IsSpelled (said.Effect version number' effect) = IsNumber version × IsNumber number' × IsNumber (length effect)
IsSpelled (said.Ack version count) = IsNumber version × IsNumber count
IsSpelled (said.Joined version member) = IsNumber version × IsByte member
IsSpelled (said.Freeze version) = IsNumber version
IsSpelled (said.Frozen version) = IsNumber version
IsSpelled (said.Bridge row base count) = IsSpelledRow row × IsNumber base × IsNumber count

-- What the types of the fields leave open: a row's members are counted by a byte, and contents by a number.
abbrev pub LengthsFit : MemberMessage → Type 0
LengthsFit (said.NewRow row) = IsByte (length row.members)
LengthsFit (said.Sync row count snapshot) = IsByte (length row.members) × IsNumber (length snapshot)
LengthsFit (said.Effect version number' effect) = IsNumber (length effect)
LengthsFit (said.Ack version count) = Unit {0}
LengthsFit (said.Joined version member) = Unit {0}
LengthsFit (said.Freeze version) = Unit {0}
LengthsFit (said.Frozen version) = Unit {0}
LengthsFit (said.Bridge row base count) = IsByte (length row.members)
