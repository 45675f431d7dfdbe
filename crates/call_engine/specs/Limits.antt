-- The limits of requests, and how much so many of them can make a partition keep.
use Rattle.std.specs.Prelude.{◌≡◌, ℕ, ◌≤◌, length, All, IfSome, None}
use Rattle.grid_base.specs.Limits.{FitsFrame, CallFits, NumbersFit}
use Rattle.grid_base.specs.declared.names.ObjectKey.{ObjectKey}
use Rattle.grid_base.specs.declared.names.ObjectKey.TheVariants as object
use Rattle.grid_base.specs.declared.calls.Request.{Request}
use Rattle.map_records.specs.declared.records.MapRecord.{MapRecord}
use Rattle.object_store.specs.Records.{Record, Map, Queue}
use Rattle.object_store.specs.Partitions.{Partition, stored_in}
use Rattle.object_store.specs.Spelling.{IsSpelledEntry}

-- The parts of a request's call fit frames, and its numbers are those of their types.
abbrev pub RequestFits : Request → Type 0
RequestFits r = CallFits r.call × NumbersFit r.call

-- A value that isn't there has no expiry and no idle span.
pub record IsWhole (entry : MapRecord) : Type 0 where
  pub expires : entry.value ≡ None → entry.expires ≡ None
  pub idle : entry.value ≡ None → entry.idle ≡ None

pub record EntryFits (entry : MapRecord) : Type 0 where
  pub value : IfSome entry.value FitsFrame
  pub numbers : IsSpelledEntry entry
  pub whole : IsWhole entry

-- Each value of a queue came by a call of its own.
abbrev pub RecordFits : ℕ → Record → Type 0
RecordFits calls (Map entry) = EntryFits entry
RecordFits calls (Queue items) = (length items ≤ calls) × All FitsFrame items

abbrev pub NameFits : ObjectKey → Type 0
NameFits (object.Entry map key) = FitsFrame map × FitsFrame key
NameFits (object.Queue name) = FitsFrame name

-- What so many calls can make a partition keep: no more objects than calls, whose names and values fit frames.
pub record IsWithin (calls : ℕ) (s : Partition) : Type 0 where
  pub count : length (stored_in s) ≤ calls
  pub each : All (λ (stored : ObjectKey × Record). NameFits stored.0 × RecordFits calls stored.1) (stored_in s)
