-- How a call changes a value, by the object that its partition is: the value before the call and the one after it, where they differ.
use Rattle.std.specs.Prelude.{ℕ, Option, Some, None, if◌then◌else◌, nat_eq}
use Rattle.std.specs.Option.{option_eq}
use Rattle.std.specs.Cmp.Lexicographic.{pointwise}
use Rattle.grid_base.specs.Names.{map_of, key_of}
use Rattle.grid_base.specs.Objects.{Object}
use Rattle.grid_base.specs.declared.calls.Change.{Change}
use Rattle.grid_base.specs.declared.calls.MapCall.{MapCall}
use Rattle.grid_base.specs.declared.calls.GridCall.{GridCall}
use Rattle.grid_base.specs.declared.calls.GridCall.TheVariants as call
use Rattle.grid_base.specs.declared.calls.Request.{Request}
use Rattle.map_records.specs.declared.records.MapRecord.{MapRecord}
use Rattle.map_records.specs.MapEntries.{is_expired}
use Rattle.object_store.specs.Records.{Record, entry_in}
use Rattle.object_store.specs.Partitions.{Partition, record_at}
use Rattle.call_engine.specs.Objects.{target_of}

abbrev pub entry_change : MapCall → MapRecord → MapRecord → ℕ → Option Change
entry_change c before after now =
    if option_eq (pointwise nat_eq) before.value after.value then None
    else Some (record { name = map_of c; key = key_of c; old = before.value; new = after.value; expired = is_expired before now })

-- No call on a queue changes a map's value.
abbrev pub change_between : GridCall → Record → Record → ℕ → Option Change
change_between (call.Map c) before after now = entry_change c (entry_in before) (entry_in after) now
change_between (call.Queue c) before after now = None

abbrev pub change_by : Object Request Partition → Partition → Request → ℕ → Option Change
change_by o s r now = change_between r.call (record_at s (target_of r)) (record_at (o.after s r now) (target_of r)) now
