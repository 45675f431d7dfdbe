-- How a call changes a value that is kept: for those who listen.
use Rattle.std.specs.Prelude.{ℕ, Option, Some, None, if◌then◌else◌, nat_eq}
use Rattle.std.specs.Option.{option_eq}
use Rattle.std.specs.Cmp.Lexicographic.{pointwise}
use Rattle.grid_base.specs.Names.{map_of, key_of, object_of}
use Rattle.grid_base.specs.declared.calls.Change.{Change}
use Rattle.grid_base.specs.declared.calls.MapCall.{MapCall}
use Rattle.grid_base.specs.declared.calls.GridCall.{GridCall}
use Rattle.grid_base.specs.declared.calls.GridCall.TheVariants as call
use Rattle.grid_base.specs.declared.calls.Request.{Request}
use Rattle.map_records.specs.declared.records.MapRecord.{MapRecord}
use Rattle.map_records.specs.MapEntries.{is_expired}
use Rattle.map_records.specs.MapTable as entries
use Rattle.object_store.specs.Records.{Record, entry_in}
use Rattle.object_store.specs.Partitions.{Partition, record_at}
use Rattle.call_engine.specs.Calls.{Settings}

-- The value that was kept, expired or not, and the one that is left, where they differ. No call on a queue changes a map's value.
abbrev pub map_change : Settings → MapRecord → MapCall → ℕ → Option Change
map_change settings entry c now =
    let next = entries.after settings.forms entry c now in
    if option_eq (pointwise nat_eq) entry.value next.value then None
    else Some (record { name = map_of c; key = key_of c; old = entry.value; new = next.value; expired = is_expired entry now })

abbrev pub change_on : Settings → Record → GridCall → ℕ → Option Change
change_on settings kept (call.Map c) now = map_change settings (entry_in kept) c now
change_on settings kept (call.Queue c) now = None

abbrev pub change_of : Settings → Partition → Request → ℕ → Option Change
change_of settings s r now = change_on settings (record_at s (object_of r.call)) r.call now
