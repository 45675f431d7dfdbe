-- An object with what is kept of it: its name, and its record.
use Rattle.grid_base.specs.declared.names.ObjectKey.{ObjectKey}
use Rattle.grid_base.specs.declared.names.ObjectKey.TheVariants as object
use Rattle.object_store.specs.declared.store.Stored.{Stored}
use Rattle.object_store.specs.declared.store.Stored.TheVariants.{Entry, Queue}
use Rattle.object_store.specs.Records.{Record}
use Rattle.object_store.specs.Records as kept

abbrev pub name_of : Stored → ObjectKey
name_of (Entry map key entry) = object.Entry map key
name_of (Queue name items) = object.Queue name

abbrev pub record_of : Stored → Record
record_of (Entry map key entry) = kept.Map entry
record_of (Queue name items) = kept.Queue items
