-- What the shelf of a partition is to its users: the object that its settings make it, and the bytes of effects and partitions.
use Rattle.grid_base.specs.Shelves.{ShelfModel}
use Rattle.grid_base.specs.declared.calls.Request.{Request}
use Rattle.object_store.specs.Partitions.{Partition, nothing_stored}
use Rattle.object_store.specs.Spelling.{snapshot_bytes}
use Rattle.call_engine.specs.Calls.{Settings}
use Rattle.call_engine.specs.Changes.{change_of}
use Rattle.call_engine.specs.Effects.{effect_of, applied}
use Rattle.call_engine.specs.Limits.{RequestFits, IsWithin}
use Rattle.call_engine.specs.Objects.{partition_object}

-- A shelf's state is its partition.
abbrev pub partition_shelf : ShelfModel Partition Settings Request Partition
partition_shelf = record {
  state = λ s. s;
  empty_state = nothing_stored;
  object = partition_object;
  effect_of = effect_of;
  change_of = change_of;
  within_limits = RequestFits;
  within = IsWithin;
  applied = applied;
  snapshot_of = snapshot_bytes;
}
