-- What a partition's shelves mean in a grid.
use Rattle.grid_base.specs.declared.calls.Request.{Request}
use Rattle.grid_base.specs.Shelves.{Meaning, meaning}
use Rattle.object_store.specs.Partitions.{Partition}
use Rattle.call_engine.specs.declared.shelf.GridShelf.{GridShelf}
use Rattle.call_engine.specs.Calls.{Settings}
use Rattle.call_engine.specs.Shelves.{partition_shelf}

-- what the shelves mean, by the settings
abbrev pub grid_meaning : Settings → Meaning GridShelf Request Partition
grid_meaning = meaning partition_shelf
