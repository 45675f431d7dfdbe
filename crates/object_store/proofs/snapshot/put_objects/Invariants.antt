use Rattle.std.proofs.Common.{◌≡◌, ◌++◌, take}
use Rattle.std.specs.List.{flat_map}
use Rattle.object_store.specs.Partitions.{stored_in}
use Rattle.object_store.specs.Spelling.{stored_bytes}
use Rattle.object_store.proofs.snapshot.put_objects.Given as goal

-- the objects before this one are spelled
abbrev pub invariant-loop-name : goal.invariant-loop-name
invariant-loop-name l = l.out.items ≡ l.initial.out.items ++ flat_map stored_bytes (take l.name-index (stored_in l.store))
