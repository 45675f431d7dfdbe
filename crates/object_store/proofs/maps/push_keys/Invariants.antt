use Rattle.std.proofs.Common.{◌≡◌, ◌++◌, map as each}
use Rattle.std.specs.Map.{keys_of}
use Rattle.grid_base.specs.declared.names.ObjectKey.TheVariants.{Entry}
use Rattle.object_store.proofs.maps.push_keys.Given as goal

abbrev pub invariant-loop-key : goal.invariant-loop-key
invariant-loop-key l = l.names.items ++ each (Entry l.map) l.key-iterator ≡ l.fn.names.items ++ each (Entry l.map) (keys_of l.entries.entries)
