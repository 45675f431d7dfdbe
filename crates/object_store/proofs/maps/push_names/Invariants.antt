use Rattle.std.proofs.Common.{◌≡◌, ◌++◌}
use Rattle.std.specs.List.{flat_map}
use Rattle.object_store.specs.Tables.{entries_stored, names_of}
use Rattle.object_store.proofs.maps.push_names.Given as goal

abbrev pub invariant-loop-map : goal.invariant-loop-map
invariant-loop-map l = l.names.items ++ names_of (flat_map entries_stored l.map-iterator) ≡ l.fn.names.items ++ names_of (flat_map entries_stored l.maps.entries)
