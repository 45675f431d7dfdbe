use Rattle.std.proofs.Common.{◌≡◌, ◌++◌, map as each}
use Rattle.std.specs.Map.{keys_of}
use Rattle.grid_base.specs.declared.names.ObjectKey.TheVariants.{Queue}
use Rattle.object_store.proofs.queues.push_names.Given as goal

abbrev pub invariant-loop-name : goal.invariant-loop-name
invariant-loop-name l = l.names.items ++ each Queue l.name-iterator ≡ l.fn.names.items ++ each Queue (keys_of l.queues.entries)
