use Rattle.std.proofs.Common.{◌≡◌, ◌++◌, take}
use Rattle.std.specs.List.{flat_map}
use Rattle.object_store.specs.Partitions.{stored_in}
use Rattle.replay_run.specs.Dumps.{stored_text}
use Rattle.replay_run.proofs.dumps.push_dumped.Given as goal

-- the objects so far were printed
abbrev pub invariant-loop-name : goal.invariant-loop-name
invariant-loop-name l = l.out.items ≡ l.initial.out.items ++ flat_map (stored_text l.line) (take l.name-index (stored_in l.shelf))
