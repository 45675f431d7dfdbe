use Rattle.std.proofs.Common.{◌≡◌, ◌++◌, take}
use Rattle.std.specs.List.{flat_map}
use Rattle.replay_run.proofs.DumpTexts.{behind}
use Rattle.replay_run.proofs.dumps.push_items.Given as goal

-- the values so far behind the first were printed
abbrev pub invariant-loop-item : goal.invariant-loop-item
invariant-loop-item l = l.out.items ≡ l.initial.out.items ++ flat_map behind (take l.item-index l.rest)
