use Rattle.std.proofs.Common.{◌≡◌}
use Rattle.std.specs.List.{flat_map}
use Rattle.partition_protocol.specs.Service.{numbers_below}
use Rattle.partition_world.specs.LinkOrder.{links_from}
use Rattle.replay_run.proofs.links.links_of.Given as goal

-- the links from the ends so far were added
abbrev pub invariant-loop-from : goal.invariant-loop-from
invariant-loop-from l = l.links.items ≡ flat_map (links_from l.members) (numbers_below l.from)
