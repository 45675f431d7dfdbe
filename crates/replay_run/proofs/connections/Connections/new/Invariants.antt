use Rattle.std.proofs.Common.{◌≡◌, replicate, None}
use Rattle.replay_run.proofs.connections.Connections.new.Given as goal

-- as many slots as the loop has counted, none opened
abbrev pub invariant-loop : goal.invariant-loop
invariant-loop l = l.slots.items ≡ replicate l.counter None
