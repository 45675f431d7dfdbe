use Rattle.std.proofs.Common.{take}
use Rattle.std.specs.List.{flat_map}
use Rattle.partition_protocol.specs.Replica.{joined_again}
use Rattle.member_wire.specs.Said.{Contents}
use Rattle.primary_hold.specs.Views.{viewed}
use Rattle.replica_node.specs.Sending.{Sends}
use Rattle.replica_node.proofs.catch_up.send_joined.Given as goal

-- the service was told of those before this one
abbrev pub invariant-loop-backup : goal.invariant-loop-backup
invariant-loop-backup l = (k : Contents) → Sends k (flat_map (joined_again l.service (viewed l.view)) (take l.backup-index l.backup-items)) l.initial.out l.out
