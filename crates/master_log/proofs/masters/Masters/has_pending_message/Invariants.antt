use Rattle.std.proofs.Common.{◌≡◌, false}
use Rattle.std.specs.List.{list_any}
use Rattle.partition_protocol.specs.Service.{numbers_below}
use Rattle.master_log.proofs.Waiting.{from_member}
use Rattle.master_log.proofs.masters.Masters.has_pending_message.Given as goal

-- no message from a member before this one has a longer log
abbrev pub invariant-loop-from : goal.invariant-loop-from
invariant-loop-from l = list_any (from_member l.self) (numbers_below l.from) ≡ false
