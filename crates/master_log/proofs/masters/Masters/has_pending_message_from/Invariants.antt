use Rattle.std.proofs.Common.{◌≡◌, false}
use Rattle.std.specs.List.{list_any}
use Rattle.partition_protocol.specs.Service.{numbers_below}
use Rattle.link_net.specs.Links.{list_of}
use Rattle.master_log.proofs.Waiting.{is_longer}
use Rattle.master_log.proofs.masters.Masters.has_pending_message_from.Given as goal

-- no message to a member before this one has a longer log
abbrev pub invariant-loop-to : goal.invariant-loop-to
invariant-loop-to l = list_any (λ to. list_any (is_longer l.self.published) (list_of l.self.links l.from to)) (numbers_below l.to) ≡ false
