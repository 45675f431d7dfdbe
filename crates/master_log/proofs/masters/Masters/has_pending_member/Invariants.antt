use Rattle.std.proofs.Common.{◌≡◌, List, false}
use Rattle.std.specs.List.{list_any}
use Rattle.partition_protocol.specs.Service.{numbers_below}
use Rattle.masters_protocol.specs.Machine.{Event, is_pending_member}
use Rattle.master_wire.specs.declared.decision.Decision.{Decision}
use Rattle.master_log.specs.Standing.{StandsFor, run_of}
use Rattle.master_log.proofs.masters.Masters.has_pending_member.Given as goal

-- no member before this one has a longer log
abbrev pub invariant-loop-member : goal.invariant-loop-member
invariant-loop-member l = (events : List (Event Decision)) → StandsFor l.self events → list_any (is_pending_member (run_of l.self events)) (numbers_below l.member) ≡ false
