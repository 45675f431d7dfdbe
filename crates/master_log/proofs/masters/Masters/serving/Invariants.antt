use Rattle.std.proofs.Common.{◌≡◌, List, [], filter}
use Rattle.partition_protocol.specs.Service.{numbers_below}
use Rattle.masters_protocol.specs.Machine.{Event, serves}
use Rattle.master_wire.specs.declared.decision.Decision.{Decision}
use Rattle.master_log.specs.Standing.{StandsFor, run_of}
use Rattle.master_log.proofs.masters.Masters.serving.Given as goal

-- no member before this one serves
abbrev pub invariant-loop-member : goal.invariant-loop-member
invariant-loop-member l = (events : List (Event Decision)) → StandsFor l.self events → filter (serves (run_of l.self events)) (numbers_below l.member) ≡ []
