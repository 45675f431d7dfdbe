use Rattle.std.proofs.Common.{◌≡◌, ◌*◌, ◌≤◌, List, length, take}
use Rattle.std.specs.List.{sum_by}
use Rattle.partition_protocol.specs.Events.{Event as ProtocolEvent}
use Rattle.grid_base.specs.Shelves.{meaning}
use Rattle.partition_world.specs.Worlds.{StandsFor, run_of}
use Rattle.partition_world.specs.Sending.{flying}
use Rattle.partition_world.specs.declared.Link.{Link}
use Rattle.replay_run.proofs.links.in_flight.Given as goal

-- the messages of the links so far were counted, and each link has fewer than 2^64
abbrev pub invariant-loop-link : goal.invariant-loop-link
invariant-loop-link g l = record {
  counted : (plan : g.row.S-Plan.Denot) (events : List (ProtocolEvent g.row.S-Call.Denot)) →
      let k = meaning g.S.Shelf.model plan in
      StandsFor k g.R.Records.records g.S.Shelf.model.within_limits l.world events → l.messages ≡ sum_by (λ (x : Link). length (flying k (run_of k l.world events) x.from x.to)) (take l.link-index l.links);
  few : l.messages ≤ l.link-index * 18446744073709551616;
}
