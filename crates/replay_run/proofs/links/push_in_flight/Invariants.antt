use Rattle.std.proofs.Common.{◌≡◌, ◌++◌, List, take}
use Rattle.std.specs.List.{flat_map}
use Rattle.partition_protocol.specs.Events.{Event as ProtocolEvent}
use Rattle.grid_base.specs.Shelves.{meaning}
use Rattle.partition_world.specs.Worlds.{StandsFor, run_of}
use Rattle.partition_world.specs.Sending.{flying}
use Rattle.partition_world.specs.declared.Link.{Link}
use Rattle.replay_run.specs.Printing.{link_text_from}
use Rattle.replay_run.proofs.links.push_in_flight.Given as goal

-- the messages of the links so far were printed
abbrev pub invariant-loop-link : goal.invariant-loop-link
invariant-loop-link g l = (plan : g.row.S-Plan.Denot) (events : List (ProtocolEvent g.row.S-Call.Denot)) →
    let k = meaning g.S.Shelf.model plan in
    StandsFor k g.R.Records.records g.S.Shelf.model.within_limits l.world events → l.out.items ≡ l.initial.out.items ++ flat_map (λ (x : Link). link_text_from l.line x 0 (flying k (run_of k l.world events) x.from x.to)) (take l.link-index l.links)
