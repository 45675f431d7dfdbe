use Rattle.std.proofs.Common.{◌≡◌, ◌∙◌, Some, None, ap, sym, arith}
use Rattle.std.specs.Option.{option_map}
use Rattle.partition_world.specs.Events.{event_of}
use Rattle.call_engine.specs.Env.{settings_of}
use Rattle.replay_run.specs.Runs.{taker_of, version_known}
use Rattle.replay_run.specs.WorldCalls.{reaching_of}
use Rattle.replay_run.proofs.Asking.{world_within, world_is, nodes_of, told_of}
use Rattle.replay_run.proofs.grid.Grid.reaching.Goals as goal

pub index-world-requires : goal.index-world-requires
index-world-requires g c =
    let within = world_within c.args.self.now c.requires.stands.1 c.requires.stands.2.holds c.args.partition c.from.result c.requires.placed c.from.ensures in
    omega (arith, within, c.args.self.now.worlds.ok.0)

pub version_known-requires : goal.version_known-requires
version_known-requires g c =
    let h = c.requires.stands.2.holds in
    h.members ∙ sym (nodes_of c.requires.stands.0 _ c.requires.stands.1 c.args.partition (world_is c.args.self.now c.requires.stands.1 h c.args.partition c.from.result c.requires.placed c.from.ensures c.index-world.result.now c.index-world.ensures))

pub returns : goal.returns
returns g c = λ settings r amid.
    let member = c.in_ok-member.member in
    let some : taker_of (event_of c.args.event.now) ≡ Some member = sym c.taker_of.ensures ∙ c.in_ok-member.was in
    let known = told_of _ c.args.self.now r amid.holds c.args.partition c.from.result c.requires.placed c.from.ensures c.index-world.result.now c.index-world.ensures (λ w. version_known w member) c.version_known.result (c.version_known.ensures (settings_of _ c.args.self.now.env)) in
    (λ i. Some (record { line = amid.holds.lines i; partition = c.args.partition; member = member; known = known i; own = None }))
    ∙ sym (ap (option_map (reaching_of settings r c.args.partition)) some)
