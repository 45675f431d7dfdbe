use Rattle.std.proofs.Common.{◌∙◌, map}
use Rattle.partition_world.specs.Events.{event_of}
use Rattle.live_grid.specs.Plans.{settings_for}
use Rattle.live_grid.proofs.FirstMember.{first_has_node, stored_told, nothing_stored_there}
use Rattle.live_grid.proofs.world.LiveWorld.stored.Goals as goal

pub contents-requires : goal.contents-requires
contents-requires c =
    let plan = c.requires.0 in
    let history = c.requires.1 in
    let is = c.requires.2.world in
    first_has_node plan history c.args.self.now.world is c.row.result.now (c.row.ensures (settings_for plan) (map event_of history) is.stands) c.in-Some.first c.in-Some.ensures

pub returns-in-Some : goal.returns-in-Some
returns-in-Some c plan history stands =
    let is = stands.world in
    let settings = settings_for plan in
    let events = map event_of history in
    stored_told plan history c.args.self.now.world is c.row.result.now (c.row.ensures settings events is.stands) c.args.key.now c.in-Some.first c.in-Some.ensures c.store.result.now (c.store.ensures ∙ c.contents.ensures.state settings events is.stands)
    c.record_kept.result c.record_kept.ensures

pub returns-in-None : goal.returns-in-None
returns-in-None c plan history stands =
    let is = stands.world in
    nothing_stored_there plan history c.args.self.now.world is c.row.result.now (c.row.ensures (settings_for plan) (map event_of history) is.stands) c.args.key.now c.in-None.ensures
