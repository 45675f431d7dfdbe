use Rattle.std.proofs.Common.{◌∙◌, Some, List, slice_get, set, refl, ap, sym, subst, arith}
use Rattle.partition_world.specs.Worlds.{waiting}
use Rattle.table_service.specs.Services.{Setup}
use Rattle.listeners.specs.declared.listeners.Listeners.{Listeners}
use Rattle.replay_run.specs.Runs.{events_at, listening, version_known, arrival_at}
use Rattle.replay_run.specs.Tables.{Table}
use Rattle.replay_run.specs.Grids.{HasConnections}
use Rattle.replay_run.specs.WorldCalls.{arrival_to, with_answers, going_out, AreOfRun}
use Rattle.replay_run.proofs.Asking.{world_within, world_there, world_is, world_room, nodes_of, nodes_did, did_by, stands_by, moment_within, moment_there, named_next, told_of}
use Rattle.replay_run.proofs.GivingOut.{has_given_out}
use Rattle.replay_run.proofs.TableRuns.{connections_called}
use Rattle.replay_run.proofs.GridCalls.{call_said}
use Rattle.replay_run.proofs.NewCalls.{asked_grid}
use Rattle.replay_run.proofs.grid.Grid.reach.Goals as goal
use Rattle.call_engine.specs.Env.{settings_of}

pub index_mut-world-requires : goal.index_mut-world-requires
index_mut-world-requires g c =
    let within = world_within c.args.self.now c.requires.stands.1 c.requires.stands.2 c.args.request.partition c.from.result c.requires.placed c.from.ensures in
    omega (arith, within, c.args.self.now.worlds.ok.0)

pub call-requires-clause-room : goal.call-requires-clause-room
call-requires-clause-room g c =
    world_room c.args.self.now c.requires.stands.1 c.requires.stands.2 c.args.request.partition c.from.result c.requires.placed c.from.ensures c.index_mut-world.result.now c.index_mut-world.ensures.value c.requires.stands.3 c.requires.stands.6

pub call-requires-clause-stands : goal.call-requires-clause-stands
call-requires-clause-stands g c = (
  events_at c.args.request.partition c.requires.stands.1.events,
  stands_by _ c.args.self.now.env c.requires.stands.0 c.requires.stands.2.goes_by c.index_mut-world.result.now (events_at c.args.request.partition c.requires.stands.1.events)
      (world_is c.args.self.now c.requires.stands.1 c.requires.stands.2 c.args.request.partition c.from.result c.requires.placed c.from.ensures c.index_mut-world.result.now c.index_mut-world.ensures.value).stands,
  named_next c.requires.stands.0 c.requires.stands.1 c.requires.stands.4 c.args.member c.args.self.now.lines c.index.result.now c.args.request c.requires.stands.5 c.requires.stands.2.lines
      (moment_there c.args.self.now c.requires.stands.1 c.requires.stands.2 c.args.member c.from-2.result c.requires.member c.from-2.ensures c.index.result.now c.index.ensures),
)

pub index-requires : goal.index-requires
index-requires g c =
    let within = moment_within c.args.self.now c.requires.stands.1 c.requires.stands.2 c.args.member c.from-2.result c.requires.member c.from-2.ensures in
    omega (arith, within, c.args.self.now.moments.ok.0)

-- its world, which has a node of each member
pub version_known-requires : goal.version_known-requires
version_known-requires g c =
    let is = world_is c.args.self.now c.requires.stands.1 c.requires.stands.2 c.args.request.partition c.from.result c.requires.placed c.from.ensures c.index_mut-world.result.now c.index_mut-world.ensures.value in
    c.requires.stands.2.members ∙ sym (nodes_of c.requires.stands.0 _ c.requires.stands.1 c.args.request.partition is)

pub append_reached-requires : goal.append_reached-requires
append_reached-requires g c =
    let settings = c.requires.stands.0 in
    let r = c.requires.stands.1 in
    let h = c.requires.stands.2 in
    let grid = c.args.self.now in
    let partition = c.args.request.partition in
    let old = c.index_mut-world.result.now in
    let events = events_at partition r.events in
    let is = world_is grid r h partition c.from.result c.requires.placed c.from.ensures old c.index_mut-world.ensures.value in
    let did = did_by _ grid.env settings h.goes_by old c.call.new.world events (arrival_to grid.lines c.args.member c.index.result.now c.args.request) c.args.out.now.items c.call.new.out.items c.in_ok-reception.reception (c.in_ok-reception.ensures events) is.stands
    (named_next settings r c.requires.stands.4 c.args.member grid.lines c.index.result.now c.args.request c.requires.stands.5 h.lines (moment_there grid r h c.args.member c.from-2.result c.requires.member c.from-2.ensures c.index.result.now c.index.ensures)) in
    let members = ap (λ (x : Setup). x.members) is.setup in
    c.as_slice.ensures.len ∙ c.requires.heard ∙ h.members ∙ sym members ∙ sym (nodes_did settings old c.call.new.world events _ _ _ _ did)

pub returns-clause-ok : goal.returns-clause-ok
returns-clause-ok g c = λ settings r run h next are count goes.
    let grid = c.args.self.now in
    let line = c.args.self.now.lines in
    let member = c.args.member in
    let partition = c.args.request.partition in
    let conn = c.args.request.id.conn in
    let old = c.index_mut-world.result.now in
    let called = c.call.new.world in
    let read = c.index_mut-world.ensures.value in
    let answers = going_out r (Some conn) (waiting called member) in
    let now = c.index.result.now in
    let known = c.version_known.result in
    let events = events_at partition r.events in
    let knew = told_of _ grid r h partition c.from.result c.requires.placed c.from.ensures old read (λ w. version_known w member) known (c.version_known.ensures (settings_of _ grid.env)) in
    let did = did_by _ grid.env settings h.goes_by old called events (arrival_to line member now c.args.request) c.args.out.now.items c.call.new.out.items c.in_ok-reception.reception (c.in_ok-reception.ensures events)
    (world_is grid r h partition c.from.result c.requires.placed c.from.ensures old read).stands
    (named_next settings r run member line now c.args.request next h.lines (moment_there grid r h member c.from-2.result c.requires.member c.from-2.ensures now c.index.ensures)) in
    let has : HasConnections c.arrive.new.self r = subst (λ (t : Table). HasConnections t r) (sym c.in_ok-arrive.ensures.ok) (connections_called grid.connections r conn line h.table.connections) in
    let all = listening r (Some conn) member in
    let of_run : AreOfRun c.arrive.new.self c.as_slice.result.now (record { line = line; partition = partition; member = member; known = known; own = Some conn }) r all =
    record { line = sym h.lines; connections = has; stand = λ here there. are.each member here (ap (λ (ls : List Listeners). slice_get ls member) (sym c.as_slice.ensures.value) ∙ there) } in
    asked_grid grid r run h member c.args.request next are count c.requires.placed _ old called c.append_reached.new.world line now known knew c.in_ok-reception.reception did.0 c.args.out.now.items c.append_reached.new.out.items
    (world_there grid r h partition c.from.result c.requires.placed c.from.ensures old read)
    h.lines
    (moment_there grid r h member c.from-2.result c.requires.member c.from-2.ensures now c.index.ensures)
    (record {
      env = refl;
      lines = refl;
      members = refl;
      links = refl;
      moments = refl;
      answered = c.in_ok-append_reached.ensures.table r has ∙ ap (λ (t : Table). with_answers t line answers) c.in_ok-arrive.ensures.ok;
      waiters = refl;
      listeners = refl;
      reopened = refl;
      worlds = λ i. set grid.worlds.items (c.from.ensures i) c.append_reached.new.world;
    })
    refl
    (has_given_out settings called c.append_reached.new.world member c.in_ok-append_reached.ensures.world)
    did.2
    (call_said settings called r (Some conn) (arrival_at r member c.args.request) line known (sym h.lines) c.args.out.now.items did.0 c.call.new.out.items c.append_reached.new.out.items did.1 (λ es. c.in_ok-append_reached.ensures.told settings es r all of_run))
    goes
