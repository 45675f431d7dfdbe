use Rattle.std.proofs.Common.{◌≡◌, ◌∙◌, List, false, slice_get, set, refl, ap, sym, arith}
use Rattle.table_service.specs.Services.{Setup}
use Rattle.listeners.specs.declared.listeners.Listeners.{Listeners}
use Rattle.call_engine.specs.Env.{settings_of}
use Rattle.call_engine.specs.Objects.{partition_object}
use Rattle.replay_run.specs.Runs.{events_at, listening, version_known, is_full, world_at}
use Rattle.replay_run.specs.WorldCalls.{arrival_to, AreOfRun}
use Rattle.replay_run.proofs.Asking.{nodes_of, nodes_did, did_by, stands_by}
use Rattle.replay_run.proofs.GivingOut.{has_given_out}
use Rattle.replay_run.proofs.LateCalls.{late_few}
use Rattle.replay_run.proofs.LateTurns.{coded_may, late_within, late_there, late_world, late_room, late_told, late_clock, late_moment, late_named, late_grid, late_met}
use Rattle.replay_run.proofs.grid.Grid.make_call.Goals as goal

pub index_mut-world-requires : goal.index_mut-world-requires
index_mut-world-requires g c =
    let within = late_within c.args.self.now c.requires.stands.1 c.args.own c.args.at c.args.request c.requires.stands.2 c.requires.stands.3 c.from.result c.from.ensures in
    omega (arith, within, c.args.self.now.worlds.ok.0)

-- The partition is full.
pub returns-then-has_crowded_link-clause-full : goal.returns-then-has_crowded_link-clause-full
returns-then-has_crowded_link-clause-full g c = λ settings r w may fails.
    let grid = c.args.self.now in
    late_met grid r c.args.own c.args.at c.args.request w may
    (sym (late_told grid r c.args.own c.args.at c.args.request w may c.from.result c.from.ensures c.index_mut-world.result.now c.index_mut-world.ensures.value is_full c.has_crowded_link.result (c.has_crowded_link.ensures (settings_of _ grid.env)))
    ∙ c.if-has_crowded_link.true)

pub index-requires : goal.index-requires
index-requires g c =
    let within = late_clock c.args.self.now c.requires.stands.1 c.args.own c.args.at c.args.request c.requires.stands.2 c.requires.stands.3 c.from-2.result c.from-2.ensures in
    omega (arith, within, c.args.self.now.moments.ok.0)

-- its world, which has a node of each member
pub version_known-requires : goal.version_known-requires
version_known-requires g c =
    let may = c.requires.stands.3 in
    let is = late_world c.args.self.now c.requires.stands.1 c.args.own c.args.at c.args.request c.requires.stands.2 may c.from.result c.from.ensures c.index_mut-world.result.now c.index_mut-world.ensures.value in
    may.holds.members ∙ sym (nodes_of c.requires.stands.0 _ c.requires.stands.1 c.args.request.partition is)

-- The call may come.

pub call-requires-clause-limits : goal.call-requires-clause-limits
call-requires-clause-limits g c = (coded_may c.args.self.now c.requires.stands.1 c.args.own c.args.at c.args.request c.requires.stands.2 c.requires.stands.3).fits

pub call-requires-clause-room : goal.call-requires-clause-room
call-requires-clause-room g c = late_room c.args.self.now c.requires.stands.1 c.args.own c.args.at c.args.request c.requires.stands.2 c.requires.stands.3 c.from.result c.from.ensures c.index_mut-world.result.now c.index_mut-world.ensures.value c.requires.stands.4

pub call-requires-clause-stands : goal.call-requires-clause-stands
call-requires-clause-stands g c =
    let grid = c.args.self.now in
    let r = c.requires.stands.1 in
    let may = c.requires.stands.3 in
    let events = events_at c.args.request.partition r.events in (
      events,
      stands_by _ grid.env c.requires.stands.0 may.holds.goes_by c.index_mut-world.result.now events (late_world grid r c.args.own c.args.at c.args.request c.requires.stands.2 may c.from.result c.from.ensures c.index_mut-world.result.now c.index_mut-world.ensures.value).stands,
      late_named grid r c.args.own c.args.at c.args.request c.requires.stands.2 may c.from-2.result c.from-2.ensures c.index.result.now c.index.ensures,
    )

-- It is counted.

pub count_later-requires-clause-refused : goal.count_later-requires-clause-refused
count_later-requires-clause-refused g c = let may = c.requires.stands.3 in (late_few c.args.self.now c.requires.stands.1 c.requires.stands.2 may.run may.there may.holds).0

pub count_later-requires-clause-memory : goal.count_later-requires-clause-memory
count_later-requires-clause-memory g c = let may = c.requires.stands.3 in (late_few c.args.self.now c.requires.stands.1 c.requires.stands.2 may.run may.there may.holds).1

pub append_reached-requires : goal.append_reached-requires
append_reached-requires g c =
    let settings = c.requires.stands.0 in
    let r = c.requires.stands.1 in
    let w = c.requires.stands.2 in
    let may = c.requires.stands.3 in
    let grid = c.args.self.now in
    let own = c.args.own in
    let at = c.args.at in
    let old = c.index_mut-world.result.now in
    let events = events_at c.args.request.partition r.events in
    let is = late_world grid r own at c.args.request w may c.from.result c.from.ensures old c.index_mut-world.ensures.value in
    let did = did_by _ grid.env settings may.holds.goes_by old c.call.new.world events (arrival_to grid.lines at.member c.index.result.now c.args.request) c.args.out.now.items c.call.new.out.items c.in_ok-reception.reception (c.in_ok-reception.ensures events) is.stands
    (late_named grid r own at c.args.request w may c.from-2.result c.from-2.ensures c.index.result.now c.index.ensures) in
    let members = ap (λ (x : Setup). x.members) is.setup in
    let nodes = nodes_did settings old c.call.new.world events _ _ _ _ did in
    let size = may.listeners.size in
    omega (arith, c.as_slice.ensures.len, c.args.self.now.listeners.ok.0, size, members, nodes)

pub returns-clause-ok : goal.returns-clause-ok
returns-clause-ok g c = λ settings r w may.
    let grid = c.args.self.now in
    let own = c.args.own in
    let at = c.args.at in
    let request = c.args.request in
    let old = c.index_mut-world.result.now in
    let read = c.index_mut-world.ensures.value in
    let called = c.call.new.world in
    let now = c.index.result.now in
    let known = c.version_known.result in
    let events = events_at request.partition r.events in
    let knew = late_told grid r own at request w may c.from.result c.from.ensures old read (λ v. version_known v at.member) known (c.version_known.ensures (settings_of _ grid.env)) in
    let goes : is_full (world_at (partition_object settings) r request.partition) ≡ false =
    sym (late_told grid r own at request w may c.from.result c.from.ensures old read is_full c.has_crowded_link.result (c.has_crowded_link.ensures (settings_of _ grid.env))) ∙ c.if-has_crowded_link.false in
    let did = did_by _ grid.env settings may.holds.goes_by old called events (arrival_to grid.lines at.member now request) c.args.out.now.items c.call.new.out.items c.in_ok-reception.reception (c.in_ok-reception.ensures events)
    (late_world grid r own at request w may c.from.result c.from.ensures old read).stands
    (late_named grid r own at request w may c.from-2.result c.from-2.ensures now c.index.ensures) in
    let all = listening r own at.member in
    let of_run : AreOfRun grid.connections c.as_slice.result.now (record { line = grid.lines; partition = at.partition; member = at.member; known = known; own = own }) r all =
    record { line = sym may.holds.lines; connections = may.holds.table.connections; stand = λ here there. may.listeners.each at.member here (ap (λ (ls : List Listeners). slice_get ls at.member) (sym c.as_slice.ensures.value) ∙ there) } in
    late_grid grid r own at request w may _ old called c.append_reached.new.world (late_there grid r own at request w may c.from.result c.from.ensures old read) grid.lines now known may.holds.lines
    (late_moment grid r own at request w may c.from-2.result c.from-2.ensures now c.index.ensures) knew c.in_ok-reception.reception did.0 c.args.out.now.items c.call.new.out.items c.append_reached.new.out.items
    (record {
      env = refl;
      lines = refl;
      members = refl;
      links = refl;
      moments = refl;
      answered = c.in_ok-append_reached.ensures.table r may.holds.table.connections;
      waiters = refl;
      listeners = refl;
      reopened = refl;
      worlds = λ i. set grid.worlds.items ((c.from.ensures ∙ sym (coded_may grid r own at request w may).partition) i) c.append_reached.new.world;
    })
    c.count_later.ensures
    (has_given_out settings called c.append_reached.new.world at.member c.in_ok-append_reached.ensures.world)
    did.1 (λ es. c.in_ok-append_reached.ensures.told settings es r all of_run) did.2 goes
