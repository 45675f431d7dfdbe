use Rattle.std.proofs.Common.{◌≡◌, ◌∙◌, false, List, [], ◌∷◌, ◌++◌, None, length, if◌then◌else◌, slice_get, set, refl, ap, sym, arith, Vec, Global}
use Rattle.call_engine.specs.Objects.{partition_object}
use Rattle.partition_protocol.specs.Events.{Reopen as Reopens}
use Rattle.partition_world.specs.Events.{event_of, happened_of}
use Rattle.listeners.specs.declared.listeners.Listeners.{Listeners}
use Rattle.replay_run.specs.declared.outgoing.Reaching.{Reaching}
use Rattle.replay_run.specs.WorldCalls.{AreOfRun}
use Rattle.replay_run.specs.Runs.{Reopened, events_at, listening, taker_of, meets_full, reopening_by, world_at}
use Rattle.table_service.specs.Services.{Setup}
use Rattle.replay_run.proofs.Asking.{world_within, world_is, nodes_by, told_of}
use Rattle.replay_run.proofs.GivingOut.{has_given_out}
use Rattle.replay_run.proofs.GridEvents.{HasReleased, event_room, room_in, comes_in, stepped_by, reaches_some, reaches_none, released_some, released_none, has_taken, not_reopened}
use Rattle.replay_run.proofs.grid.Grid.occur.Goals as goal
use Rattle.replay_run.proofs.grid.Grid.occur.Goals.{in-Some+in_ok-append_reached, in_default-reaching, in-Reopen, in_default}
use Rattle.call_engine.specs.Env.{settings_of}
use Rattle.line_told.specs.declared.told.Told.{Told}

pub index_mut-world-requires : goal.index_mut-world-requires
index_mut-world-requires g c =
    let within = world_within c.args.self.now c.requires.stands.1 c.requires.stands.2.holds c.args.partition c.from.result c.requires.placed c.from.ensures in
    omega (arith, within, c.args.self.now.worlds.ok.0)

pub returns-then-meets_full-clause-full : goal.returns-then-meets_full-clause-full
returns-then-meets_full-clause-full g c = λ settings r amid was.
    sym (told_of _ c.args.self.now r amid.holds c.args.partition c.from.result c.requires.placed c.from.ensures c.index_mut-world.result.now c.index_mut-world.ensures.value
    (λ w. meets_full w (event_of c.args.event)) c.meets_full.result (c.meets_full.ensures (settings_of _ c.args.self.now.env)))
    ∙ c.if-meets_full.true

pub step-requires : goal.step-requires
step-requires g c = (
  events_at c.args.partition c.requires.stands.1.events,
  comes_in c.args.self.now c.requires.stands.1 c.requires.stands.2.holds c.args.partition c.from.result c.requires.placed c.from.ensures c.index_mut-world.result.now c.index_mut-world.ensures.value (event_of c.args.event) c.requires.unasked
      (event_room c.args.self.now c.requires.stands.1 c.requires.stands.2.holds c.args.partition c.from.result c.requires.placed c.from.ensures c.index_mut-world.result.now c.index_mut-world.ensures.value c.requires.stands.3),
)

pub append_reached-requires : goal.append_reached-requires
append_reached-requires g c =
    let r = c.requires.stands.1 in
    let amid = c.requires.stands.2 in
    let grid = c.args.self.now in
    let p = c.args.partition in
    let old = c.index_mut-world.result.now in
    let read = c.index_mut-world.ensures.value in
    let is = world_is grid r amid.holds p c.from.result c.requires.placed c.from.ensures old read in
    let room = event_room grid r amid.holds p c.from.result c.requires.placed c.from.ensures old read c.requires.stands.3 in
    let comes = comes_in grid r amid.holds p c.from.result c.requires.placed c.from.ensures old read (event_of c.args.event) c.requires.unasked room in
    let members = ap (λ (x : Setup). x.members) (c.in_ok-happened.ensures.setup ∙ is.setup) in
    ap (λ (ls : List Listeners). length ls) c.as_slice.ensures.value ∙ amid.listeners.size ∙ sym (nodes_by (settings_of _ grid.env) c.step.new.self _ (c.in_ok-happened.ensures.stands (events_at p r.events) comes) ∙ members)

pub returns-clause-ok : goal.returns-clause-ok
returns-clause-ok g c = λ settings r amid.
    let grid = c.args.self.now in
    let p = c.args.partition in
    let event = event_of c.args.event in
    let old = c.index_mut-world.result.now in
    let called = c.step.new.self in
    let happened = c.in_ok-happened.happened in
    let taker = taker_of event in
    let start = c.args.out.now.items in
    let read = c.index_mut-world.ensures.value in
    let events = events_at p r.events in
    let its_room = event_room grid c.requires.stands.1 c.requires.stands.2.holds p c.from.result c.requires.placed c.from.ensures old read c.requires.stands.3 in
    let room = room_in grid c.requires.stands.1 c.requires.stands.2.holds p c.from.result c.requires.placed c.from.ensures old read r amid.holds its_room in
    let comes = comes_in grid r amid.holds p c.from.result c.requires.placed c.from.ensures old read event c.requires.unasked room in
    let goes : meets_full (world_at (partition_object settings) r p) event ≡ false =
    sym (told_of _ grid r amid.holds p c.from.result c.requires.placed c.from.ensures old read (λ w. meets_full w event) c.meets_full.result (c.meets_full.ensures (settings_of _ grid.env))) ∙ c.if-meets_full.false in
    let did = stepped_by _ grid.env settings amid.holds.goes_by old called events event happened
    (record { stands = c.in_ok-happened.ensures.stands events comes; setup = c.in_ok-happened.ensures.setup; waits = c.in_ok-happened.ensures.waiting events comes; outcome = c.in_ok-happened.ensures.outcome events comes }) in
    let reaches = c.reaching-reaching.ensures settings r amid in
    let gave : HasReleased settings grid c.match-reaching.self r p event called taker start c.match-reaching.out.items = elim c.match-reaching.branch [
      | in-Some+in_ok-append_reached w ↦
          (let where_it = reaches_some settings r p taker w.in-Some.at (sym w.in-Some.is ∙ reaches) in
          let of_run : AreOfRun grid.connections w.as_slice.result.now w.in-Some.at r (listening r None w.in-Some.at.member) =
          record { line = sym (ap (λ (x : Reaching). x.line) where_it.1); connections = amid.holds.table.connections; stand = λ here there. amid.listeners.each w.in-Some.at.member here (ap (λ (ls : List Listeners). slice_get ls w.in-Some.at.member) (sym w.as_slice.ensures.value) ∙ there) } in
          released_some settings grid c.match-reaching.self r p event called taker start c.match-reaching.out.items _ _ w.append_reached.new.world w.in-Some.at w.append_reached.new.out.items where_it amid.holds.lines w.self-is (ap (λ (v : Vec Told Global). v.items) w.out-is)
          (has_given_out settings called w.append_reached.new.world w.in-Some.at.member w.in_ok-append_reached.ensures.world)
          (w.in_ok-append_reached.ensures.table r amid.holds.table.connections)
          (λ i. set grid.worlds.items (c.from.ensures i) w.append_reached.new.world)
          (w.in_ok-append_reached.ensures.told settings (events ++ event ∷ []) r (listening r None w.in-Some.at.member) of_run did.stands))
      | in_default-reaching w ↦ released_none settings grid c.match-reaching.self r p event called taker start c.match-reaching.out.items _ (reaches_none settings r p taker (sym w.in_default-reaching.is ∙ reaches)) w.self-is (ap (λ (v : Vec Told Global). v.items) w.out-is)
          (λ i. set grid.worlds.items (c.from.ensures i) called)
    ] in
    let noted : List Reopened = if c.match-matches.matches then reopening_by p c.match-reaching.self.lines Reopens (happened_of happened) else [] in
    let is : noted ≡ reopening_by p grid.lines event (happened_of happened) = elim c.match-matches.branch [
      | in-Reopen w ↦ rw w.matches-is (λ i. reopening_by p (gave.after.lines i) (event_of (sym w.in-Reopen.is i)) (happened_of happened))
      | in_default w ↦ rw w.matches-is (sym (not_reopened p grid.lines c.args.event (happened_of happened) w.in_default.not-Reopen))
    ] in
    has_taken grid r amid p c.from.result c.requires.placed c.from.ensures event c.requires.unasked old read goes taker refl c.match-reaching.self c.note_reopening.new.self called happened did start c.match-reaching.out.items gave
    noted c.in_ok-note_reopening.ensures.reopened c.in_ok-note_reopening.ensures.rest is
