use Rattle.std.proofs.Common.{◌∙◌, ◌<◌, Some, refl, subst, w64, rules, arith}
use mir.Val.{SFits}
use Rattle.std.proofs.lemmas.Int.{to_z-of_z}
use Rattle.wait_sets.specs.WaitSets.{deadline_of}
use Rattle.replay_run.specs.Runs.{moment_of, waits, waiter_at}
use Rattle.replay_run.proofs.Asking.{moment_within, moment_there}
use Rattle.replay_run.proofs.Joining.{place_there, joined_at, wait_room, joined_between, wait_handled, waiting_full}
use Rattle.replay_run.proofs.Tallies.{tally_room}
use Rattle.replay_run.proofs.grid.Grid.wait.Goals as goal

pub index-requires : goal.index-requires
index-requires g c =
    let within = moment_within c.args.self.now c.requires.stands.1 c.requires.stands.2.holds c.args.member c.from.result c.requires.member c.from.ensures in
    omega (arith, within, c.args.self.now.moments.ok.0)

pub count-requires-clause-room : goal.count-requires-clause-room
count-requires-clause-room g c = let arrived = c.requires.stands.2.holds.tally.arrived in omega (arith, arrived, c.requires.stands.4)

pub count-requires-clause-refused : goal.count-requires-clause-refused
count-requires-clause-refused g c = (tally_room c.args.self.now.tally c.requires.stands.1 c.requires.stands.2.holds.tally).0

pub count-requires-clause-memory : goal.count-requires-clause-memory
count-requires-clause-memory g c = (tally_room c.args.self.now.tally c.requires.stands.1 c.requires.stands.2.holds.tally).1

-- It joins its list.

pub add-requires : goal.add-requires
add-requires g c =
    let r = c.requires.stands.1 in
    let between = c.requires.stands.2 in
    place_there c.args.self.now.waiters r (waiter_at r c.args.member c.args.request c.args.timeout) between.holds.waiters (subst (λ n. c.args.member < n) between.holds.members c.requires.member) c.requires.placed c.requires.limits

pub make_turns-requires-clause-stands : goal.make_turns-requires-clause-stands
make_turns-requires-clause-stands g c =
    let grid = c.args.self.now in
    let settings = c.requires.stands.0 in
    let r = c.requires.stands.1 in
    let between = c.requires.stands.2 in
    let next = c.requires.stands.3 in
    let request = c.args.request in
    let member = c.args.member in
    let fits : SFits w64 c.args.timeout = search rules in
    let moment = moment_there grid r between.holds member c.from.result c.requires.member c.from.ensures c.index.result.now c.index.ensures in (
      settings,
      waits r (waiter_at r member request c.args.timeout),
      joined_between grid r between.run between.holds member request c.args.timeout next (subst (λ n. member < n) between.holds.members c.requires.member) c.requires.limits _
          (record {
            env = refl;
            lines = refl;
            members = refl;
            links = refl;
            moments = refl;
            connections = c.in_ok-arrive.ensures.ok;
            tally = c.count.ensures;
            waiters = c.in_ok-add.ensures.ok ∙ joined_at grid.waiters member request c.deadline_of-deadline.result (deadline_of (moment_of r member) c.args.timeout) (c.deadline_of-deadline.ensures ∙ (λ i. deadline_of (moment i) (to_z-of_z w64 c.args.timeout fits i)));
            listeners = refl;
            reopened = refl;
            worlds = refl;
          })
          c.requires.stands.6 (Some request.id.conn) between.listeners,
      wait_room r (waiter_at r member request c.args.timeout) request.partition c.requires.stands.4 c.requires.stands.5,
    )

-- It had its turn, if it had one, and all others there theirs.
pub returns-clause-ok : goal.returns-clause-ok
returns-clause-ok g c = λ settings r between next count.
    let grid = c.args.self.now in
    let request = c.args.request in
    let member = c.args.member in
    let within = subst (λ n. member < n) between.holds.members c.requires.member in
    let fits : SFits w64 c.args.timeout = search rules in
    let moment = moment_there grid r between.holds member c.from.result c.requires.member c.from.ensures c.index.result.now c.index.ensures in
    wait_handled grid r between.run between.holds member request c.args.timeout next within c.requires.limits (record c.args.self.now { connections = c.arrive.new.self; tally = c.count.new.self; waiters = c.add.new.self })
    (record {
      env = refl;
      lines = refl;
      members = refl;
      links = refl;
      moments = refl;
      connections = c.in_ok-arrive.ensures.ok;
      tally = c.count.ensures;
      waiters = c.in_ok-add.ensures.ok ∙ joined_at grid.waiters member request c.deadline_of-deadline.result (deadline_of (moment_of r member) c.args.timeout) (c.deadline_of-deadline.ensures ∙ (λ i. deadline_of (moment i) (to_z-of_z w64 c.args.timeout fits i)));
      listeners = refl;
      reopened = refl;
      worlds = refl;
    })
    count c.make_turns.result between.listeners c.make_turns.new.self c.args.out.now.items c.make_turns.new.out.items (c.make_turns.ensures.ok settings (waits r (waiter_at r member request c.args.timeout)))

pub returns-clause-full : goal.returns-clause-full
returns-clause-full g c = λ settings r between next count fails.
    let grid = c.args.self.now in
    let request = c.args.request in
    let member = c.args.member in
    let within = subst (λ n. member < n) between.holds.members c.requires.member in
    let fits : SFits w64 c.args.timeout = search rules in
    let moment = moment_there grid r between.holds member c.from.result c.requires.member c.from.ensures c.index.result.now c.index.ensures in
    waiting_full settings r member request c.args.timeout
    (c.make_turns.ensures.full settings (waits r (waiter_at r member request c.args.timeout))
    (joined_between grid r between.run between.holds member request c.args.timeout next within c.requires.limits (record c.args.self.now { connections = c.arrive.new.self; tally = c.count.new.self; waiters = c.add.new.self })
    (record {
      env = refl;
      lines = refl;
      members = refl;
      links = refl;
      moments = refl;
      connections = c.in_ok-arrive.ensures.ok;
      tally = c.count.ensures;
      waiters = c.in_ok-add.ensures.ok ∙ joined_at grid.waiters member request c.deadline_of-deadline.result (deadline_of (moment_of r member) c.args.timeout) (c.deadline_of-deadline.ensures ∙ (λ i. deadline_of (moment i) (to_z-of_z w64 c.args.timeout fits i)));
      listeners = refl;
      reopened = refl;
      worlds = refl;
    })
    count (Some request.id.conn) between.listeners)
    fails)
