use Rattle.std.proofs.Common.{◌+◌, ◌<◌, Err, ap, sym, subst}
use Rattle.replay_run.specs.declared.run_end.RunEnd.TheVariants.{InFlight}
use Rattle.replay_run.proofs.Asking.{handed_on}
use Rattle.replay_run.proofs.Serving.{none_turned, turned_so_far, one_turned, meets_one, all_turned}
use Rattle.replay_run.proofs.WaiterTurns.{may_leave, served_since, list_less, members_still, turned_room, turned_still}
use Rattle.call_engine.specs.Objects.{partition_object}
use Rattle.replay_run.proofs.grid.Grid.make_turns.Goals as goal

pub loop-turn-init : goal.loop-turn-init
loop-turn-init g c = λ settings r between. (0, none_turned c.args.self.now r c.args.own c.args.at.partition c.args.at.member c.args.out.now.items between)

-- whose turn it is

pub next_turn-requires-clause-member : goal.next_turn-requires-clause-member
next_turn-requires-clause-member g c =
    let did = c.loop-turn.invariant c.requires.stands.0 c.requires.stands.1 c.requires.stands.2 in
    let same = members_still c.args.self.now c.loop-turn.self c.requires.stands.1 c.args.own c.args.at.partition c.args.at.member did.0 c.args.out.now.items c.loop-turn.out.items did.1 c.requires.stands.2 in
    subst (λ n. c.args.at.member < n) (sym same) c.requires.member

pub next_turn-requires-clause-stands : goal.next_turn-requires-clause-stands
next_turn-requires-clause-stands g c =
    let did = c.loop-turn.invariant c.requires.stands.0 c.requires.stands.1 c.requires.stands.2 in
    (c.requires.stands.0, turned_so_far c.args.self.now c.requires.stands.1 c.args.own c.args.at.partition c.args.at.member c.loop-turn.self did.0 c.args.out.now.items c.loop-turn.out.items did.1, did.1.on.between.run, did.1.on.between.holds)

-- it leaves

pub make_turn-requires : goal.make_turn-requires
make_turn-requires g c =
    let settings = c.requires.stands.0 in
    let r = c.requires.stands.1 in
    let own = c.args.own in
    let at = c.args.at in
    let did = c.loop-turn.invariant settings r c.requires.stands.2 in
    let now = turned_so_far c.args.self.now r own at.partition at.member c.loop-turn.self did.0 c.args.out.now.items c.loop-turn.out.items did.1 in
    let taken = c.in-Some.ensures.taken settings now did.1.on.between.run did.1.on.between.holds in
    let same = members_still c.args.self.now c.loop-turn.self r own at.partition at.member did.0 c.args.out.now.items c.loop-turn.out.items did.1 c.requires.stands.2 in
    record {
      stands = (
        settings,
        now,
        taken.0,
        may_leave c.loop-turn.self c.next_turn.new.self c.next_turn.ensures.rest now own at c.in-Some.turn taken.0 did.1.on.between (subst (λ n. at.member < n) (sym same) c.requires.member) c.requires.partition taken.1 taken.2 taken.3,
        turned_room c.args.self.now c.loop-turn.self r own at.partition at.member did.0 c.args.out.now.items c.loop-turn.out.items did.1 c.requires.stands.3,
      );
    }

pub loop-turn-preserved : goal.loop-turn-preserved
loop-turn-preserved g c = λ settings r between.
    let own = c.args.own in
    let at = c.args.at in
    let did = c.loop-turn.invariant settings r between in
    let now = turned_so_far c.args.self.now r own at.partition at.member c.loop-turn.self did.0 c.args.out.now.items c.loop-turn.out.items did.1 in
    let taken = c.in-Some.ensures.taken settings now did.1.on.between.run did.1.on.between.holds in
    let same = members_still c.args.self.now c.loop-turn.self r own at.partition at.member did.0 c.args.out.now.items c.loop-turn.out.items did.1 between in
    let may = may_leave c.loop-turn.self c.next_turn.new.self c.next_turn.ensures.rest now own at c.in-Some.turn taken.0 did.1.on.between (subst (λ n. at.member < n) (sym same) c.requires.member) c.requires.partition taken.1 taken.2 taken.3 in (
      did.0 + 1,
      one_turned c.args.self.now r own at.partition at.member c.loop-turn.self did.0 c.args.out.now.items c.loop-turn.out.items did.1 taken.0 taken.1 c.make_turn.new.self c.make_turn.new.out.items
          (served_since c.loop-turn.self c.next_turn.new.self c.next_turn.ensures.rest now own c.make_turn.new.self _ c.loop-turn.out.items c.make_turn.new.out.items (c.in_ok-make_turn.ensures.ok settings now taken.0 may)),
    )

pub loop-turn-smaller : goal.loop-turn-smaller
loop-turn-smaller g c =
    let settings = c.requires.stands.0 in
    let r = c.requires.stands.1 in
    let own = c.args.own in
    let at = c.args.at in
    let did = c.loop-turn.invariant settings r c.requires.stands.2 in
    let now = turned_so_far c.args.self.now r own at.partition at.member c.loop-turn.self did.0 c.args.out.now.items c.loop-turn.out.items did.1 in
    let taken = c.in-Some.ensures.taken settings now did.1.on.between.run did.1.on.between.holds in
    let same = members_still c.args.self.now c.loop-turn.self r own at.partition at.member did.0 c.args.out.now.items c.loop-turn.out.items did.1 c.requires.stands.2 in
    let within = subst (λ n. at.member < n) (sym same) c.requires.member in
    let may = may_leave c.loop-turn.self c.next_turn.new.self c.next_turn.ensures.rest now own at c.in-Some.turn taken.0 did.1.on.between within c.requires.partition taken.1 taken.2 taken.3 in
    let next = c.in_ok-make_turn.ensures.ok settings now taken.0 may in
    list_less (partition_object settings) next.skips now own at.partition at.member taken.0 taken.1 c.loop-turn.self.waiters c.make_turn.new.self.waiters did.1.on.between.holds.waiters next.between.holds.waiters
    (subst (λ n. at.member < n) did.1.on.between.holds.members within) c.requires.partition

-- or its call meets a full partition

pub returns-in_err-make_turn-clause-full : goal.returns-in_err-make_turn-clause-full
returns-in_err-make_turn-clause-full g c = λ settings r between was.
    let own = c.args.own in
    let at = c.args.at in
    let did = c.loop-turn.invariant settings r between in
    let now = turned_so_far c.args.self.now r own at.partition at.member c.loop-turn.self did.0 c.args.out.now.items c.loop-turn.out.items did.1 in
    let taken = c.in-Some.ensures.taken settings now did.1.on.between.run did.1.on.between.holds in
    let same = members_still c.args.self.now c.loop-turn.self r own at.partition at.member did.0 c.args.out.now.items c.loop-turn.out.items did.1 between in
    let may = may_leave c.loop-turn.self c.next_turn.new.self c.next_turn.ensures.rest now own at c.in-Some.turn taken.0 did.1.on.between (subst (λ n. at.member < n) (sym same) c.requires.member) c.requires.partition taken.1 taken.2 taken.3 in
    let why = handed_on c.from_residual.result c.in_err-make_turn.field-0.0 InFlight c.from_residual.ensures.1 was in
    meets_one c.args.self.now r own at.partition at.member c.loop-turn.self did.0 c.args.out.now.items c.loop-turn.out.items did.1 taken.0 taken.1 (c.in_err-make_turn.ensures.full settings now taken.0 may (ap Err why))

-- Nobody has a turn.
pub returns-clause-ok : goal.returns-clause-ok
returns-clause-ok g c = λ settings r between.
    let own = c.args.own in
    let at = c.args.at in
    let did = c.loop-turn.invariant settings r between in
    let now = turned_so_far c.args.self.now r own at.partition at.member c.loop-turn.self did.0 c.args.out.now.items c.loop-turn.out.items did.1 in
    let none = c.in_default.ensures.taken settings now did.1.on.between.run did.1.on.between.holds in
    all_turned c.args.self.now r own at.partition at.member c.next_turn.new.self did.0 c.args.out.now.items c.loop-turn.out.items
    (turned_still c.args.self.now c.loop-turn.self r own at.partition at.member did.0 c.args.out.now.items c.loop-turn.out.items did.1 c.next_turn.new.self c.next_turn.ensures.rest none.1) none.0
