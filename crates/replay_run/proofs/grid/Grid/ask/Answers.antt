use Rattle.std.proofs.Common.{◌<◌, ◌∙◌, Err, ap, subst, arith}
use Rattle.std.proofs.lemmas.Result.{on_ok_weaker}
use Rattle.replay_run.specs.declared.run_end.RunEnd.TheVariants.{InFlight}
use Rattle.replay_run.proofs.Asking.{handed_on}
use Rattle.replay_run.proofs.NewCalls.{admits_none, admitted, admitted_between, admitted_reached, admitted_room, turns_none, handled_call}
use Rattle.replay_run.proofs.grid.Grid.ask.Goals as goal

pub admit-requires-clause-heard : goal.admit-requires-clause-heard
admit-requires-clause-heard g c =
    let between = c.requires.stands.2 in
    let size = between.listeners.size in
    let members = between.holds.members in
    omega (arith, size, members, c.args.self.now.listeners.ok.0)

pub admit-requires-clause-stands : goal.admit-requires-clause-stands
admit-requires-clause-stands g c = (c.requires.stands.0, c.requires.stands.1, c.requires.stands.2.holds, c.requires.stands.4, c.requires.stands.2.run, c.requires.stands.3, c.requires.stands.5)

-- The call was made, and those who wait there have their turns.

pub make_turns-requires-clause-member : goal.make_turns-requires-clause-member
make_turns-requires-clause-member g c =
    let settings = c.requires.stands.0 in
    let r = c.requires.stands.1 in
    let between = c.requires.stands.2 in
    let next = c.requires.stands.3 in
    let did = c.in_ok-admit.ensures.ok settings r between.run between.holds next between.listeners c.requires.stands.6 in
    admitted_reached settings r c.args.member c.args.request c.admit.new.self between.run next c.args.out.now.items c.admit.new.out.items did (subst (λ n. c.args.member < n) between.holds.members c.requires.member)

pub make_turns-requires-clause-stands : goal.make_turns-requires-clause-stands
make_turns-requires-clause-stands g c =
    let settings = c.requires.stands.0 in
    let r = c.requires.stands.1 in
    let between = c.requires.stands.2 in
    let next = c.requires.stands.3 in
    let did = c.in_ok-admit.ensures.ok settings r between.run between.holds next between.listeners c.requires.stands.6 in (
      settings,
      admitted settings r c.args.member c.args.request c.admit.new.self between.run next c.args.out.now.items c.admit.new.out.items did,
      admitted_between settings r c.args.member c.args.request c.admit.new.self between.run next c.args.out.now.items c.admit.new.out.items did,
      admitted_room settings r c.args.member c.args.request c.admit.new.self between.run next c.args.out.now.items c.admit.new.out.items did c.requires.stands.4 c.requires.stands.5,
    )

pub returns-clause-ok : goal.returns-clause-ok
returns-clause-ok g c = λ settings r between next count.
    let did = c.in_ok-admit.ensures.ok settings r between.run between.holds next between.listeners count in
    on_ok_weaker c.make_turns.result
    (λ turns. handled_call settings r c.args.member c.args.request c.admit.new.self between.run next c.args.out.now.items c.admit.new.out.items did c.make_turns.new.self c.make_turns.new.out.items turns)
    (c.make_turns.ensures.ok settings (admitted settings r c.args.member c.args.request c.admit.new.self between.run next c.args.out.now.items c.admit.new.out.items did)
    (admitted_between settings r c.args.member c.args.request c.admit.new.self between.run next c.args.out.now.items c.admit.new.out.items did))

-- The call meets a full partition, or that of a turn does.

pub returns-in_err-admit-clause-full : goal.returns-in_err-admit-clause-full
returns-in_err-admit-clause-full g c = λ settings r between next count fails.
    let why = handed_on c.from_residual.result c.in_err-admit.field-0.0 InFlight c.from_residual.ensures.1 fails in
    admits_none settings r c.args.member c.args.request (c.admit.ensures.full settings r between.holds (c.in_err-admit.was ∙ ap Err why))

pub returns-clause-full : goal.returns-clause-full
returns-clause-full g c = λ settings r between next count fails.
    let did = c.in_ok-admit.ensures.ok settings r between.run between.holds next between.listeners count in
    turns_none settings r c.args.member c.args.request c.admit.new.self between.run next c.args.out.now.items c.admit.new.out.items did
    (c.make_turns.ensures.full settings (admitted settings r c.args.member c.args.request c.admit.new.self between.run next c.args.out.now.items c.admit.new.out.items did)
    (admitted_between settings r c.args.member c.args.request c.admit.new.self between.run next c.args.out.now.items c.admit.new.out.items did) fails)
