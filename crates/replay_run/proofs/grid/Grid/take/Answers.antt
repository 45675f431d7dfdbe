use Rattle.std.proofs.Common.{◌≡◌, ◌∙◌, Err, Some, None, ap, sym, arith}
use Rattle.call_engine.specs.Objects.{partition_object}
use Rattle.partition_world.specs.Events.{event_of}
use Rattle.replay_run.specs.Runs.{occurred, stirred_by}
use Rattle.replay_run.specs.declared.run_end.RunEnd.TheVariants.{InFlight}
use Rattle.replay_run.proofs.Asking.{handed_on}
use Rattle.replay_run.proofs.Taking.{between_amid, turn_room, met_full, taken_quietly, taken_nowhere, taken_stirring, stirred_full}
use Rattle.replay_run.proofs.grid.Grid.take.Goals as goal

pub returns-in_err-happened-clause-full : goal.returns-in_err-happened-clause-full
returns-in_err-happened-clause-full g c = λ settings r amid was.
    let why = handed_on c.from_residual.result c.in_err-happened.field-0.0 InFlight c.from_residual.ensures.1 was in
    met_full (partition_object settings) r c.args.partition (event_of c.args.event) (c.in_err-happened.ensures.full settings r amid (ap Err why))

pub make_turns-requires-clause-stands : goal.make_turns-requires-clause-stands
make_turns-requires-clause-stands g c =
    let settings = c.requires.stands.0 in
    let r = c.requires.stands.1 in
    let event = event_of c.args.event in
    let did = c.in_ok-happened.ensures.ok settings r c.requires.stands.2 in
    let o = partition_object settings in
    (settings, occurred o r c.args.partition event, between_amid c.occur.new.self (occurred o r c.args.partition event) did.on.amid, turn_room o r c.args.partition event c.requires.stands.3)

pub returns-in_err-make_turns-clause-full : goal.returns-in_err-make_turns-clause-full
returns-in_err-make_turns-clause-full g c = λ settings r amid was.
    let p = c.args.partition in
    let event = event_of c.args.event in
    let did = c.in_ok-happened.ensures.ok settings r amid in
    let why = handed_on c.from_residual-in_err-make_turns.result c.in_err-make_turns.field-0.0 InFlight c.from_residual-in_err-make_turns.ensures.1 was in
    let next = occurred (partition_object settings) r p event in
    let some : stirred_by event ≡ Some c.in-Some.member = sym c.stirred_by-stirred.ensures ∙ c.in-Some.is in
    stirred_full c.occur.new.self r p event c.in_ok-happened.happened c.args.out.now.items c.occur.new.out.items did c.in-Some.member some
    (c.in_err-make_turns.ensures.full settings next (between_amid c.occur.new.self next did.on.amid) (ap Err why))

pub returns-in_ok-make_turns-clause-ok : goal.returns-in_ok-make_turns-clause-ok
returns-in_ok-make_turns-clause-ok g c = λ settings r amid.
    let p = c.args.partition in
    let event = event_of c.args.event in
    let did = c.in_ok-happened.ensures.ok settings r amid in
    let next = occurred (partition_object settings) r p event in
    let some : stirred_by event ≡ Some c.in-Some.member = sym c.stirred_by-stirred.ensures ∙ c.in-Some.is in
    taken_stirring c.occur.new.self r p event c.in_ok-happened.happened c.args.out.now.items c.occur.new.out.items did c.in-Some.member some c.make_turns.new.self c.make_turns.new.out.items
    (c.in_ok-make_turns.ensures.ok settings next (between_amid c.occur.new.self next did.on.amid))

pub returns-else-member-self-clause-ok : goal.returns-else-member-self-clause-ok
returns-else-member-self-clause-ok g c = λ settings r amid.
    let p = c.args.partition in
    let event = event_of c.args.event in
    let did = c.in_ok-happened.ensures.ok settings r amid in
    let members = did.on.amid.holds.members in
    let some : stirred_by event ≡ Some c.in-Some.member = sym c.stirred_by-stirred.ensures ∙ c.in-Some.is in
    taken_nowhere c.occur.new.self r p event c.in_ok-happened.happened c.args.out.now.items c.occur.new.out.items did c.in-Some.member some (λ low. omega (arith, low, members, c.if-member-self.false))

pub returns-in_default-clause-ok : goal.returns-in_default-clause-ok
returns-in_default-clause-ok g c = λ settings r amid.
    let p = c.args.partition in
    let event = event_of c.args.event in
    let did = c.in_ok-happened.ensures.ok settings r amid in
    let none : stirred_by event ≡ None = sym c.stirred_by-stirred.ensures ∙ c.in_default.is in
    taken_quietly c.occur.new.self r p event c.in_ok-happened.happened c.args.out.now.items c.occur.new.out.items did none
