use Rattle.std.proofs.Common.{Err, refl, ap, subst, arith}
use Rattle.partition_protocol.specs.Events.{Resend, Advance}
use Rattle.call_engine.specs.Objects.{partition_object}
use Rattle.replay_run.specs.Runs.{takes, flowed}
use Rattle.replay_run.specs.Rebalancing.{most_deliveries, first_resends}
use Rattle.replay_run.specs.WorldCalls.{GivesUpSo}
use Rattle.replay_run.specs.declared.run_end.RunEnd.TheVariants.{InFlight}
use Rattle.replay_run.proofs.Asking.{handed_on}
use Rattle.replay_run.proofs.EventRuns.{takes_few, takes_kept, takes_run, flowed_run}
use Rattle.replay_run.proofs.Flowing.{taken_by, so_further, gives_up_after}
use Rattle.replay_run.proofs.GivingUp.{gives_up_first}
use Rattle.replay_run.proofs.Growing.{takes_goes, first_goes, flowed_goes}
use Rattle.replay_run.proofs.Rebalanced.{first_few, first_kept, first_run}
use Rattle.replay_run.proofs.RebalanceLine.{resent, again, flows, advances, sent_again, late_flows, sent_goes, late_goes, ends_again, ends_later, late_room}
use Rattle.replay_run.proofs.grid.Grid.turn.Goals as goal

pub take-requires-clause-stands : goal.take-requires-clause-stands
take-requires-clause-stands g c = (c.requires.stands.0, c.requires.stands.1, c.requires.stands.2, let room = c.requires.stands.3 in omega (arith, room))

pub returns-in_err-take-clause-full : goal.returns-in_err-take-clause-full
returns-in_err-take-clause-full g c = λ settings r amid was.
    let o = partition_object settings in
    let p = c.args.partition in
    let why = handed_on c.from_residual.result c.in_err-take.field-0.0 InFlight c.from_residual.ensures.1 was in
    let up : GivesUpSo r (λ s. takes o s r p (Resend r.members)) = subst (λ n. GivesUpSo r (λ s. takes o s r p (Resend n))) amid.holds.members (c.in_err-take.ensures.full settings r amid (ap Err why)) in
    ends_later o r p (ends_again o r p (gives_up_first r (resent o r p) (again o p) (takes_goes o r p (Resend r.members) refl) (λ x. first_goes o x p) up))

pub resend_first-requires-clause-stands : goal.resend_first-requires-clause-stands
resend_first-requires-clause-stands g c =
    let settings = c.requires.stands.0 in
    let r = c.requires.stands.1 in
    let amid = c.requires.stands.2 in
    let o = partition_object settings in
    let p = c.args.partition in
    let room = c.requires.stands.3 in
    let told = (taken_by (ap Resend amid.holds.members) (c.in_ok-take.ensures.ok settings r amid)).on in
    let few = takes_few o told.skips r p (Resend r.members) p in
    let calls = (takes_kept o told.skips r p (Resend r.members)).calls in
    (settings, takes o told.skips r p (Resend r.members), told.on.amid, omega (arith, room, few, calls))

pub returns-in_err-resend_first-clause-full : goal.returns-in_err-resend_first-clause-full
returns-in_err-resend_first-clause-full g c = λ settings r amid was.
    let o = partition_object settings in
    let p = c.args.partition in
    let told = (taken_by (ap Resend amid.holds.members) (c.in_ok-take.ensures.ok settings r amid)).on in
    let now = takes o told.skips r p (Resend r.members) in
    let why = handed_on c.from_residual-in_err-resend_first.result c.in_err-resend_first.field-0.0 InFlight c.from_residual-in_err-resend_first.ensures.1 was in
    ends_later o r p (ends_again o r p (gives_up_after c.take.new.self c.take.new.self r (resent o r p) (again o p) (takes_goes o r p (Resend r.members) refl) (λ x. first_goes o x p) c.args.out.now.items c.take.new.out.items told
    (c.in_err-resend_first.ensures.full settings now told.on.amid (ap Err why)) (λ s. first_run s now p told.on.amid.run)))

pub deliver_first-requires-clause-stands : goal.deliver_first-requires-clause-stands
deliver_first-requires-clause-stands g c =
    let settings = c.requires.stands.0 in
    let r = c.requires.stands.1 in
    let amid = c.requires.stands.2 in
    let o = partition_object settings in
    let p = c.args.partition in
    let told = (taken_by (ap Resend amid.holds.members) (c.in_ok-take.ensures.ok settings r amid)).on in
    let now = takes o told.skips r p (Resend r.members) in
    let on = c.in_ok-resend_first.ensures.ok settings now told.on.amid in
    let room = c.requires.stands.3 in
    let few = takes_few o told.skips r p (Resend r.members) p in
    let more = first_few o on.skips p p now in
    let calls = (takes_kept o told.skips r p (Resend r.members)).calls in
    let calls_then = (first_kept o on.skips now p).calls in
    (settings, first_resends o on.skips now p, on.on.amid, omega (arith, room, few, more, calls, calls_then))

pub returns-in_err-deliver_first-clause-full : goal.returns-in_err-deliver_first-clause-full
returns-in_err-deliver_first-clause-full g c = λ settings r amid was.
    let o = partition_object settings in
    let p = c.args.partition in
    let told = (taken_by (ap Resend amid.holds.members) (c.in_ok-take.ensures.ok settings r amid)).on in
    let now = takes o told.skips r p (Resend r.members) in
    let on = c.in_ok-resend_first.ensures.ok settings now told.on.amid in
    let sent = so_further c.take.new.self c.resend_first.new.self r (resent o r p) (again o p) (takes_goes o r p (Resend r.members) refl) (λ x. first_goes o x p) c.args.out.now.items c.take.new.out.items told c.resend_first.new.out.items on in
    let mid = again o p (resent o r p sent.0.skips) sent.0.skips in
    let why = handed_on c.from_residual-in_err-deliver_first.result c.in_err-deliver_first.field-0.0 InFlight c.from_residual-in_err-deliver_first.ensures.1 was in
    ends_later o r p (gives_up_after c.resend_first.new.self c.resend_first.new.self r (sent_again o r p) (flows o p) (sent_goes o r p) (λ x. flowed_goes o x p most_deliveries) c.args.out.now.items c.resend_first.new.out.items sent.0
    (c.in_err-deliver_first.ensures.full settings mid sent.0.on.amid (ap Err why)) (λ s. flowed_run s mid p most_deliveries sent.0.on.amid.run))

pub take-requires-2-clause-stands : goal.take-requires-2-clause-stands
take-requires-2-clause-stands g c =
    let settings = c.requires.stands.0 in
    let r = c.requires.stands.1 in
    let amid = c.requires.stands.2 in
    let o = partition_object settings in
    let p = c.args.partition in
    let told = (taken_by (ap Resend amid.holds.members) (c.in_ok-take.ensures.ok settings r amid)).on in
    let now = takes o told.skips r p (Resend r.members) in
    let on = c.in_ok-resend_first.ensures.ok settings now told.on.amid in
    let mid = first_resends o on.skips now p in
    let flowed_on = (c.in_ok-deliver_first.ensures.ok settings mid on.on.amid).on in
    (settings, flowed o flowed_on.skips mid p most_deliveries, flowed_on.on.amid, late_room o told.skips on.skips flowed_on.skips r p c.requires.stands.3)

pub returns-in_err-take-2-clause-full : goal.returns-in_err-take-2-clause-full
returns-in_err-take-2-clause-full g c = λ settings r amid was.
    let o = partition_object settings in
    let p = c.args.partition in
    let told = (taken_by (ap Resend amid.holds.members) (c.in_ok-take.ensures.ok settings r amid)).on in
    let now = takes o told.skips r p (Resend r.members) in
    let on = c.in_ok-resend_first.ensures.ok settings now told.on.amid in
    let sent = so_further c.take.new.self c.resend_first.new.self r (resent o r p) (again o p) (takes_goes o r p (Resend r.members) refl) (λ x. first_goes o x p) c.args.out.now.items c.take.new.out.items told c.resend_first.new.out.items on in
    let mid = again o p (resent o r p sent.0.skips) sent.0.skips in
    let flowed_on = (c.in_ok-deliver_first.ensures.ok settings mid sent.0.on.amid).on in
    let late = so_further c.resend_first.new.self c.deliver_first.new.self r (sent_again o r p) (flows o p) (sent_goes o r p) (λ x. flowed_goes o x p most_deliveries) c.args.out.now.items c.resend_first.new.out.items sent.0 c.deliver_first.new.out.items flowed_on in
    let last = flows o p (sent_again o r p late.0.skips) late.0.skips in
    let why = handed_on c.from_residual-in_err-take-2.result c.in_err-take-2.field-0.0 InFlight c.from_residual-in_err-take-2.ensures.1 was in
    gives_up_after c.deliver_first.new.self c.deliver_first.new.self r (late_flows o r p) (advances o p) (late_goes o r p) (λ x. takes_goes o x p Advance refl) c.args.out.now.items c.deliver_first.new.out.items late.0
    (c.in_err-take-2.ensures.full settings last late.0.on.amid (ap Err why)) (λ s. takes_run s last p Advance late.0.on.amid.run refl)

pub returns-clause-ok : goal.returns-clause-ok
returns-clause-ok g c = λ settings r amid.
    let o = partition_object settings in
    let p = c.args.partition in
    let start = c.args.out.now.items in
    let told = (taken_by (ap Resend amid.holds.members) (c.in_ok-take.ensures.ok settings r amid)).on in
    let now = takes o told.skips r p (Resend r.members) in
    let on = c.in_ok-resend_first.ensures.ok settings now told.on.amid in
    let sent = so_further c.take.new.self c.resend_first.new.self r (resent o r p) (again o p) (takes_goes o r p (Resend r.members) refl) (λ x. first_goes o x p) start c.take.new.out.items told c.resend_first.new.out.items on in
    let mid = again o p (resent o r p sent.0.skips) sent.0.skips in
    let flowed_on = (c.in_ok-deliver_first.ensures.ok settings mid sent.0.on.amid).on in
    let late = so_further c.resend_first.new.self c.deliver_first.new.self r (sent_again o r p) (flows o p) (sent_goes o r p) (λ x. flowed_goes o x p most_deliveries) start c.resend_first.new.out.items sent.0 c.deliver_first.new.out.items flowed_on in
    let last = flows o p (sent_again o r p late.0.skips) late.0.skips in
    let taken = (c.in_ok-take-2.ensures.ok settings last late.0.on.amid).on in
    (so_further c.deliver_first.new.self c.take-2.new.self r (late_flows o r p) (advances o p) (late_goes o r p) (λ x. takes_goes o x p Advance refl) start c.deliver_first.new.out.items late.0 c.take-2.new.out.items taken).0
