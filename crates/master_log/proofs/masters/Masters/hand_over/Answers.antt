-- The member takes the message, which leaves its link.
use Rattle.std.proofs.Common.{refl, ap, subst}
use Rattle.std.specs.Prelude.{slice_set}
use Rattle.std.specs.Vec.{with_item}
use Rattle.masters_protocol.specs.Members.{Message, taking}
use Rattle.masters_protocol.specs.Machine.{Deliver}
use Rattle.master_wire.specs.declared.decision.Decision.{Decision}
use Rattle.master_member.specs.Outcomes.{outcome_of}
use Rattle.master_member.specs.Steps.{HasTaken}
use Rattle.master_log.specs.Standing.{run_of}
use Rattle.master_log.proofs.Handing.{message_short, log_short, member_rests}
use Rattle.master_log.proofs.Runs.{packet_at, taken_there, step_ran}
use Rattle.master_log.proofs.Seen.{live_within, member_at}
use Rattle.master_log.proofs.Showing.{less, with_links, taken_shows}
use Rattle.master_log.proofs.masters.Masters.hand_over.Goals as goal

pub take-requires-clause-rests : goal.take-requires-clause-rests
take-requires-clause-rests c =
    let old = c.args.self.now in
    let events = c.requires.stands.0 in
    let stands = c.requires.stands.1 in
    let lives = c.requires.lives events stands in
    let at = member_at old events stands c.args.to c.from.result c.index_mut.result.now c.from.ensures (live_within old events stands c.args.to lives) c.index_mut.ensures.value in
    member_rests old events stands c.args.to c.index_mut.result.now at lives

pub take-requires-clause-short : goal.take-requires-clause-short
take-requires-clause-short c =
    let old = c.args.self.now in
    let events = c.requires.stands.0 in
    let stands = c.requires.stands.1 in
    let at = member_at old events stands c.args.to c.from.result c.index_mut.result.now c.from.ensures (live_within old events stands c.args.to (c.requires.lives events stands)) c.index_mut.ensures.value in
    log_short old events stands c.args.to c.index_mut.result.now at

pub take-requires-clause-shorter : goal.take-requires-clause-shorter
take-requires-clause-shorter c =
    let old = c.args.self.now in
    let events = c.requires.stands.0 in
    let stands = c.requires.stands.1 in
    let p = packet_at old (run_of old events) stands.shows c.args.from c.args.to c.args.place c.requires.there in
    message_short old events stands c.args.from c.args.to c.args.place p.0 p.1 _ (c.in_ok-message.ensures (run_of old events) p.0 stands.shows p.1)

pub returns-clause-ok : goal.returns-clause-ok
returns-clause-ok c events stands =
    let old = c.args.self.now in
    let w = run_of old events in
    let f = c.args.from in
    let t = c.args.to in
    let i = c.args.place in
    let p = packet_at old w stands.shows f t i c.requires.there in
    let says = c.in_ok-message.ensures w p.0 stands.shows p.1 in
    let lives = c.requires.lives events stands in
    let n = c.index_mut.result.now in
    let at = member_at old events stands t c.from.result n c.from.ensures (live_within old events stands t lives) c.index_mut.ensures.value in
    let taken = c.in_ok-taken.taken in
    let facts = subst (λ (x : Message Decision). HasTaken old.size t (taking t f x n) c.take.new.self taken) says c.in_ok-taken.ensures.ok in
    let room_made = record old { links = c.reserve.new.self } in
    let base = record old { links = c.lose.new.self } in
    let mid = record old { members = with_item old.members c.from.result c.take.new.self; links = c.lose.new.self } in
    let shows = with_links old w stands.shows room_made refl c.in_ok-reserve.ensures.ends c.in_ok-reserve.ensures.lists in
    step_ran old events stands (Deliver f t i) (less w f t i) refl refl refl refl t n at lives (taking t f p.0.message n) (taken_there old w stands.shows f t i p.0 p.1 n at lives)
    base mid c.finish.new.self (taken_shows room_made w shows base f t i refl c.lose.ensures.ends c.lose.ensures.lists) c.take.new.self taken.sent.items facts.stepped
    refl refl (ap (λ k. slice_set old.members.items k c.take.new.self) c.from.ensures) refl refl refl refl (λ f t. refl) c.finish.ensures.shows c.finish.ensures.size (outcome_of taken.took) facts.took
