-- The serving master has one decision more, and its peers are to store it.
use Rattle.std.proofs.Common.{◌≡◌, ◌<◌, ◌+◌, false, length, refl, ap, sym, ◌∙◌, subst, arith}
use Rattle.std.specs.Prelude.{slice_set}
use Rattle.std.specs.Vec.{with_item}
use Rattle.masters_protocol.specs.Members.{Proposed, proposing}
use Rattle.masters_protocol.specs.Machine.{Masters as Machine, Propose, is_ahead}
use Rattle.master_wire.specs.declared.decision.Decision.{Decision}
use Rattle.master_member.specs.Steps.{HasStepped}
use Rattle.master_log.specs.Standing.{run_of}
use Rattle.master_log.proofs.Proposing.{master_lives, serves_then, not_full, propose_there}
use Rattle.master_log.proofs.Rooms.{room}
use Rattle.master_log.proofs.Runs.{step_ran}
use Rattle.master_log.proofs.Seen.{live_within, member_at, size_within, log_is}
use Rattle.master_log.proofs.masters.Masters.put_forward.Goals as goal

pub index_mut-requires : goal.index_mut-requires
index_mut-requires c =
    let old = c.args.self.now in
    let m = c.args.leader in
    let events = c.requires.stands.0 in
    let stands = c.requires.stands.1 in
    let leads = c.requires.leads events stands in
    subst (λ k. k < old.members.len) (sym c.from.ensures) (size_within old events stands m (live_within old events stands m (master_lives (run_of old events) c.args.decision.now m leads)))

pub propose-requires-clause-serving : goal.propose-requires-clause-serving
propose-requires-clause-serving c =
    let old = c.args.self.now in
    let m = c.args.leader in
    let events = c.requires.stands.0 in
    let stands = c.requires.stands.1 in
    let leads = c.requires.leads events stands in
    let at = member_at old events stands m c.from.result c.index_mut.result.now c.from.ensures (live_within old events stands m (master_lives (run_of old events) c.args.decision.now m leads)) c.index_mut.ensures.value in
    serves_then (run_of old events) c.args.decision.now m leads c.index_mut.result.now at

pub propose-requires-clause-room : goal.propose-requires-clause-room
propose-requires-clause-room c =
    let old = c.args.self.now in
    let m = c.args.leader in
    let events = c.requires.stands.0 in
    let stands = c.requires.stands.1 in
    let leads = c.requires.leads events stands in
    let at = member_at old events stands m c.from.result c.index_mut.result.now c.from.ensures (live_within old events stands m (master_lives (run_of old events) c.args.decision.now m leads)) c.index_mut.ensures.value in
    subst (λ xs. length xs < 10000) (log_is old events stands m c.index_mut.result.now at) (c.requires.room events stands)

pub finish-requires-clause-member : goal.finish-requires-clause-member
finish-requires-clause-member c =
    let old = c.args.self.now in
    let m = c.args.leader in
    let events = c.requires.stands.0 in
    let stands = c.requires.stands.1 in
    let leads = c.requires.leads events stands in
    size_within old events stands m (live_within old events stands m (master_lives (run_of old events) c.args.decision.now m leads))

pub finish-requires-clause-room : goal.finish-requires-clause-room
finish-requires-clause-room c =
    let old = c.args.self.now in
    let m = c.args.leader in
    let events = c.requires.stands.0 in
    let stands = c.requires.stands.1 in
    let leads = c.requires.leads events stands in
    let inside = subst (λ k. m < k) (sym stands.shows.size) (live_within old events stands m (master_lives (run_of old events) c.args.decision.now m leads)) in
    room c.reserve.new.self c.reserve.new.self m old.size c.in_ok-sent.sent.items (c.in_ok-reserve.ensures.ends ∙ stands.shows.ends ∙ sym stands.shows.size) inside c.in_ok-reserve.ensures.ok (λ f t. omega arith) c.in_ok-sent.ensures.ok.single

pub returns-clause-ok : goal.returns-clause-ok
returns-clause-ok c events stands =
    let old = c.args.self.now in
    let w : Machine Decision = run_of old events in
    let m = c.args.leader in
    let d = c.args.decision.now in
    let n = c.index_mut.result.now in
    let leads = c.requires.leads events stands in
    let lives = master_lives w d m leads in
    let at = member_at old events stands m c.from.result n c.from.ensures (live_within old events stands m lives) c.index_mut.ensures.value in
    let log = log_is old events stands m n at in
    let free = subst (λ xs. is_ahead w xs ≡ false) log (c.requires.free events stands) in
    let fits = subst (λ xs. length xs < 10000) log (c.requires.room events stands) in
    let mid = record old { members = with_item old.members c.from.result c.propose.new.self; links = c.reserve.new.self } in
    step_ran old events stands (Propose d) w refl refl refl refl m n at lives (proposing w.size m d n) (propose_there w d m leads n at free (not_full n fits))
    old mid c.finish.new.self stands.shows c.propose.new.self c.in_ok-sent.sent.items
    (subst (λ k. HasStepped old.size m (proposing k m d n) c.propose.new.self c.in_ok-sent.sent.items) stands.shows.size c.in_ok-sent.ensures.ok)
    refl refl (ap (λ i. slice_set old.members.items i c.propose.new.self) c.from.ensures) refl refl refl c.in_ok-reserve.ensures.ends c.in_ok-reserve.ensures.lists
    c.finish.ensures.shows c.finish.ensures.size _ (ap (λ xs. Proposed (length xs + 1)) log)
