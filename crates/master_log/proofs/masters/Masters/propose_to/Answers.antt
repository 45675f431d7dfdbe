-- It is refused as busy or full, or put forward.
use Rattle.std.proofs.Common.{◌≡◌, ◌<◌, ◌≤◌, ◌+◌, false, length, refl, ap, sym, ◌∙◌, subst, arith}
use Rattle.masters_protocol.specs.Members.{Proposed, RefusedBusy, RefusedFull}
use Rattle.masters_protocol.specs.Machine.{Masters as Machine, Propose, is_ahead}
use Rattle.master_wire.specs.declared.decision.Decision.{Decision}
use Rattle.master_log.specs.Standing.{HasRun, run_of}
use Rattle.master_log.proofs.Handing.{log_short}
use Rattle.master_log.proofs.Proposing.{master_lives, ahead, not_ahead, full, propose_busy, propose_full}
use Rattle.master_log.proofs.Runs.{ran_to}
use Rattle.master_log.proofs.Seen.{live_within, member_at, size_within, log_is}
use Rattle.master_log.proofs.masters.Masters.propose_to.Goals as goal

pub index-requires : goal.index-requires
index-requires c =
    let old = c.args.self.now in
    let m = c.args.leader in
    let events = c.requires.stands.0 in
    let stands = c.requires.stands.1 in
    subst (λ k. k < old.members.len) (sym c.from.ensures) (size_within old events stands m (live_within old events stands m (master_lives (run_of old events) c.args.decision.now m (c.requires.leads events stands))))

pub overflow_cast-result : goal.overflow_cast-result
overflow_cast-result c =
    let old = c.args.self.now in
    let m = c.args.leader in
    let d = c.args.decision.now in
    let n = c.index.result.now in
    let events = c.requires.stands.0 in
    let stands = c.requires.stands.1 in
    let w : Machine Decision = run_of old events in
    let leads = c.requires.leads events stands in
    let at = member_at old events stands m c.from.result n c.from.ensures (live_within old events stands m (master_lives w d m leads)) c.index.ensures in
    let log = c.log-length.result.now in
    let same : log ≡ n.log = c.log-length.ensures in
    let short = log_short old events stands m n at in
    let long = ap (λ xs. length xs) same in
    omega (arith, short, long)

pub returns-then-self-length-clause-answered : goal.returns-then-self-length-clause-answered
returns-then-self-length-clause-answered c events stands =
    let old = c.args.self.now in
    let m = c.args.leader in
    let d = c.args.decision.now in
    let n = c.index.result.now in
    let w : Machine Decision = run_of old events in
    let leads = c.requires.leads events stands in
    let at = member_at old events stands m c.from.result n c.from.ensures (live_within old events stands m (master_lives w d m leads)) c.index.ensures in
    let log = c.log-length.result.now in
    let same : log ≡ n.log = c.log-length.ensures in
    subst (λ xs. HasRun old old events (Propose d) (RefusedBusy (length xs))) (sym same)
    (ran_to old old events stands refl (Propose d) w (RefusedBusy (length n.log)) (propose_busy w d m leads n at (ahead old.published _ _ stands.shows.length (subst (λ xs. old.published < length xs) same c.if-self-length.true))) stands.shows)

pub returns-then-length-ge-MOST_DECISIONS-clause-answered : goal.returns-then-length-ge-MOST_DECISIONS-clause-answered
returns-then-length-ge-MOST_DECISIONS-clause-answered c events stands =
    let old = c.args.self.now in
    let m = c.args.leader in
    let d = c.args.decision.now in
    let n = c.index.result.now in
    let w : Machine Decision = run_of old events in
    let leads = c.requires.leads events stands in
    let at = member_at old events stands m c.from.result n c.from.ensures (live_within old events stands m (master_lives w d m leads)) c.index.ensures in
    let log = c.log-length.result.now in
    let same : log ≡ n.log = c.log-length.ensures in
    ran_to old old events stands refl (Propose d) w RefusedFull (propose_full w d m leads n at (not_ahead old.published _ _ stands.shows.length (subst (λ xs. length xs ≤ old.published) same c.if-self-length.false))
    (full n (subst (λ xs. 10000 ≤ length xs) same c.if-length-ge-MOST_DECISIONS.true))) stands.shows

pub put_forward-requires-clause-free : goal.put_forward-requires-clause-free
put_forward-requires-clause-free c = λ events stands.
    let old = c.args.self.now in
    let m = c.args.leader in
    let d = c.args.decision.now in
    let n = c.index.result.now in
    let w : Machine Decision = run_of old events in
    let leads = c.requires.leads events stands in
    let at = member_at old events stands m c.from.result n c.from.ensures (live_within old events stands m (master_lives w d m leads)) c.index.ensures in
    let log = c.log-length.result.now in
    let same : log ≡ n.log = c.log-length.ensures in
    subst (λ xs. is_ahead w xs ≡ false) (sym (log_is old events stands m n at)) (not_ahead old.published _ _ stands.shows.length (subst (λ xs. length xs ≤ old.published) same c.if-self-length.false))

pub put_forward-requires-clause-room : goal.put_forward-requires-clause-room
put_forward-requires-clause-room c = λ events stands.
    let old = c.args.self.now in
    let m = c.args.leader in
    let d = c.args.decision.now in
    let n = c.index.result.now in
    let w : Machine Decision = run_of old events in
    let leads = c.requires.leads events stands in
    let at = member_at old events stands m c.from.result n c.from.ensures (live_within old events stands m (master_lives w d m leads)) c.index.ensures in
    let log = c.log-length.result.now in
    let same : log ≡ n.log = c.log-length.ensures in
    subst (λ xs. length xs < 10000) (same ∙ sym (log_is old events stands m n at)) c.if-length-ge-MOST_DECISIONS.false

pub returns-clause-answered : goal.returns-clause-answered
returns-clause-answered c events stands =
    let old = c.args.self.now in
    let m = c.args.leader in
    let d = c.args.decision.now in
    let n = c.index.result.now in
    let w : Machine Decision = run_of old events in
    let leads = c.requires.leads events stands in
    let at = member_at old events stands m c.from.result n c.from.ensures (live_within old events stands m (master_lives w d m leads)) c.index.ensures in
    let log = c.log-length.result.now in
    let same : log ≡ n.log = c.log-length.ensures in
    subst (λ xs. HasRun old c.put_forward.new.self events (Propose d) (Proposed (length xs + 1))) (log_is old events stands m n at ∙ sym same) (c.in_ok-put_forward.ensures.ok events stands)
