-- What isn't answered goes out once more, where there is any.
use Rattle.std.proofs.Common.{refl, sym, ◌∙◌, subst}
use Rattle.masters_protocol.specs.Members.{Done, NothingDone, sent_again}
use Rattle.masters_protocol.specs.Machine.{Resend, resent, sending}
use Rattle.master_member.specs.Steps.{AreWritten}
use Rattle.master_log.specs.Standing.{run_of}
use Rattle.master_log.proofs.Proposing.{resend_nothing, resend_there, none_there, some_there, none_written, some_written}
use Rattle.master_log.proofs.Runs.{ran_to, dead}
use Rattle.master_log.proofs.Seen.{live_within, member_at}
use Rattle.master_log.proofs.Showing.{with_links, sent_shows}
use Rattle.master_log.proofs.masters.Masters.resend.Goals as goal

pub returns-then-not-is_live-clause-ok : goal.returns-then-not-is_live-clause-ok
returns-then-not-is_live-clause-ok c events stands =
    let old = c.args.self.now in
    let w = run_of old events in
    ran_to old old events stands refl (Resend c.args.member) w NothingDone (dead w c.args.member (resent w c.args.member) (sym (c.is_live.ensures events stands) ∙ c.if-not-is_live.true)) stands.shows

pub returns-then-is_empty-clause-ok : goal.returns-then-is_empty-clause-ok
returns-then-is_empty-clause-ok c events stands =
    let old = c.args.self.now in
    let w = run_of old events in
    let m = c.args.member in
    let n = c.index.result.now in
    let lives = sym (c.is_live.ensures events stands) ∙ c.if-not-is_live.false in
    let at = member_at old events stands m c.from.result n c.from.ensures (live_within old events stands m lives) c.index.ensures in
    let wrote = subst (λ k. AreWritten c.in_ok-sent.sent.items (sent_again k m n)) stands.shows.size c.in_ok-sent.ensures.sent in
    let none = none_there c.in_ok-sent.sent.len c.in_ok-sent.sent.items c.in_ok-sent.sent.ok.0 (sym c.is_empty.ensures ∙ c.if-is_empty.true) in
    let new = record old { links = c.reserve.new.self } in
    ran_to old new events stands refl (Resend m) w NothingDone (resend_nothing w m n at lives (none_written c.in_ok-sent.sent.items (sent_again w.size m n) wrote none))
    (with_links old w stands.shows new refl c.in_ok-reserve.ensures.ends c.in_ok-reserve.ensures.lists)

pub returns-clause-ok : goal.returns-clause-ok
returns-clause-ok c events stands =
    let old = c.args.self.now in
    let w = run_of old events in
    let m = c.args.member in
    let n = c.index.result.now in
    let lives = sym (c.is_live.ensures events stands) ∙ c.if-not-is_live.false in
    let at = member_at old events stands m c.from.result n c.from.ensures (live_within old events stands m lives) c.index.ensures in
    let wrote = subst (λ k. AreWritten c.in_ok-sent.sent.items (sent_again k m n)) stands.shows.size c.in_ok-sent.ensures.sent in
    let some = some_there c.in_ok-sent.sent.len c.in_ok-sent.sent.items c.in_ok-sent.sent.ok.0 (sym c.is_empty.ensures ∙ c.if-is_empty.false) in
    let base = record old { links = c.reserve.new.self } in
    let new = record old { links = c.send_all.new.self } in
    ran_to old new events stands refl (Resend m) (sending w m (sent_again w.size m n)) Done (resend_there w m n at lives (some_written c.in_ok-sent.sent.items (sent_again w.size m n) wrote some))
    (sent_shows base w (with_links old w stands.shows base refl c.in_ok-reserve.ensures.ends c.in_ok-reserve.ensures.lists) new m (sent_again w.size m n) c.in_ok-sent.sent.items wrote refl c.send_all.ensures.ends c.send_all.ensures.lists)
