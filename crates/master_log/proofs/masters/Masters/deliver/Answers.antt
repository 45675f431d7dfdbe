-- A message that is there leaves its link.
use Rattle.std.proofs.Common.{◌<◌, ◌≤◌, length, refl, sym, ◌∙◌, subst}
use Rattle.masters_protocol.specs.Members.{Dropped, NothingDone}
use Rattle.masters_protocol.specs.Machine.{Deliver, with_packets, taken_out, handed_over}
use Rattle.master_log.specs.Standing.{run_of}
use Rattle.master_log.proofs.Runs.{ran_to, packet_at, nothing_there, dropped_there}
use Rattle.master_log.proofs.Showing.{less, taken_shows}
use Rattle.master_log.proofs.masters.Masters.deliver.Goals as goal

pub returns-then-place-list-clause-ok : goal.returns-then-place-list-clause-ok
returns-then-place-list-clause-ok c events stands =
    let old = c.args.self.now in
    let w = run_of old events in
    let past = subst (λ xs. length xs ≤ c.args.place) c.list.ensures c.if-place-list.true in
    ran_to old old events stands refl (Deliver c.args.from c.args.to c.args.place) w NothingDone
    (nothing_there old w stands.shows c.args.from c.args.to c.args.place (λ p. handed_over (with_packets w (taken_out c.args.from c.args.to c.args.place w.packets)) p) past) stands.shows

pub returns-then-not-is_live-clause-ok : goal.returns-then-not-is_live-clause-ok
returns-then-not-is_live-clause-ok c events stands =
    let old = c.args.self.now in
    let w = run_of old events in
    let f = c.args.from in
    let t = c.args.to in
    let i = c.args.place in
    let p = packet_at old w stands.shows f t i (subst (λ xs. i < length xs) c.list.ensures c.if-place-list.false) in
    let new = record old { links = c.lose.new.self } in
    ran_to old new events stands refl (Deliver f t i) (less w f t i) Dropped (dropped_there old w stands.shows f t i p.0 p.1 (sym (c.is_live.ensures events stands) ∙ c.if-not-is_live.true))
    (taken_shows old w stands.shows new f t i refl c.lose.ensures.ends c.lose.ensures.lists)
