-- A live member is marked.
use Rattle.std.proofs.Common.{◌++◌, ◌∷◌, [], true, refl, ap, sym, ◌∙◌}
use Rattle.std.specs.Prelude.{slice_set}
use Rattle.std.specs.Vec.{with_item}
use Rattle.masters_protocol.specs.Members.{Done, NothingDone}
use Rattle.masters_protocol.specs.Machine.{Masters as Machine, Crash}
use Rattle.master_wire.specs.declared.decision.Decision.{Decision}
use Rattle.master_log.specs.Standing.{run_of, has_crashed}
use Rattle.master_log.proofs.Proposing.{crash_there, crash_nowhere, crashed_more}
use Rattle.master_log.proofs.Runs.{ran_to}
use Rattle.master_log.proofs.Seen.{live_within, marked_within}
use Rattle.master_log.proofs.Showing.{crashed_shows}
use Rattle.master_log.proofs.masters.Masters.crash.Goals as goal

pub returns-then-not-is_live : goal.returns-then-not-is_live
returns-then-not-is_live c events stands =
    let old = c.args.self.now in
    let w = run_of old events in
    ran_to old old events stands refl (Crash c.args.member) w NothingDone (crash_nowhere w c.args.member (sym (c.is_live.ensures events stands) ∙ c.if-not-is_live.true)) stands.shows

pub returns : goal.returns
returns c events stands =
    let old = c.args.self.now in
    let w : Machine Decision = run_of old events in
    let m = c.args.member in
    let lives = sym (c.is_live.ensures events stands) ∙ c.if-not-is_live.false in
    let new = record old { crashed = with_item old.crashed c.from.result true } in
    ran_to old new events stands refl (Crash m) (record w { crashed = w.crashed ++ m ∷ [] }) Done (crash_there w m lives)
    (crashed_shows old w stands.shows m new
    (λ k. ap (λ i. has_crashed (slice_set old.crashed.items i true) k) c.from.ensures ∙ crashed_more old.crashed.items w.crashed m (marked_within old events stands m (live_within old events stands m lives)) stands.shows.crashed k) refl refl refl refl refl refl)
