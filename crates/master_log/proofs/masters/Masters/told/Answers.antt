-- It hears of the crash, where that may be told.
use Rattle.std.proofs.Common.{refl, ap, sym, ◌∙◌, subst, inl, inr}
use Rattle.std.specs.Prelude.{slice_set}
use Rattle.std.specs.Vec.{with_item}
use Rattle.masters_protocol.specs.Members.{Done, NothingDone, hearing}
use Rattle.masters_protocol.specs.Machine.{Told}
use Rattle.master_member.specs.Steps.{HasStepped}
use Rattle.master_log.specs.Standing.{run_of}
use Rattle.master_log.proofs.Runs.{ran_to, told_there, told_nowhere, heard, step_ran}
use Rattle.master_log.proofs.Seen.{live_within, member_at}
use Rattle.master_log.proofs.masters.Masters.told.Goals as goal

pub returns-then-not-has_crashed-clause-ok : goal.returns-then-not-has_crashed-clause-ok
returns-then-not-has_crashed-clause-ok c events stands =
    let old = c.args.self.now in
    let w = run_of old events in
    ran_to old old events stands refl (Told c.args.member c.args.crashed) w NothingDone (told_nowhere w c.args.member c.args.crashed (inl (sym (c.has_crashed.ensures events stands) ∙ c.if-not-has_crashed.true))) stands.shows

pub returns-then-not-is_live-clause-ok : goal.returns-then-not-is_live-clause-ok
returns-then-not-is_live-clause-ok c events stands =
    let old = c.args.self.now in
    let w = run_of old events in
    ran_to old old events stands refl (Told c.args.member c.args.crashed) w NothingDone (told_nowhere w c.args.member c.args.crashed (inr (sym (c.is_live.ensures events stands) ∙ c.if-not-is_live.true))) stands.shows

pub returns-clause-ok : goal.returns-clause-ok
returns-clause-ok c events stands =
    let old = c.args.self.now in
    let w = run_of old events in
    let m = c.args.member in
    let x = c.args.crashed in
    let n = c.index_mut.result.now in
    let lives = sym (c.is_live.ensures events stands) ∙ c.if-not-is_live.false in
    let at = member_at old events stands m c.from.result n c.from.ensures (live_within old events stands m lives) c.index_mut.ensures.value in
    let mid = record old { members = with_item old.members c.from.result c.hear.new.self; links = c.reserve.new.self } in
    step_ran old events stands (Told m x) w refl refl refl refl m n at lives (hearing w.size m x n)
    (told_there w m n at lives x (sym (c.has_crashed.ensures events stands) ∙ c.if-not-has_crashed.false))
    old mid c.finish.new.self stands.shows c.hear.new.self c.in_ok-sent.sent.items
    (subst (λ k. HasStepped old.size m (hearing k m x n) c.hear.new.self c.in_ok-sent.sent.items) stands.shows.size c.in_ok-sent.ensures.ok)
    refl refl (ap (λ i. slice_set old.members.items i c.hear.new.self) c.from.ensures) refl refl refl c.in_ok-reserve.ensures.ends c.in_ok-reserve.ensures.lists
    c.finish.ensures.shows c.finish.ensures.size Done (heard w.size m x n)
