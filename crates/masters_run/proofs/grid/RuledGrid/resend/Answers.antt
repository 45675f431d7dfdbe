-- Nothing is published by that, so nothing happens.
use Rattle.std.proofs.Common.{[], length, refl}
use Rattle.std.specs.Vec.{with_item}
use Rattle.master_log.specs.Outcomes.{done_if}
use Rattle.masters_protocol.specs.Machine.{Resend}
use Rattle.masters_world.specs.Machine.{MasterResend}
use Rattle.call_engine.specs.Objects.{partition_object}
use Rattle.masters_run.specs.Runs.{masters_at, ruled_at}
use Rattle.masters_run.proofs.AskedLines.{resending_publishes_nothing}
use Rattle.masters_run.proofs.MastersAsked.{are_there, masters_read, not_full, have_asked}
use Rattle.masters_run.proofs.PublishedEvents.{none_follows}
use Rattle.masters_run.proofs.RuledMasters.{events_of, asked_so}
use Rattle.masters_run.proofs.grid.RuledGrid.resend.Goals as goal

pub resend-requires : goal.resend-requires
resend-requires g c =
    let may = c.requires in
    let are = masters_read _ c.args.self.now c.args.partition may may.settings may.run may.amid c.from.result c.index_mut.result.now c.from.ensures c.index_mut.ensures.value in
    (events_of are, are.stands)

pub returns-clause-ok : goal.returns-clause-ok
returns-clause-ok g c = λ settings s amid.
    let old = c.args.self.now in
    let p = c.args.partition in
    let l = MasterResend c.args.member in
    let kept = c.index_mut.result.now in
    let next = c.resend.new.self in
    let new = record old { masters = with_item old.masters c.from.result next } in
    let there = are_there _ old p c.requires settings s amid in
    let are = masters_read _ old p c.requires settings s amid c.from.result kept c.from.ensures c.index_mut.ensures.value in
    let so = asked_so are l (Resend c.args.member) (done_if c.in_ok-done.done) refl (c.in_ok-done.ensures.ok (events_of are) are.stands) in
    let h = have_asked _ settings old s p l amid there kept next are c.from.result c.from.ensures c.index_mut.ensures.value new refl refl
    (not_full settings s p l (Resend c.args.member) refl (c.in_ok-find_room.ensures.room settings s amid)) refl so.0 so.1 (length (masters_at s p).published) refl in
    record { on = none_follows _ settings new s p l (length (masters_at s p).published) h (resending_publishes_nothing (ruled_at (partition_object settings) s p) c.args.member) []; outcome = so.2 }
