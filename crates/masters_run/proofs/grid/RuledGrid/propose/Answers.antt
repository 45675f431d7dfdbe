-- A decision is put to the masters: they take it on, and what they then published happens; or they refuse it, and are as they were.
use Rattle.std.proofs.Common.{[], ◌∷◌, Err, refl, ap, sym, ◌∙◌}
use Rattle.std.specs.Vec.{with_item}
use Rattle.call_engine.specs.Objects.{partition_object}
use Rattle.masters_protocol.specs.Machine.{Propose}
use Rattle.masters_protocol.specs.Members.{NothingDone, Proposed, RefusedBusy, RefusedFull}
use Rattle.masters_world.specs.Machine.{Asks, proposals}
use Rattle.replay_run.specs.declared.run_end.RunEnd.TheVariants.{InFlight}
use Rattle.replay_run.proofs.Asking.{handed_on}
use Rattle.masters_run.specs.Runs.{ruled_at}
use Rattle.masters_run.proofs.MastersAsked.{are_there, masters_read, not_full, is_next, have_asked, kept_publishes_nothing}
use Rattle.masters_run.proofs.Proposing.{is_proposed, one_written}
use Rattle.masters_run.proofs.PublishedEvents.{none_follows}
use Rattle.masters_run.proofs.RuledMasters.{events_of, proposed_at, still_masters}
use Rattle.masters_run.proofs.grid.RuledGrid.propose.Goals as goal

pub propose-requires : goal.propose-requires
propose-requires g c =
    let may = c.requires.may in
    let are = masters_read _ c.args.self.now c.args.partition may may.settings may.run may.amid c.from.result c.index_mut.result.now c.from.ensures c.index_mut.ensures.value in
    (events_of are, are.stands)

pub follow-requires : goal.follow-requires
follow-requires g c =
    let settings = c.requires.may.settings in
    let s = c.requires.may.run in
    let amid = c.requires.may.amid in
    let e = c.requires.event in
    let by = c.requires.proposes in
    let old = c.args.self.now in
    let p = c.args.partition in
    let l = Asks e in
    let kept = c.index_mut.result.now in
    let next = c.propose.new.self in
    let new = record old { masters = with_item old.masters c.from.result next } in
    let there = are_there _ old p c.requires.may settings s amid in
    let are = masters_read _ old p c.requires.may settings s amid c.from.result kept c.from.ensures c.index_mut.ensures.value in
    let one = one_written (proposals (ruled_at (partition_object settings) s p) e) c.args.decision.now by in
    let its = is_proposed (ruled_at (partition_object settings) s p) e one.decision one.one in
    let so = proposed_at are e c.args.decision.now (Proposed c.in-Ok.number) by (c.in-Ok.ensures.answered (events_of are) are.stands) in
    let h = have_asked _ settings old s p l amid there kept next are c.from.result c.from.ensures c.index_mut.ensures.value new refl refl
    (not_full settings s p l (Propose one.decision) its.asked (c.in_ok-find_room.ensures.room settings s amid)) its.later so.0 so.1 c.published-before.result (c.published-before.ensures settings s amid) in
    (settings, s, l, h, c.requires.may.room)

pub returns-in_err-follow-clause-full : goal.returns-in_err-follow-clause-full
returns-in_err-follow-clause-full g c = λ settings s e amid by was.
    let old = c.args.self.now in
    let p = c.args.partition in
    let l = Asks e in
    let kept = c.index_mut.result.now in
    let next = c.propose.new.self in
    let new = record old { masters = with_item old.masters c.from.result next } in
    let there = are_there _ old p c.requires.may settings s amid in
    let are = masters_read _ old p c.requires.may settings s amid c.from.result kept c.from.ensures c.index_mut.ensures.value in
    let one = one_written (proposals (ruled_at (partition_object settings) s p) e) c.args.decision.now by in
    let its = is_proposed (ruled_at (partition_object settings) s p) e one.decision one.one in
    let so = proposed_at are e c.args.decision.now (Proposed c.in-Ok.number) by (c.in-Ok.ensures.answered (events_of are) are.stands) in
    let h = have_asked _ settings old s p l amid there kept next are c.from.result c.from.ensures c.index_mut.ensures.value new refl refl
    (not_full settings s p l (Propose one.decision) its.asked (c.in_ok-find_room.ensures.room settings s amid)) its.later so.0 so.1 c.published-before.result (c.published-before.ensures settings s amid) in
    let why = handed_on c.from_residual-in_err-follow.result c.in_err-follow.field-0.0 InFlight c.from_residual-in_err-follow.ensures.1 was in
    c.in_err-follow.ensures.full settings s l h (ap Err why)

pub returns-clause-ok : goal.returns-clause-ok
returns-clause-ok g c = λ settings s e amid by.
    let old = c.args.self.now in
    let p = c.args.partition in
    let l = Asks e in
    let kept = c.index_mut.result.now in
    let next = c.propose.new.self in
    let new = record old { masters = with_item old.masters c.from.result next } in
    let there = are_there _ old p c.requires.may settings s amid in
    let are = masters_read _ old p c.requires.may settings s amid c.from.result kept c.from.ensures c.index_mut.ensures.value in
    let one = one_written (proposals (ruled_at (partition_object settings) s p) e) c.args.decision.now by in
    let its = is_proposed (ruled_at (partition_object settings) s p) e one.decision one.one in
    let so = proposed_at are e c.args.decision.now (Proposed c.in-Ok.number) by (c.in-Ok.ensures.answered (events_of are) are.stands) in
    let h = have_asked _ settings old s p l amid there kept next are c.from.result c.from.ensures c.index_mut.ensures.value new refl refl
    (not_full settings s p l (Propose one.decision) its.asked (c.in_ok-find_room.ensures.room settings s amid)) its.later so.0 so.1 c.published-before.result (c.published-before.ensures settings s amid) in
    record { on = c.in_ok-follow.ensures.ok settings s l h; outcome = so.2 }

pub returns-in-Err-NoMaster-clause-ok : goal.returns-in-Err-NoMaster-clause-ok
returns-in-Err-NoMaster-clause-ok g c = λ settings s e amid by.
    let old = c.args.self.now in
    let p = c.args.partition in
    let l = Asks e in
    let kept = c.index_mut.result.now in
    let next = c.propose.new.self in
    let new = record old { masters = with_item old.masters c.from.result next } in
    let there = are_there _ old p c.requires.may settings s amid in
    let are = masters_read _ old p c.requires.may settings s amid c.from.result kept c.from.ensures c.index_mut.ensures.value in
    let one = one_written (proposals (ruled_at (partition_object settings) s p) e) c.args.decision.now by in
    let its = is_proposed (ruled_at (partition_object settings) s p) e one.decision one.one in
    let so = proposed_at are e c.args.decision.now NothingDone by ((rw c.in-Err-NoMaster.field-0-is at c.in-Err-NoMaster.ensures).answered (events_of are) are.stands) in
    let h = have_asked _ settings old s p l amid there kept next are c.from.result c.from.ensures c.index_mut.ensures.value new refl refl
    (not_full settings s p l (Propose one.decision) its.asked (c.in_ok-find_room.ensures.room settings s amid)) its.later so.0 so.1 c.published-before.result (c.published-before.ensures settings s amid) in
    let none = kept_publishes_nothing _ settings new s p l c.published-before.result h next (is_next _ settings old s p l amid there kept next are c.from.result c.from.ensures c.index_mut.ensures.value new refl refl)
    (still_masters are (c.in-Err-NoMaster.ensures.err (events_of are) are.stands)) in
    record { on = none_follows _ settings new s p l c.published-before.result h none c.args.out.now.items; outcome = so.2 }

pub returns-in-Err-Busy-clause-ok : goal.returns-in-Err-Busy-clause-ok
returns-in-Err-Busy-clause-ok g c = λ settings s e amid by.
    let old = c.args.self.now in
    let p = c.args.partition in
    let l = Asks e in
    let kept = c.index_mut.result.now in
    let next = c.propose.new.self in
    let new = record old { masters = with_item old.masters c.from.result next } in
    let there = are_there _ old p c.requires.may settings s amid in
    let are = masters_read _ old p c.requires.may settings s amid c.from.result kept c.from.ensures c.index_mut.ensures.value in
    let one = one_written (proposals (ruled_at (partition_object settings) s p) e) c.args.decision.now by in
    let its = is_proposed (ruled_at (partition_object settings) s p) e one.decision one.one in
    let so = proposed_at are e c.args.decision.now (RefusedBusy c.in-Err-Busy.length) by ((rw c.in-Err-Busy.field-0-is at c.in-Err-Busy.ensures).answered (events_of are) are.stands) in
    let h = have_asked _ settings old s p l amid there kept next are c.from.result c.from.ensures c.index_mut.ensures.value new refl refl
    (not_full settings s p l (Propose one.decision) its.asked (c.in_ok-find_room.ensures.room settings s amid)) its.later so.0 so.1 c.published-before.result (c.published-before.ensures settings s amid) in
    let none = kept_publishes_nothing _ settings new s p l c.published-before.result h next (is_next _ settings old s p l amid there kept next are c.from.result c.from.ensures c.index_mut.ensures.value new refl refl)
    (still_masters are (c.in-Err-Busy.ensures.err (events_of are) are.stands)) in
    record { on = none_follows _ settings new s p l c.published-before.result h none c.args.out.now.items; outcome = so.2 ∙ ap (λ n. RefusedBusy n ∷ []) (sym c.in-Err-Busy.length-is) }

pub returns-in-Err-Full-clause-ok : goal.returns-in-Err-Full-clause-ok
returns-in-Err-Full-clause-ok g c = λ settings s e amid by.
    let old = c.args.self.now in
    let p = c.args.partition in
    let l = Asks e in
    let kept = c.index_mut.result.now in
    let next = c.propose.new.self in
    let new = record old { masters = with_item old.masters c.from.result next } in
    let there = are_there _ old p c.requires.may settings s amid in
    let are = masters_read _ old p c.requires.may settings s amid c.from.result kept c.from.ensures c.index_mut.ensures.value in
    let one = one_written (proposals (ruled_at (partition_object settings) s p) e) c.args.decision.now by in
    let its = is_proposed (ruled_at (partition_object settings) s p) e one.decision one.one in
    let so = proposed_at are e c.args.decision.now RefusedFull by ((rw c.in-Err-Full.field-0-is at c.in-Err-Full.ensures).answered (events_of are) are.stands) in
    let h = have_asked _ settings old s p l amid there kept next are c.from.result c.from.ensures c.index_mut.ensures.value new refl refl
    (not_full settings s p l (Propose one.decision) its.asked (c.in_ok-find_room.ensures.room settings s amid)) its.later so.0 so.1 c.published-before.result (c.published-before.ensures settings s amid) in
    let none = kept_publishes_nothing _ settings new s p l c.published-before.result h next (is_next _ settings old s p l amid there kept next are c.from.result c.from.ensures c.index_mut.ensures.value new refl refl)
    (still_masters are (c.in-Err-Full.ensures.err (events_of are) are.stands)) in
    record { on = none_follows _ settings new s p l c.published-before.result h none c.args.out.now.items; outcome = so.2 }
