use Rattle.std.proofs.Common.{Err, refl, ap}
use Rattle.std.specs.Vec.{with_item}
use Rattle.masters_protocol.specs.Machine.{Deliver}
use Rattle.masters_world.specs.Machine.{MasterDeliver}
use Rattle.master_member.specs.Outcomes.{outcome_of}
use Rattle.replay_run.specs.declared.run_end.RunEnd.TheVariants.{InFlight}
use Rattle.replay_run.proofs.Asking.{handed_on}
use Rattle.masters_run.proofs.MastersAsked.{are_there, masters_read, not_full, have_asked}
use Rattle.masters_run.proofs.RuledMasters.{events_of, asked_so}
use Rattle.masters_run.proofs.grid.RuledGrid.hand_over.Goals as goal

pub deliver-requires : goal.deliver-requires
deliver-requires g c =
    let may = c.requires in
    let are = masters_read _ c.args.self.now c.args.partition may may.settings may.run may.amid c.from.result c.index_mut.result.now c.from.ensures c.index_mut.ensures.value in
    (events_of are, are.stands)

pub follow-requires : goal.follow-requires
follow-requires g c =
    let may = c.requires in
    let settings = may.settings in
    let s = may.run in
    let amid = may.amid in
    let old = c.args.self.now in
    let p = c.args.partition in
    let l = MasterDeliver c.args.from c.args.to c.args.place in
    let kept = c.index_mut.result.now in
    let next = c.deliver.new.self in
    let new = record old { masters = with_item old.masters c.from.result next } in
    let there = are_there _ old p c.requires settings s amid in
    let are = masters_read _ old p c.requires settings s amid c.from.result kept c.from.ensures c.index_mut.ensures.value in
    let so = asked_so are l (Deliver c.args.from c.args.to c.args.place) (outcome_of c.in_ok-took.took) refl (c.in_ok-took.ensures.ok (events_of are) are.stands) in
    let h = have_asked _ settings old s p l amid there kept next are c.from.result c.from.ensures c.index_mut.ensures.value new refl refl
    (not_full settings s p l (Deliver c.args.from c.args.to c.args.place) refl (c.in_ok-find_room.ensures.room settings s amid)) refl so.0 so.1 c.published-before.result (c.published-before.ensures settings s amid) in
    (settings, s, l, h, may.room)

pub returns-in_err-follow-clause-full : goal.returns-in_err-follow-clause-full
returns-in_err-follow-clause-full g c = λ settings s amid was.
    let old = c.args.self.now in
    let p = c.args.partition in
    let l = MasterDeliver c.args.from c.args.to c.args.place in
    let kept = c.index_mut.result.now in
    let next = c.deliver.new.self in
    let new = record old { masters = with_item old.masters c.from.result next } in
    let there = are_there _ old p c.requires settings s amid in
    let are = masters_read _ old p c.requires settings s amid c.from.result kept c.from.ensures c.index_mut.ensures.value in
    let so = asked_so are l (Deliver c.args.from c.args.to c.args.place) (outcome_of c.in_ok-took.took) refl (c.in_ok-took.ensures.ok (events_of are) are.stands) in
    let h = have_asked _ settings old s p l amid there kept next are c.from.result c.from.ensures c.index_mut.ensures.value new refl refl
    (not_full settings s p l (Deliver c.args.from c.args.to c.args.place) refl (c.in_ok-find_room.ensures.room settings s amid)) refl so.0 so.1 c.published-before.result (c.published-before.ensures settings s amid) in
    let why = handed_on c.from_residual-in_err-follow.result c.in_err-follow.field-0.0 InFlight c.from_residual-in_err-follow.ensures.1 was in
    c.in_err-follow.ensures.full settings s l h (ap Err why)

pub returns-clause-ok : goal.returns-clause-ok
returns-clause-ok g c = λ settings s amid.
    let old = c.args.self.now in
    let p = c.args.partition in
    let l = MasterDeliver c.args.from c.args.to c.args.place in
    let kept = c.index_mut.result.now in
    let next = c.deliver.new.self in
    let new = record old { masters = with_item old.masters c.from.result next } in
    let there = are_there _ old p c.requires settings s amid in
    let are = masters_read _ old p c.requires settings s amid c.from.result kept c.from.ensures c.index_mut.ensures.value in
    let so = asked_so are l (Deliver c.args.from c.args.to c.args.place) (outcome_of c.in_ok-took.took) refl (c.in_ok-took.ensures.ok (events_of are) are.stands) in
    let h = have_asked _ settings old s p l amid there kept next are c.from.result c.from.ensures c.index_mut.ensures.value new refl refl
    (not_full settings s p l (Deliver c.args.from c.args.to c.args.place) refl (c.in_ok-find_room.ensures.room settings s amid)) refl so.0 so.1 c.published-before.result (c.published-before.ensures settings s amid) in
    record { on = c.in_ok-follow.ensures.ok settings s l h; outcome = so.2 }
