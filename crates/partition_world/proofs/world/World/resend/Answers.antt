-- A live primary sends again, and another live member doesn't.
use Rattle.std.proofs.Common.{sym, ◌∙◌, subst, Some}
use Rattle.grid_base.specs.Shelves.{meaning}
use Rattle.replica_node.specs.Taken.{HasSentAgain}
use Rattle.partition_world.proofs.ShelfLaws.{shelf_of}
use Rattle.partition_world.proofs.Resent.{small, not_resent, room, resent}
use Rattle.partition_world.proofs.world.World.resend.Goals as goal

pub resend-requires : goal.resend-requires
resend-requires g c =
    let S = g.S.Shelf in
    let laws = g.met.S.Shelf in
    let plan = c.requires.0 in
    let events = c.requires.1 in
    let comes = c.requires.2 in
    let shelf =
    shelf_of S.model laws.begins_empty laws.changes_by_effect laws.same_without_effect laws.made_by_effect laws.begins_within laws.grows_within
    laws.widens laws.one_spelling plan in
    small (meaning S.model plan) g.R.Records.records S.model.within_limits S.model.within S.model.applied shelf c.args.self.now events c.args.end comes (sym (c.is_live.ensures plan events comes.stands) ∙ c.if-not-is_live.false)
    c.from.result c.index.result.now c.from.ensures c.index.ensures

pub returns-in-None-clause-ok : goal.returns-in-None-clause-ok
returns-in-None-clause-ok g c plan events comes =
    let S = g.S.Shelf in
    let laws = g.met.S.Shelf in
    let shelf =
    shelf_of S.model laws.begins_empty laws.changes_by_effect laws.same_without_effect laws.made_by_effect laws.begins_within laws.grows_within
    laws.widens laws.one_spelling plan in
    not_resent (meaning S.model plan) g.R.Records.records S.model.within_limits S.model.within S.model.applied shelf c.args.self.now events c.args.end comes (sym (c.is_live.ensures plan events comes.stands) ∙ c.if-not-is_live.false)
    c.from.result c.index.result.now c.from.ensures c.index.ensures (subst (HasSentAgain S.model.snapshot_of S.model.state c.index.result.now) c.in-None.is c.in_ok-resend.ensures) c.reserve.new.self c.in_ok-reserve.ensures.ends c.in_ok-reserve.ensures.lists

pub send_all-requires : goal.send_all-requires
send_all-requires g c =
    let S = g.S.Shelf in
    let laws = g.met.S.Shelf in
    let plan = c.requires.0 in
    let events = c.requires.1 in
    let comes = c.requires.2 in
    let shelf =
    shelf_of S.model laws.begins_empty laws.changes_by_effect laws.same_without_effect laws.made_by_effect laws.begins_within laws.grows_within
    laws.widens laws.one_spelling plan in
    let sent : HasSentAgain S.model.snapshot_of S.model.state c.index.result.now (Some c.in-Some.out) = subst (HasSentAgain S.model.snapshot_of S.model.state c.index.result.now) c.in-Some.is c.in_ok-resend.ensures in
    room (meaning S.model plan) g.R.Records.records S.model.within_limits S.model.within S.model.applied shelf c.args.self.now events c.args.end comes (sym (c.is_live.ensures plan events comes.stands) ∙ c.if-not-is_live.false)
    c.from.result c.index.result.now c.from.ensures c.index.ensures sent.0 c.into_vec.result.items c.in-Some.out c.into_vec.ensures sent.1 c.reserve.new.self c.in_ok-reserve.ensures.ends c.in_ok-reserve.ensures.ok

pub returns-in-Some-clause-ok : goal.returns-in-Some-clause-ok
returns-in-Some-clause-ok g c plan events comes =
    let S = g.S.Shelf in
    let laws = g.met.S.Shelf in
    let shelf =
    shelf_of S.model laws.begins_empty laws.changes_by_effect laws.same_without_effect laws.made_by_effect laws.begins_within laws.grows_within
    laws.widens laws.one_spelling plan in
    let sent : HasSentAgain S.model.snapshot_of S.model.state c.index.result.now (Some c.in-Some.out) = subst (HasSentAgain S.model.snapshot_of S.model.state c.index.result.now) c.in-Some.is c.in_ok-resend.ensures in
    resent (meaning S.model plan) g.R.Records.records S.model.within_limits S.model.within S.model.applied shelf c.args.self.now events c.args.end comes (sym (c.is_live.ensures plan events comes.stands) ∙ c.if-not-is_live.false)
    c.from.result c.index.result.now c.from.ensures c.index.ensures sent.0 c.into_vec.result.items c.in-Some.out c.into_vec.ensures sent.1 c.reserve.new.self c.send_all.new.self c.in_ok-reserve.ensures.lists (c.send_all.ensures.ends ∙ c.in_ok-reserve.ensures.ends) c.send_all.ensures.lists
