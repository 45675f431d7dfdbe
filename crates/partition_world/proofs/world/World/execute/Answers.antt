-- The call is executed or refused at the member's node, and all that it changes of the world is said by its contract.
use Rattle.std.proofs.Common.{◌≡◌, ◌≤◌, cond, ◌==◌, [], ◌++◌, length, slice_set, refl, ap, sym, ◌∙◌, subst}
use Rattle.std.specs.Vec.{with_item}
use Rattle.partition_protocol.specs.Execution.{reached}
use Rattle.partition_protocol.specs.Events.{Call}
use Rattle.partition_protocol.specs.Node.{Pair}
use Rattle.link_net.specs.Links.{sent_to, list_of, spare_of}
use Rattle.replica_node.specs.declared.calls.Called.TheVariants.{Refused}
use Rattle.replica_node.specs.Calls.{HasCalled, HasExecuted}
use Rattle.replica_node.specs.Nodes.{node_of, contents_of}
use Rattle.grid_base.specs.Shelves.{meaning}
use Rattle.partition_world.specs.Worlds.{IsKept}
use Rattle.partition_world.proofs.Effects.{on_err}
use Rattle.partition_world.proofs.Places.{stands_there}
use Rattle.partition_world.proofs.ShelfLaws.{shelf_of}
use Rattle.partition_world.proofs.Quiet.{kept}
use Rattle.partition_world.proofs.Called.{IsCalled, inside, small, few, number_is, kept_kin, refused_run, room, executed_run}
use Rattle.partition_world.proofs.world.World.execute.Goals as goal

pub returns-in_err-reserve-2-clause-err : goal.returns-in_err-reserve-2-clause-err
returns-in_err-reserve-2-clause-err g c events comes =
    let S = g.S.Shelf in
    let met = g.met.S.Shelf in
    let shelf = shelf_of S.model
    met.begins_empty met.changes_by_effect met.same_without_effect met.made_by_effect met.begins_within met.grows_within met.widens met.one_spelling (g.S.Executes.plan_of c.args.env.now) in
    let old = c.args.self.now in
    let new = record old { links = c.reserve-2.new.self; recorder = c.reserve.new.self } in
    let said = c.in_err-reserve-2.ensures in
    let stays = kept _ _ S.model.within_limits S.model.within S.model.applied shelf old events (Call c.args.member c.args.id.conn c.args.id.number c.args.call c.args.now) comes new
    (record { setup = refl; members = refl; size = refl; crashed = refl; service = refl; ends = said.ends; links = said.lists; recorded = c.in_ok-reserve.ensures.records _ comes.stands.agrees.recorded }) refl in
    on_err _ (IsKept (meaning S.model (g.S.Executes.plan_of c.args.env.now)) g.R.Records.records old new events) stays

pub call-requires-clause-small : goal.call-requires-clause-small
call-requires-clause-small g c =
    let S = g.S.Shelf in
    let met = g.met.S.Shelf in
    let shelf = shelf_of S.model
    met.begins_empty met.changes_by_effect met.same_without_effect met.made_by_effect met.begins_within met.grows_within met.widens met.one_spelling (g.S.Executes.plan_of c.args.env.now) in
    let old = c.args.self.now in
    let events = c.requires.comes.0 in
    let comes = c.requires.comes.1 in
    let lives = c.requires.lives events comes in
    let node = c.index_mut-node.result.now in
    let there = stands_there old.nodes.items c.args.member c.from.result node c.from.ensures (inside _ _ S.model.within_limits S.model.within S.model.applied shelf old events c.args.member c.args.id.conn c.args.id.number c.args.call c.args.now comes lives) c.index_mut-node.ensures.value in
    small _ _ S.model.within_limits S.model.within S.model.applied shelf old events c.args.member c.args.id.conn c.args.id.number c.args.call c.args.now comes node there

pub call-requires-clause-fits : goal.call-requires-clause-fits
call-requires-clause-fits g c =
    let S = g.S.Shelf in
    let met = g.met.S.Shelf in
    let shelf = shelf_of S.model
    met.begins_empty met.changes_by_effect met.same_without_effect met.made_by_effect met.begins_within met.grows_within met.widens met.one_spelling (g.S.Executes.plan_of c.args.env.now) in
    let old = c.args.self.now in
    let events = c.requires.comes.0 in
    let comes = c.requires.comes.1 in
    let lives = c.requires.lives events comes in
    let node = c.index_mut-node.result.now in
    let there = stands_there old.nodes.items c.args.member c.from.result node c.from.ensures (inside _ _ S.model.within_limits S.model.within S.model.applied shelf old events c.args.member c.args.id.conn c.args.id.number c.args.call c.args.now comes lives) c.index_mut-node.ensures.value in
    few _ _ S.model.within_limits S.model.within S.model.applied shelf old events c.args.member c.args.id.conn c.args.id.number c.args.call c.args.now comes node there

pub returns-in_err-execution-clause-err : goal.returns-in_err-execution-clause-err
returns-in_err-execution-clause-err g c events comes =
    let S = g.S.Shelf in
    let met = g.met.S.Shelf in
    let shelf = shelf_of S.model
    met.begins_empty met.changes_by_effect met.same_without_effect met.made_by_effect met.begins_within met.grows_within met.widens met.one_spelling (g.S.Executes.plan_of c.args.env.now) in
    let old = c.args.self.now in
    let lives = c.requires.lives events comes in
    let node = c.index_mut-node.result.now in
    let there = stands_there old.nodes.items c.args.member c.from.result node c.from.ensures (inside _ _ S.model.within_limits S.model.within S.model.applied shelf old events c.args.member c.args.id.conn c.args.id.number c.args.call c.args.now comes lives) c.index_mut-node.ensures.value in
    let new = record old { nodes = with_item old.nodes c.from.result c.call.new.self; links = c.reserve-2.new.self; recorder = c.reserve.new.self } in
    let room = c.in_ok-reserve-2.ensures in
    let said = c.in_err-execution.ensures in
    on_err _ (IsKept (meaning S.model (g.S.Executes.plan_of c.args.env.now)) g.R.Records.records old new events)
    (kept_kin _ _ S.model.within_limits S.model.within S.model.applied shelf old events c.args.member c.args.id.conn c.args.id.number c.args.call c.args.now comes node there c.call.new.self said.err said.err.ends new
    (record { setup = refl; members = refl; size = refl; crashed = refl; service = refl; ends = room.ends; links = room.lists; recorded = c.in_ok-reserve.ensures.records _ comes.stands.agrees.recorded })
    (ap (λ i. slice_set old.nodes.items i c.call.new.self) c.from.ensures))

pub returns-in-Refused-clause-ok : goal.returns-in-Refused-clause-ok
returns-in-Refused-clause-ok g c events comes =
    let S = g.S.Shelf in
    let met = g.met.S.Shelf in
    let plan = g.S.Executes.plan_of c.args.env.now in
    let shelf = shelf_of S.model
    met.begins_empty met.changes_by_effect met.same_without_effect met.made_by_effect met.begins_within met.grows_within met.widens met.one_spelling plan in
    let old = c.args.self.now in
    let lives = c.requires.lives events comes in
    let node = c.index_mut-node.result.now in
    let there = stands_there old.nodes.items c.args.member c.from.result node c.from.ensures (inside _ _ S.model.within_limits S.model.within S.model.applied shelf old events c.args.member c.args.id.conn c.args.id.number c.args.call c.args.now comes lives) c.index_mut-node.ensures.value in
    let new = record old { nodes = with_item old.nodes c.from.result c.call.new.self; links = c.reserve-2.new.self; recorder = c.reserve.new.self } in
    let room = c.in_ok-reserve-2.ensures in
    let said : HasCalled S.model plan c.args.id c.args.call c.args.now node c.call.new.self (Refused c.in-Refused.why) =
    subst (HasCalled S.model plan c.args.id c.args.call c.args.now node c.call.new.self) c.in-Refused.is c.in_ok-execution.ensures.ok in
    refused_run _ _ S.model.within_limits S.model.within S.model.applied shelf old events c.args.member c.args.id.conn c.args.id.number c.args.call c.args.now comes node there c.call.new.self said.1 said.1.ends new
    (record { setup = refl; members = refl; size = refl; crashed = refl; service = refl; ends = room.ends; links = room.lists; recorded = c.in_ok-reserve.ensures.records _ comes.stands.agrees.recorded })
    (ap (λ i. slice_set old.nodes.items i c.call.new.self) c.from.ensures) lives c.in-Refused.why said.0

pub send_all-requires : goal.send_all-requires
send_all-requires g c to =
    let S = g.S.Shelf in
    let met = g.met.S.Shelf in
    let shelf = shelf_of S.model
    met.begins_empty met.changes_by_effect met.same_without_effect met.made_by_effect met.begins_within met.grows_within met.widens met.one_spelling (g.S.Executes.plan_of c.args.env.now) in
    let old = c.args.self.now in
    let events = c.requires.comes.0 in
    let comes = c.requires.comes.1 in
    let lives = c.requires.lives events comes in
    let node = c.index_mut-node.result.now in
    let there = stands_there old.nodes.items c.args.member c.from.result node c.from.ensures (inside _ _ S.model.within_limits S.model.within S.model.applied shelf old events c.args.member c.args.id.conn c.args.id.number c.args.call c.args.now comes lives) c.index_mut-node.ensures.value in
    let plan = g.S.Executes.plan_of c.args.env.now in
    let e = c.in-Executed.execution in
    let facts : HasExecuted S.model plan c.args.id c.args.call c.args.now node c.call.new.self e = subst (HasCalled S.model plan c.args.id c.args.call c.args.now node c.call.new.self) c.in-Executed.is c.in_ok-execution.ensures.ok in
    let said : IsCalled (meaning S.model (g.S.Executes.plan_of c.args.env.now)) c.args.id.conn c.args.id.number c.args.call c.args.now node c.call.new.self e.sent e (S.model.state (contents_of node)) = record {
      says = facts.node;
      contents = facts.contents;
      sent = facts.sent;
      fits = facts.fits;
      silent = facts.silent;
      answers = facts.answers;
      ring = facts.ring;
      version = facts.version;
      seen = facts.seen;
      reply = facts.reply;
      held = facts.held;
      ends = facts.ends;
    } in
    let runs = ap (λ m. reached m (node_of node)) (sym (number_is _ _ S.model.within_limits S.model.within S.model.applied shelf old events c.args.member c.args.id.conn c.args.id.number c.args.call c.args.now comes node there)) ∙ facts.reached in
    subst (λ ms. length (sent_to to ms) ≤ spare_of c.reserve-2.new.self c.args.member to) (sym c.into_vec.ensures)
    (room _ _ S.model.within_limits S.model.within S.model.applied shelf old events c.args.member c.args.id.conn c.args.id.number c.args.call c.args.now comes node there lives runs c.call.new.self e.sent e said
    c.reserve-2.new.self c.in_ok-reserve-2.ensures.ok (c.in_ok-reserve-2.ensures.ends ∙ comes.stands.agrees.ends) to)

pub returns-clause-ok : goal.returns-clause-ok
returns-clause-ok g c events comes =
    let S = g.S.Shelf in
    let met = g.met.S.Shelf in
    let shelf = shelf_of S.model
    met.begins_empty met.changes_by_effect met.same_without_effect met.made_by_effect met.begins_within met.grows_within met.widens met.one_spelling (g.S.Executes.plan_of c.args.env.now) in
    let old = c.args.self.now in
    let lives = c.requires.lives events comes in
    let node = c.index_mut-node.result.now in
    let there = stands_there old.nodes.items c.args.member c.from.result node c.from.ensures (inside _ _ S.model.within_limits S.model.within S.model.applied shelf old events c.args.member c.args.id.conn c.args.id.number c.args.call c.args.now comes lives) c.index_mut-node.ensures.value in
    let plan = g.S.Executes.plan_of c.args.env.now in
    let e = c.in-Executed.execution in
    let facts : HasExecuted S.model plan c.args.id c.args.call c.args.now node c.call.new.self e = subst (HasCalled S.model plan c.args.id c.args.call c.args.now node c.call.new.self) c.in-Executed.is c.in_ok-execution.ensures.ok in
    let said : IsCalled (meaning S.model (g.S.Executes.plan_of c.args.env.now)) c.args.id.conn c.args.id.number c.args.call c.args.now node c.call.new.self e.sent e (S.model.state (contents_of node)) = record {
      says = facts.node;
      contents = facts.contents;
      sent = facts.sent;
      fits = facts.fits;
      silent = facts.silent;
      answers = facts.answers;
      ring = facts.ring;
      version = facts.version;
      seen = facts.seen;
      reply = facts.reply;
      held = facts.held;
      ends = facts.ends;
    } in
    let runs = ap (λ m. reached m (node_of node)) (sym (number_is _ _ S.model.within_limits S.model.within S.model.applied shelf old events c.args.member c.args.id.conn c.args.id.number c.args.call c.args.now comes node there)) ∙ facts.reached in
    let new = record old { nodes = with_item old.nodes c.from.result c.call.new.self; links = c.send_all.new.self; recorder = c.record.new.self } in
    let room = c.in_ok-reserve-2.ensures in
    executed_run _ _ S.model.within_limits S.model.within S.model.applied shelf old events c.args.member c.args.id.conn c.args.id.number c.args.call c.args.now comes node there lives runs c.call.new.self e.sent e said new
    refl refl refl refl refl (c.send_all.ensures.ends ∙ room.ends)
    (λ f t. c.send_all.ensures.lists f t ∙ ap (λ bs. bs ++ cond (f == c.args.member) (sent_to t c.into_vec.result.items) []) (room.lists f t) ∙ ap (λ ms. list_of old.links f t ++ cond (f == c.args.member) (sent_to t ms) []) c.into_vec.ensures)
    c.came_to-outcome.result c.came_to-outcome.ensures
    (c.record.ensures _ (c.in_ok-reserve.ensures.records _ comes.stands.agrees.recorded))
    (ap (λ i. slice_set old.nodes.items i c.call.new.self) c.from.ensures)
