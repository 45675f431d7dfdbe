-- The member takes the message at its node, and all that this changes of the world is said by the node's contract.
use Rattle.std.proofs.Common.{◌≡◌, ◌≤◌, ◌&&◌, nat_lt, slice_set, length, refl, ap, sym, ◌∙◌, subst}
use Rattle.std.specs.Vec.{with_item}
use Rattle.partition_table.specs.declared.Row.{Row}
use Rattle.partition_table.specs.Rows.{is_primary}
use Rattle.link_net.specs.Links.{sent_to, with_sent, list_of, spare_of}
use Rattle.member_wire.specs.Said.{took_of}
use Rattle.replica_node.specs.Nodes.{node_of, contents_of, Ends, member_of}
use Rattle.replica_node.specs.Takings.{Leaves}
use Rattle.grid_base.specs.Shelves.{meaning}
use Rattle.partition_world.specs.Worlds.{IsKept}
use Rattle.partition_world.proofs.Effects.{on_err}
use Rattle.partition_world.proofs.Places.{stands_there}
use Rattle.partition_world.proofs.ServiceTakes.{message_at}
use Rattle.partition_world.proofs.ShelfLaws.{shelf_of}
use Rattle.partition_world.proofs.Delivering.{inside, small, fits, kept_so, member_is, few, newer_begins, older_begins, base_in, step_of, HasTaken, lists_then, recorded_then, rest_then, member_run}
use Rattle.partition_world.proofs.world.World.deliver_to_member.Goals as goal

pub take-requires-clause-small : goal.take-requires-clause-small
take-requires-clause-small g c =
    let S = g.S.Shelf in
    let met = g.met.S.Shelf in
    let shelf = shelf_of S.model
    met.begins_empty met.changes_by_effect met.same_without_effect met.made_by_effect met.begins_within met.grows_within met.widens met.one_spelling c.requires.comes.0 in
    let old = c.args.self.now in
    let events = c.requires.comes.1 in
    let comes = c.requires.comes.2 in
    let lives = c.requires.lives c.requires.comes.0 events comes in
    let node = c.index_mut-node.result.now in
    let there = stands_there old.nodes.items c.args.to c.from.result node c.from.ensures (inside _ _ S.model.within_limits old events comes.stands c.args.to lives) c.index_mut-node.ensures.value in
    small _ _ S.model.within_limits S.model.within S.model.applied shelf old events c.args.from c.args.to c.args.place comes node there

pub take-requires-clause-fits : goal.take-requires-clause-fits
take-requires-clause-fits g c =
    let S = g.S.Shelf in
    let met = g.met.S.Shelf in
    let shelf = shelf_of S.model
    met.begins_empty met.changes_by_effect met.same_without_effect met.made_by_effect met.begins_within met.grows_within met.widens met.one_spelling c.requires.comes.0 in
    let old = c.args.self.now in
    let events = c.requires.comes.1 in
    let comes = c.requires.comes.2 in
    let lives = c.requires.lives c.requires.comes.0 events comes in
    let node = c.index_mut-node.result.now in
    let there = stands_there old.nodes.items c.args.to c.from.result node c.from.ensures (inside _ _ S.model.within_limits old events comes.stands c.args.to lives) c.index_mut-node.ensures.value in
    let msg = message_at _ _ S.model.within_limits S.model.within S.model.applied shelf old events c.args.from c.args.to c.args.place comes _ refl c.requires.there in
    fits _ _ S.model.within_limits S.model.within S.model.applied shelf old events c.args.from c.args.to c.args.place comes node there msg.0 msg.1 lives c.in_ok-message.message (c.in_ok-message.ensures c.requires.comes.0 events comes msg.0 msg.1)

-- want of memory leaves the member as it was
pub returns-in_err-took-clause-err : goal.returns-in_err-took-clause-err
returns-in_err-took-clause-err g c plan events comes =
    let S = g.S.Shelf in
    let met = g.met.S.Shelf in
    let shelf = shelf_of S.model
    met.begins_empty met.changes_by_effect met.same_without_effect met.made_by_effect met.begins_within met.grows_within met.widens met.one_spelling plan in
    let old = c.args.self.now in
    let node = c.index_mut-node.result.now in
    let there = stands_there old.nodes.items c.args.to c.from.result node c.from.ensures (inside _ _ S.model.within_limits old events comes.stands c.args.to (c.requires.lives plan events comes)) c.index_mut-node.ensures.value in
    let new = record old { nodes = with_item old.nodes c.from.result c.take.new.self; links = c.reserve-2.new.self; recorder = c.reserve.new.self } in
    let room = c.in_ok-reserve-2.ensures in
    let said = c.in_err-took.ensures in
    on_err _ (IsKept (meaning S.model plan) g.R.Records.records old new events)
    (kept_so _ _ S.model.within_limits S.model.within S.model.applied shelf old events c.args.from c.args.to c.args.place comes node there c.take.new.self said.err said.err.ends new
    (record { setup = refl; members = refl; size = refl; crashed = refl; service = refl; ends = room.ends; links = room.lists; recorded = c.in_ok-reserve.ensures.records _ comes.stands.agrees.recorded })
    (ap (λ i. slice_set old.nodes.items i c.take.new.self) c.from.ensures))

pub send_all-requires : goal.send_all-requires
send_all-requires g c to =
    let S = g.S.Shelf in
    let met = g.met.S.Shelf in
    let shelf = shelf_of S.model
    met.begins_empty met.changes_by_effect met.same_without_effect met.made_by_effect met.begins_within met.grows_within met.widens met.one_spelling c.requires.comes.0 in
    let old = c.args.self.now in
    let events = c.requires.comes.1 in
    let comes = c.requires.comes.2 in
    let lives = c.requires.lives c.requires.comes.0 events comes in
    let node = c.index_mut-node.result.now in
    let there = stands_there old.nodes.items c.args.to c.from.result node c.from.ensures (inside _ _ S.model.within_limits old events comes.stands c.args.to lives) c.index_mut-node.ensures.value in
    let msg = message_at _ _ S.model.within_limits S.model.within S.model.applied shelf old events c.args.from c.args.to c.args.place comes _ refl c.requires.there in
    let room = c.in_ok-reserve-2.ensures in
    subst (λ ms. length (sent_to to ms) ≤ spare_of c.lose.new.self c.args.to to) (sym c.into_vec.ensures)
    (few _ _ S.model.within_limits S.model.within S.model.applied shelf old events c.args.from c.args.to c.args.place comes node there msg.0 msg.1 lives c.in_ok-message.message (c.in_ok-message.ensures c.requires.comes.0 events comes msg.0 msg.1)
    _ c.in_ok-took.field-0.sent c.most_sent.result c.reserve-2.new.self c.lose.new.self c.in_ok-took.ensures.ok.sent c.most_sent.ensures room.ok room.ends c.lose.ensures.spare to)

pub returns-clause-ok : goal.returns-clause-ok
returns-clause-ok g c plan events comes =
    let S = g.S.Shelf in
    let met = g.met.S.Shelf in
    let shelf = shelf_of S.model
    met.begins_empty met.changes_by_effect met.same_without_effect met.made_by_effect met.begins_within met.grows_within met.widens met.one_spelling plan in
    let old = c.args.self.now in
    let lives = c.requires.lives plan events comes in
    let node = c.index_mut-node.result.now in
    let moved = c.take.new.self in
    let there = stands_there old.nodes.items c.args.to c.from.result node c.from.ensures (inside _ _ S.model.within_limits old events comes.stands c.args.to lives) c.index_mut-node.ensures.value in
    let msg = message_at _ _ S.model.within_limits S.model.within S.model.applied shelf old events c.args.from c.args.to c.args.place comes _ refl c.requires.there in
    let says = c.in_ok-message.ensures plan events comes msg.0 msg.1 in
    let facts = c.in_ok-took.ensures.ok in
    let taken : HasTaken (meaning S.model plan) S.model.within S.model.applied c.args.from c.in_ok-message.message node moved (took_of c.in_ok-took.field-0.took) c.in_ok-took.field-0.sent = record {
      node = facts.node;
      took_is = facts.took;
      sent = facts.sent;
      fits = facts.fits;
      contents = subst (λ e. Leaves S.model.within e S.model.applied S.model.snapshot_of (member_of node) (node_of node) c.in_ok-message.message (step_of c.args.from c.in_ok-message.message node).took (S.model.state (contents_of node)) (S.model.state (contents_of moved))) (sym (met.begins_empty plan)) facts.contents;
      answers = facts.answers;
      ring = facts.ring;
      ends = facts.ends;
    } in
    let member : member_of moved ≡ c.args.to = ap (λ (e : Ends). e.member) facts.ends ∙ member_is _ _ S.model.within_limits S.model.within S.model.applied shelf old events c.args.from c.args.to c.args.place comes node there msg.0 msg.1 lives c.in_ok-message.message says in
    let begins : c.if-known.begins ≡ (nat_lt (node_of node).known.version (node_of moved).known.version && is_primary (node_of moved).known c.args.to) = elim c.if-known.branch [
      | goal.then-known v ↦ newer_begins c.known.result.now.version c.known-2.result.now.version (node_of node).known.version (node_of moved).known.version c.if-known.begins (is_primary (node_of moved).known c.args.to)
          (ap (λ (r : Row). r.version) c.known.ensures) (ap (λ (r : Row). r.version) c.known-2.ensures) v.if-known.true (v.begins-is ∙ v.is_primary-begins.ensures ∙ ap (is_primary (node_of moved).known) member)
      | goal.else-known v ↦ older_begins c.known.result.now.version c.known-2.result.now.version (node_of node).known.version (node_of moved).known.version c.if-known.begins (is_primary (node_of moved).known c.args.to)
          (ap (λ (r : Row). r.version) c.known.ensures) (ap (λ (r : Row). r.version) c.known-2.ensures) v.begins-is v.if-known.false
    ] in
    let base = c.begun-base.ensures ∙ ap (λ (r : Row). base_in r c.contents-pair.result.pair) c.known-3.ensures ∙ ap (base_in (node_of moved).known) c.contents-pair.ensures.pair in
    let new = record old { nodes = with_item old.nodes c.from.result moved; links = c.send_all.new.self; recorder = c.begin_if.new.self } in
    let room = c.in_ok-reserve-2.ensures in
    member_run _ _ S.model.within_limits S.model.within S.model.applied shelf old events c.args.from c.args.to c.args.place comes node there msg.0 msg.1 lives c.in_ok-message.message says moved (took_of c.in_ok-took.field-0.took) c.in_ok-took.field-0.sent taken
    new c.in_ok-took.field-0.took refl
    (rest_then _ _ S.model.within_limits S.model.within S.model.applied shelf old events c.args.from c.args.to c.args.place comes node there msg.0 msg.1 lives c.in_ok-message.message says moved (took_of c.in_ok-took.field-0.took) c.in_ok-took.field-0.sent taken
    new refl refl refl refl refl (c.send_all.ensures.ends ∙ c.lose.ensures.ends ∙ room.ends)
    (lists_then _ _ S.model.within_limits S.model.within S.model.applied shelf old events c.args.from c.args.to c.args.place comes node there msg.0 msg.1 lives c.in_ok-message.message says moved (took_of c.in_ok-took.field-0.took) c.in_ok-took.field-0.sent taken
    c.reserve-2.new.self c.lose.new.self c.send_all.new.self room.lists c.lose.ensures.lists (λ f t. c.send_all.ensures.lists f t ∙ ap (λ ms. with_sent c.args.to ms (list_of c.lose.new.self) f t) c.into_vec.ensures))
    (recorded_then _ _ S.model.within_limits S.model.within S.model.applied shelf old events c.args.from c.args.to c.args.place comes node there msg.0 msg.1 lives c.in_ok-message.message says moved (took_of c.in_ok-took.field-0.took) c.in_ok-took.field-0.sent taken
    c.reserve.new.self c.begin_if.new.self c.if-known.begins c.begun-base.result (c.in_ok-reserve.ensures.records _ comes.stands.agrees.recorded) c.begin_if.ensures begins base))
    (ap (λ i. slice_set old.nodes.items i moved) c.from.ensures)
