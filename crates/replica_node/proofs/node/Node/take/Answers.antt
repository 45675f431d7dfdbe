-- What was decided is what the protocol says of the message.
use Rattle.std.proofs.Common.{◌≡◌, sym, ◌∙◌, ap, subst}
use Rattle.partition_protocol.specs.Replica.{Step, taking}
use Rattle.partition_protocol.specs.Took.{Took}
use Rattle.member_wire.specs.Said.{message_of, took_of}
use Rattle.backup_apply.specs.Contents.{Does}
use Rattle.backup_apply.specs.Steps.{took_by as took_by_backup, change_by}
use Rattle.replica_node.specs.Nodes.{node_of, contents_of, ring_of, member_of, service_of}
use Rattle.replica_node.specs.Decisions.{took_by, change_in}
use Rattle.replica_node.specs.Takings.{Leaves}
use Rattle.replica_node.proofs.Leaving.{leaves_so, adopted_ring, adopted_state, staying_ring, staying_state}
use Rattle.replica_node.proofs.Reactions.{backup_took}
use Rattle.replica_node.proofs.Takes.{if_ok, taken_as}
use Rattle.partition_protocol.specs.Adoption.{adopted_row}
use Rattle.replica_node.proofs.node.Node.take.Goals as goal

pub returns-in-Adopts-clause-ok : goal.returns-in-Adopts-clause-ok
returns-in-Adopts-clause-ok g c =
    let model = g.S.Shelf.model in
    let old = c.args.self.now in
    let message = c.args.message.now in
    let m = member_of old in
    let node = node_of old in
    let says = c.in-Adopts.ensures in
    let row = c.in-Adopts.row.now in
    let next = c.in-Adopts.next in
    let step : Step = taking (service_of old) m c.args.from (message_of message) node in
    let same = says.step (service_of old) in
    let took : took_of (took_by_backup next) ≡ step.took = sym (backup_took c.args.from next (adopted_row m row node)) ∙ ap (λ (s : Step). s.took) same in
    if_ok _ _ c.adopt.result (λ taken. taken_as model.snapshot_of model.state _ step _ _ _ _ old c.adopt.new.self taken same (adopted_ring m message row node (ring_of old) says.adopts)
    (λ does. subst (λ (t : Took). Leaves model.within model.empty_state model.applied model.snapshot_of m node message t (model.state (contents_of old)) (model.state (contents_of c.adopt.new.self))) took
    (leaves_so model.within model.empty_state model.applied model.snapshot_of m node message (took_by_backup next) (change_by next) _ _ says.change
    (subst (λ s. Does model.within model.applied model.snapshot_of (change_by next) s (model.state (contents_of c.adopt.new.self))) (adopted_state model.empty_state m message row node (model.state (contents_of old)) says.adopts) does))))
    c.adopt.ensures.ok

pub returns-in-Stays-clause-ok : goal.returns-in-Stays-clause-ok
returns-in-Stays-clause-ok g c =
    let model = g.S.Shelf.model in
    let old = c.args.self.now in
    let message = c.args.message.now in
    let m = member_of old in
    let node = node_of old in
    let says = c.in-Stays.ensures in
    let reaction = c.in-Stays.reaction in
    let step : Step = taking (service_of old) m c.args.from (message_of message) node in
    let same = says.step (service_of old) in
    let took : took_of (took_by reaction) ≡ step.took = ap (λ (s : Step). s.took) same in
    if_ok _ _ c.react.result (λ taken. taken_as model.snapshot_of model.state _ step _ _ _ _ old c.react.new.self taken same (staying_ring m message node (ring_of old) says.adopts)
    (λ does. subst (λ (t : Took). Leaves model.within model.empty_state model.applied model.snapshot_of m node message t (model.state (contents_of old)) (model.state (contents_of c.react.new.self))) took
    (leaves_so model.within model.empty_state model.applied model.snapshot_of m node message (took_by reaction) (change_in reaction) _ _ says.change
    (subst (λ s. Does model.within model.applied model.snapshot_of (change_in reaction) s (model.state (contents_of c.react.new.self))) (staying_state model.empty_state m message node (model.state (contents_of old)) says.adopts) does))))
    c.react.ensures.ok
