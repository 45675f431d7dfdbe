-- The member has adopted a copy of the row, and all that this changes is told by the steps.
use Rattle.std.proofs.Common.{subst}
use Rattle.partition_table.specs.declared.Row.{Row}
use Rattle.backup_apply.specs.declared.contents.ContentsChange.{ContentsChange}
use Rattle.backup_apply.specs.Steps.{change_by}
use Rattle.primary_hold.specs.Adopting.{HasAdopted}
use Rattle.primary_hold.specs.declared.facts.Facts.{Facts}
use Rattle.replica_node.specs.Nodes.{node_of, member_of, contents_of}
use Rattle.replica_node.specs.Takings.{DoesIn}
use Rattle.replica_node.proofs.Adopted.{has_taken}
use Rattle.replica_node.proofs.node.Node.adopt.Goals as goal

pub returns-clause-ok : goal.returns-clause-ok
returns-clause-ok g c =
    let model = g.S.Shelf.model in
    let old = c.args.self.now in
    let changed = c.in_ok-change_in.ensures in
    let one : HasAdopted old.facts c.adopt.new.self c.in_ok-known.known = subst (λ (f : Facts). HasAdopted f c.adopt.new.self c.in_ok-known.known) changed.facts c.adopt.ensures in
    let has : HasAdopted old.facts c.adopt.new.self c.args.row.now = subst (λ (r : Row). HasAdopted old.facts c.adopt.new.self r) c.in_ok-known.ensures one in
    let does : DoesIn model.within model.empty_state model.applied model.snapshot_of (member_of old) c.args.row.now (node_of old) (change_by c.args.next) (model.state (contents_of old)) (model.state (contents_of c.change_in.new.self)) =
    subst (λ (x : ContentsChange). DoesIn model.within model.empty_state model.applied model.snapshot_of (member_of old) c.args.row.now (node_of old) x (model.state (contents_of old)) (model.state (contents_of c.change_in.new.self))) c.change.ensures changed.ok in
    has_taken model.within model.empty_state model.applied model.snapshot_of model.state old
    (record { facts = c.settle.new.self; service = c.change_in.new.self.service; shelf = c.change_in.new.self.shelf })
    c.args.from c.args.row.now c.args.next c.adopt.new.self c.note.new.facts (record { took = c.took.result; sent = c.write.new.out }) c.new-sent.result c.send_in.new.out
    old.service has c.note.ensures c.settle.ensures changed.service c.requires.sound does c.took.ensures c.new-sent.ensures c.in_ok-send_in.ensures c.in_ok-write.ensures
