-- The three kinds of messages, one behind the other.
use Rattle.std.proofs.Common.{◌≡◌, ℕ, List, [], sym, ◌∙◌, ap, subst, ◌++◌, ◌&&◌, true}
use Rattle.std.specs.List.{flat_map}
use Rattle.partition_table.specs.declared.Row.{Row}
use Rattle.partition_table.specs.Rows.{backups_of, is_empty, is_primary}
use Rattle.partition_protocol.specs.Node.{Node as ProtocolNode}
use Rattle.partition_protocol.specs.Replica.{joined_again, sent_again}
use Rattle.primary_hold.specs.Facts.{node_of, member_of}
use Rattle.primary_hold.specs.Views.{viewed}
use Rattle.replica_node.specs.Decisions.{drained_note}
use Rattle.replica_node.specs.Nodes.{carried_by}
use Rattle.replica_node.specs.Sending.{Sends}
use Rattle.replica_node.proofs.Adoptions.{lagging}
use Rattle.replica_node.proofs.SendLists.{same_sends, sends_append}
use Rattle.replica_node.proofs.node.Node.resend.Goals as goal

pub returns : goal.returns
returns g c =
    let model = g.S.Shelf.model in
    let self = c.args.self.now in
    let service = self.service in
    let node = node_of self.facts in
    let k = carried_by model.snapshot_of model.state self in
    let joined = λ (n : ProtocolNode). flat_map (joined_again service n) (backups_of n.known) in
    let said = λ (n : ProtocolNode). lagging n ++ joined n in
    let known = c.known.result.now in
    let drained = c.is_drained-drained.result in
    let same : said (viewed c.view-view.result) ++ drained_note service known.version drained ≡ sent_again service node =
    ap (λ (n : ProtocolNode). said n ++ drained_note service known.version drained) c.view-view.ensures
    ∙ ap (λ b. said node ++ drained_note service known.version b) c.is_drained-drained.ensures
    ∙ ap (λ (r : Row). said node ++ drained_note service r.version (node.frozen && is_empty node.held)) c.known.ensures in
    let all : Sends k (said (viewed c.view-view.result) ++ drained_note service known.version drained) c.new-out.result c.write_drained.new.out =
    sends_append k (said (viewed c.view-view.result)) (drained_note service known.version drained) c.new-out.result c.send_joined.new.out c.write_drained.new.out
    (sends_append k (lagging (viewed c.view-view.result)) (joined (viewed c.view-view.result)) c.new-out.result c.send_lagging.new.out c.send_joined.new.out
    c.in_ok-send_lagging.ensures (c.in_ok-send_joined.ensures k))
    (c.in_ok-write_drained.ensures k) in
    let leads : is_primary node.known (member_of self.facts) ≡ true = sym c.leads.ensures ∙ c.if-not-leads.false in
    (leads, same_sends k _ _ [] c.write_drained.new.out same (subst (λ (l : List (ℕ × List ℕ)). Sends k (said (viewed c.view-view.result) ++ drained_note service known.version drained) l c.write_drained.new.out) c.new-out.ensures all))
