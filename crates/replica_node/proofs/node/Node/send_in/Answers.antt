-- A primary that goes on sends each backup what it lacks, and else the whole contents, as far as they are kept.
use Rattle.std.proofs.Common.{◌≡◌, true, false, ap, sym, ◌∙◌}
use Rattle.partition_table.specs.Rows.{is_primary}
use Rattle.partition_protocol.specs.Adoption.{stays_primary}
use Rattle.partition_protocol.specs.Node.{Pair}
use Rattle.primary_hold.specs.Adopting.{drops_contents}
use Rattle.primary_hold.specs.Facts.{member_of, node_of}
use Rattle.replica_node.proofs.SendLists.{same_sends}
use Rattle.replica_node.proofs.Adoptions.{whole_to_each, sent_dropped, sent_kept, state_dropped, state_kept}
use Rattle.replica_node.proofs.node.Node.send_in.Goals as goal

pub returns-in_ok-send_contents : goal.returns-in_ok-send_contents
returns-in_ok-send_contents g c =
    let facts = c.args.self.now.facts in
    let m = member_of facts in
    let node = node_of facts in
    let row = c.args.row.now in
    let model = g.S.Shelf.model in
    let leads : is_primary row m ≡ true = sym (c.is_primary.ensures ∙ ap (is_primary row) c.member.ensures) ∙ c.if-not-is_primary.false in
    let drops : drops_contents m row node ≡ true = sym c.drops_contents.ensures ∙ c.if-drops_contents.true in
    same_sends _ _ _ _ _ (sent_dropped m row node leads drops)
    (c.in_ok-send_contents.ensures.sent _ (ap model.snapshot_of (sym (c.empty.ensures ∙ state_dropped model.empty_state m row node (model.state c.args.self.now.shelf) drops))))

pub returns-in_ok-send_contents-2 : goal.returns-in_ok-send_contents-2
returns-in_ok-send_contents-2 g c =
    let facts = c.args.self.now.facts in
    let m = member_of facts in
    let node = node_of facts in
    let row = c.args.row.now in
    let model = g.S.Shelf.model in
    let leads : is_primary row m ≡ true = sym (c.is_primary.ensures ∙ ap (is_primary row) c.member.ensures) ∙ c.if-not-is_primary.false in
    let stays : stays_primary row node m ≡ false = sym c.stays_primary.ensures ∙ c.if-stays_primary.false in
    let drops : drops_contents m row node ≡ false = sym c.drops_contents.ensures ∙ c.if-drops_contents.false in
    let count : node.pair.count ≡ c.count.inside.count = sym (ap (λ (p : Pair). p.count) (c.count.view_is ∙ c.pair.ensures)) in
    same_sends _ _ _ _ _ (ap (whole_to_each row) (sym count) ∙ sent_kept m row node leads stays drops)
    (c.in_ok-send_contents-2.ensures.sent _ (ap model.snapshot_of (sym (state_kept model.empty_state m row node (model.state c.args.self.now.shelf) drops))))
