use Rattle.std.proofs.Common.{◌≡◌, ap, sym, ◌∙◌, true, not, ◌&&◌, map}
use Rattle.std.specs.List.{list_all}
use Rattle.partition_table.specs.Rows.{is_empty}
use Rattle.partition_protocol.specs.Node.{Node, is_released, settled, with_ack}
use Rattle.primary_hold.specs.declared.answer.CallAnswer.{CallAnswer}
use Rattle.primary_hold.specs.Answering.{held_of}
use Rattle.primary_hold.specs.Facts.{node_of}
use Rattle.primary_hold.proofs.Settles.{none_left}
use Rattle.primary_hold.proofs.facts.Facts.drains_with.Goals as goal

pub returns : goal.returns
returns c =
    let held = c.args.self.now.answers.held in
    let node = node_of c.args.self.now in
    let next : Node = record node { acks = with_ack c.args.member c.args.count node.acks } in
    let all = c.are_released_by.ensures ∙ ap (λ (n : Node). list_all (λ (a : CallAnswer). is_released n a.seen) held) c.view_with-view.ensures ∙ none_left next held in
    let frozen : c.args.self.now.frozen ≡ true = c.if-not-self.false in
    let some : not (is_empty (map held_of held)) ≡ true = sym c.holds_any.ensures ∙ c.if-not-holds_any.false in
    all ∙ sym (ap (λ b. b && not (is_empty (map held_of held)) && is_empty (settled next).held) frozen ∙ ap (λ b. b && is_empty (settled next).held) some)
