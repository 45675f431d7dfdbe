use Rattle.std.proofs.Common.{◌<◌, Bool, leb, length, sym, ap, subst, ◌∙◌}
use Rattle.std.specs.List.{list_any}
use Rattle.std.proofs.lemmas.Bool.{lt-leb}
use Rattle.link_net.specs.Links.{Lane, has_crowded_link}
use Rattle.link_net.proofs.InOrder.{none_crowded, crowded_by_lanes}
use Rattle.link_net.proofs.links.Links.has_crowded_link.Goals as goal

pub returns-then-messages-most : goal.returns-then-messages-most
returns-then-messages-most c =
    let is_crowded : Lane → Bool = λ lane. leb c.args.most (length lane.list) in
    c.has_crowded_lane.ensures ∙ ap (list_any is_crowded) c.as_slice.ensures.value ∙ sym (crowded_by_lanes _ c.self.invariant.1 c.args.most) ∙ ap (has_crowded_link c.args.most) c.self.view_is

pub returns-else-messages-most : goal.returns-else-messages-most
returns-else-messages-most c =
    let few : c.self.inside.tally.messages < c.args.most = subst (λ n. n < c.args.most) c.messages.ensures c.if-messages-most.false in
    lt-leb c.args.most c.messages.result c.if-messages-most.false
    ∙ sym (none_crowded _ c.self.invariant.1 c.self.inside.tally c.self.invariant.2 c.args.most few) ∙ ap (has_crowded_link c.args.most) c.self.view_is
