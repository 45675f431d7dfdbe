use Rattle.std.proofs.Common.{◌∙◌, Some, sym, ap}
use Rattle.link_net.specs.Links.{next_link}
use Rattle.link_net.proofs.InOrder.{no_next, next_within, next_is}
use Rattle.link_net.proofs.links.Links.next_link.Goals as goal

pub returns-in_err-at : goal.returns-in_err-at
returns-in_err-at c = c.from_residual.ensures ∙ sym (no_next _ c.self.invariant.1 c.self.inside.tally c.self.invariant.2 (sym c.first_busy.ensures ∙ c.in_err-at.was)) ∙ ap next_link c.self.view_is

pub link_at-requires : goal.link_at-requires
link_at-requires c = next_within _ c.self.invariant.1 c.self.inside.tally c.self.invariant.2 c.in_ok-at.at (sym c.first_busy.ensures ∙ c.in_ok-at.was)

pub returns : goal.returns
returns c = ap Some c.link_at.ensures ∙ sym (next_is _ c.self.invariant.1 c.self.inside.tally c.self.invariant.2 c.in_ok-at.at (sym c.first_busy.ensures ∙ c.in_ok-at.was)) ∙ ap next_link c.self.view_is
