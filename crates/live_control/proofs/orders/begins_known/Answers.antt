use Rattle.std.proofs.Common.{sym, ap, ◌∙◌}
use Rattle.live_control.specs.Orders.{begins_known}
use Rattle.live_control.proofs.orders.begins_known.Goals as goal

pub returns : goal.returns
returns c = c.is_known.ensures ∙ ap begins_known (sym c.first_word.ensures.1)
