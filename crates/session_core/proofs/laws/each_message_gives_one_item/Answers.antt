use Rattle.session_core.proofs.ItemLists.{one_item_each, items_go_on, nothing_after}
use Rattle.session_core.proofs.laws.each_message_gives_one_item.Goals as goal

pub returns-clause-count : goal.returns-clause-count
returns-clause-count c = one_item_each

pub returns-clause-stay : goal.returns-clause-stay
returns-clause-stay c = items_go_on

pub returns-clause-closed : goal.returns-clause-closed
returns-clause-closed c = nothing_after
