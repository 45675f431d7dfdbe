use Rattle.session_core.proofs.CallsRead.{call_read}
use Rattle.session_core.proofs.items.asked.Goals as goal

pub call_item-requires-clause-place : goal.call_item-requires-clause-place
call_item-requires-clause-place c = (call_read c.args.client c.args.message.now c.in-Ok.call c.in-Ok.ensures).where_is
