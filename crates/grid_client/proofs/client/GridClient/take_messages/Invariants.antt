use Rattle.std.specs.Prelude.{drop, []}
use Rattle.grid_client.specs.Hearing.{told_by_messages}
use Rattle.grid_client.proofs.Telling.{IsLeft}
use Rattle.grid_client.proofs.client.GridClient.take_messages.Given as goal

abbrev pub invariant-loop-message : goal.invariant-loop-message
invariant-loop-message l = IsLeft (told_by_messages l.conn (drop l.message-index l.messages) l.self) (told_by_messages l.fn.conn l.fn.messages l.fn.self) [] l.heard.items
