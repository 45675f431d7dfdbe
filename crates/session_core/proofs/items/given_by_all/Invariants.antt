use Rattle.std.proofs.Common.{◌≡◌, ◌+◌, ◌++◌}
use Rattle.std.specs.Prelude.{drop}
use Rattle.session_core.specs.Items.{identity_after_all, items_from}
use Rattle.session_core.proofs.items.given_by_all.Given as goal

-- the items so far and those of what is left are those of all, and so is the client
abbrev pub invariant-loop-message : goal.invariant-loop-message
invariant-loop-message l = record {
  conn : l.id.conn ≡ l.fn.first.conn;
  number : l.id.number ≡ l.fn.first.number + l.message-index;
  items : l.items.items ++ items_from l.fn.first.conn l.fn.member l.id.number l.identity (drop l.message-index l.fn.messages) ≡ items_from l.fn.first.conn l.fn.member l.fn.first.number l.fn.identity l.fn.messages;
  identity : identity_after_all l.fn.first.conn l.identity (drop l.message-index l.fn.messages) ≡ identity_after_all l.fn.first.conn l.fn.identity l.fn.messages;
}
