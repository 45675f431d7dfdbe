use Rattle.std.proofs.Common.{◌∙◌, sym, arith}
use Rattle.replay_run.proofs.Listening.{forgets, forgets_none}
use Rattle.replay_run.proofs.calls.forget_closed.Goals as goal

-- It has closed.
pub returns-then-is_some : goal.returns-then-is_some
returns-then-is_some c = λ r k there its shown are.
    forgets c.args.listeners.now.items r c.args.conn c.args.member c.from.result k there its c.from.ensures (omega (arith, c.from.ensures, c.requires, c.args.listeners.now.ok.0)) c.args.closed shown (sym c.is_some.ensures ∙ c.if-is_some.true)
    c.index_mut.result.now c.drop_connection.new.self c.index_mut.ensures.value c.drop_connection.ensures are

-- It is open.
pub returns-else-is_some : goal.returns-else-is_some
returns-else-is_some c = λ r k there its shown are.
    forgets_none c.args.listeners.now.items r c.args.conn k there c.args.closed shown (sym c.is_some.ensures ∙ c.if-is_some.false) are
