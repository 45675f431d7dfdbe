use Rattle.std.proofs.Common.{ap, ◌∙◌, ◌++◌}
use Rattle.std.proofs.lemmas.Result.{on_ok_weaker}
use Rattle.replay_run.specs.Tables.{Table}
use Rattle.replay_run.proofs.Telling.{has_told}
use Rattle.replay_run.proofs.grid.Grid.tell.Goals as goal
use Rattle.replay_run.specs.LineTold.{message_told}

pub returns : goal.returns
returns g c = λ settings r number h are count.
    on_ok_weaker c.tell_message.result
    (λ e. has_told c.args.self.now r c.args.conn number c.args.answer h are count _ c.args.out.now.items c.tell_message.new.out.items
    (ap (λ (t : Table). record c.args.self.now { connections = t }) c.in_ok-reply.ensures.ok)
    (e ∙ ap (λ m. c.args.out.now.items ++ message_told m) c.own_answer.ensures))
    c.tell_message.ensures
