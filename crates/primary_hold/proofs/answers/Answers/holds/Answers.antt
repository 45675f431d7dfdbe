use Rattle.std.proofs.Common.{◌∙◌, sym, drop, ◌==◌, ◌&&◌}
use Rattle.partition_protocol.specs.Node.{Held}
use Rattle.primary_hold.specs.Answering.{held_of}
use Rattle.primary_hold.proofs.AnswerLists.{list_any-map}
use Rattle.primary_hold.proofs.answers.Answers.holds.Goals as goal

pub returns : goal.returns
returns c =
    rw (← c.self.view_is) (c.has_call.ensures ∙ sym (list_any-map (λ (h : Held). (h.conn == c.args.id.conn) && (h.number == c.args.id.number)) held_of (drop c.self.inside.ready c.self.inside.list.items)))
