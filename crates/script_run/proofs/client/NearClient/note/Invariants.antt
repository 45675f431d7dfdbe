use Rattle.std.proofs.Common.{◌≡◌, ◌++◌, take}
use Rattle.script_run.specs.Outputs.{sent_to, messages_in}
use Rattle.script_run.proofs.client.NearClient.note.Given as goal

-- the messages so far were noted, and nothing else changed
abbrev pub invariant-loop-one : goal.invariant-loop-one
invariant-loop-one l =
    (l.self.output.items ≡ l.fn.self.output.items ++ sent_to l.fn.self.conn (messages_in (take l.one-index l.told))) × ((record l.self { output = l.fn.self.output }) ≡ l.fn.self)
