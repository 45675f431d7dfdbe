use Rattle.std.proofs.Common.{ap, List, Option, [], ◌∙◌}
use Rattle.session_core.specs.Sessions.{SessionState}
use Rattle.replay_run.specs.declared.connections.CallLines.{CallLines}
use Rattle.replay_run.specs.Tables.{Opened}
use Rattle.replay_run.proofs.Slots.{slot_opened}
use Rattle.replay_run.proofs.connections.Connections.open.Goals as goal

pub returns : goal.returns
returns c =
    slot_opened c.args.self.now c.self.inside.slots.items c.args.conn c.args.member (record { session = c.new.result; calls = c.new-2.result }) c.self.view_is
    (ap {B = Opened} (λ (calls : List (Option CallLines)). record { session = c.new.result; calls = calls }) c.new-2.ensures.items
    ∙ ap {B = Opened} (λ (session : SessionState). record { session = session; calls = [] }) c.new.ensures)
